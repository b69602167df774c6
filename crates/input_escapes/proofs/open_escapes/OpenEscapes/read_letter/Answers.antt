use Rattle.input_escapes.specs.OpenEscape.{Backslash, Comment}
use Rattle.input_escapes.proofs.EscapeFronts.{IsNested-comment, begins-comment, read_in_place}
use Rattle.input_escapes.proofs.open_escapes.OpenEscapes.read_letter.Goals as goal

pub push-requires-clause-stands : goal.push-requires-clause-stands
push-requires-clause-stands c = rw c.pop.ensures (IsNested-comment c.args.self.now.escapes c.requires.nested c.requires.on_top)

pub returns-then-byte-eq34 : goal.returns-then-byte-eq34
returns-then-byte-eq34 c =
    let top = c.requires.on_top in
    rw c.if-byte-eq34.true (read_in_place 34 Backslash Comment top.rest c.args.self.now _ top.same (begins-comment top.rest) (rw c.pop.ensures at c.push.ensures))
