use Rattle.input_escapes.specs.OpenEscape.{Name}
use Rattle.input_escapes.proofs.EscapeFronts.{read_in_place}
use Rattle.input_escapes.proofs.open_escapes.OpenEscapes.read_on_in_name.Goals as goal

pub returns : goal.returns
returns c =
    let a = c.args in
    let top = c.requires.on_top in
    read_in_place a.byte (Name a.purpose a.part) (Name a.purpose c.in-Some.more) top.rest a.self.now _ top.same (c.in-Some.ensures top.rest)
    (rw c.pop.ensures at c.push.ensures)
