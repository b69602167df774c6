use Rattle.std.proofs.Common.{Bool, ap, refl, sym, true, ◌∙◌, ◌||◌, ne_eqb}
use Rattle.input_source.specs.Bytes.{is_argument_byte}
use Rattle.input_escapes.proofs.EscapeFronts.{reads-comment}
use Rattle.input_escapes.proofs.open_escapes.OpenEscapes.read_on_in_comment.Goals as goal

pub returns-then-byte-eq92 : goal.returns-then-byte-eq92
returns-then-byte-eq92 c = rw c.if-byte-eq92.true (reads-comment 92 true c.args.self.now c.requires refl)

pub returns-else-byte-eq92 : goal.returns-else-byte-eq92
returns-else-byte-eq92 c =
    reads-comment c.args.byte _ c.args.self.now c.requires
    (c.is_argument_byte.ensures ∙ sym (ap (λ (c' : Bool). c' || is_argument_byte c.args.byte) (ne_eqb c.args.byte 92 c.if-byte-eq92.false)))
