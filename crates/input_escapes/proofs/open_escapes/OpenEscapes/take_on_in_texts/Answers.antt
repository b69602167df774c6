use Rattle.std.proofs.Common.{sym, ◌∙◌, eq-eqb, ne_eqb}
use Rattle.input_escapes.specs.declared.open_escape.ConditionPart.TheVariants.{Compared}
use Rattle.input_escapes.proofs.ConditionFronts.{takes-delimiter, takes-text}
use Rattle.input_escapes.proofs.open_escapes.OpenEscapes.take_on_in_texts.Goals as goal

pub returns-then-byte-delimiter : goal.returns-then-byte-delimiter
returns-then-byte-delimiter c =
    let a = c.args in
    let top = c.requires.on_top in
    takes-delimiter a.negated a.delimiter a.first a.begin a.byte _ a.self.now _ top (sym c.is_argument_byte.ensures ∙ c.if-not-is_argument_byte.false) (eq-eqb a.byte a.delimiter c.if-byte-delimiter.true)
    (c.meet_delimiter.ensures (Compared a.negated a.delimiter a.first) top.text top.rest top.same)

pub returns : goal.returns
returns c =
    let a = c.args in
    takes-text a.negated a.delimiter a.first a.begin a.byte a.self.now _ c.requires.on_top (sym c.is_argument_byte.ensures ∙ c.if-not-is_argument_byte.false) (ne_eqb a.byte a.delimiter c.if-byte-delimiter.false)
    c.hold.ensures
