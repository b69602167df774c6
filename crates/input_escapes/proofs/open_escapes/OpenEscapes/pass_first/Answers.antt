use Rattle.std.proofs.Common.{sym, ◌∙◌}
use Rattle.input_escapes.proofs.ConditionFronts.{reads-chosen}
use Rattle.input_escapes.proofs.open_escapes.OpenEscapes.pass_first.Goals as goal

pub returns : goal.returns
returns c =
    let a = c.args in
    let top = c.requires.on_top in
    reads-chosen a.negated a.begin a.byte _ a.self.now _ top (sym c.is_argument_byte.ensures ∙ c.if-not-is_argument_byte.false)
    (sym c.begins_expression.ensures ∙ c.if-begins_expression.false) (c.choose.ensures top.text top.rest top.same)
