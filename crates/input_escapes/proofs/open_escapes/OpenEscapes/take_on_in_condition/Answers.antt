use Rattle.std.proofs.Common.{sym, subst, ◌∙◌}
use Rattle.input_escapes.specs.EscapeTexts.{IsOnTop}
use Rattle.input_escapes.specs.declared.open_escape.ConditionPart.{ConditionPart}
use Rattle.input_escapes.specs.declared.open_escape.HeldEscape.TheVariants.{Condition}
use Rattle.input_escapes.proofs.ConditionFronts.{takes-more}
use Rattle.input_escapes.proofs.open_escapes.OpenEscapes.take_on_in_condition.Goals as goal

pub returns-else-not-is_of_expression : goal.returns-else-not-is_of_expression
returns-else-not-is_of_expression c =
    let a = c.args in
    let top = subst (λ (part : ConditionPart). IsOnTop (Condition part a.begin) a.self.now.escapes) c.in-Expression.is c.requires.on_top in
    takes-more c.in-Expression.negated a.begin a.byte a.self.now _ top (sym c.is_of_expression.ensures ∙ c.if-not-is_of_expression.false) c.hold.ensures
