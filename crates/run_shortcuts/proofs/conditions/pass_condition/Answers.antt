use Rattle.std.proofs.Common.{false}
use Rattle.run_shortcuts.proofs.EndsAtOnce.{goes_further_decided}
use Rattle.run_turns.proofs.ComingFurther.{comes_both}
use Rattle.run_shortcuts.proofs.conditions.pass_condition.Goals as goal

pub returns-then-not-pass_expression : goal.returns-then-not-pass_expression
returns-then-not-pass_expression g c = λ out err.
    let ends = c.decide.ensures in
    comes_both false (c.take_condition.ensures.past out err)
    (comes_both false (c.pass_expression.ensures.past out err)
    (goes_further_decided _ _ _ c.pass_expression.ensures.run.none_due ends.waits ends.ends ends.unchanged _ _ _))

pub returns : goal.returns
returns g c = λ out err.
    let ends = c.decide-2.ensures in
    comes_both false (c.take_condition.ensures.past out err)
    (comes_both false (c.pass_expression.ensures.past out err)
    (comes_both false (c.take_condition-2.ensures.past out err)
    (comes_both false (c.pass_expression-2.ensures.past out err)
    (goes_further_decided _ _ _ c.pass_expression-2.ensures.run.none_due ends.waits ends.ends ends.unchanged _ _ _))))
