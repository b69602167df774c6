use Rattle.run_turns.proofs.ComingFurther.{comes_none}
use Rattle.run_shortcuts.proofs.conditions.pass_expression.Goals as goal

pub returns-then-not-is_ended_by-clause-past : goal.returns-then-not-is_ended_by-clause-past
returns-then-not-is_ended_by-clause-past g c = λ out err. comes_none _ _ _ _

pub returns-in_default-clause-past : goal.returns-in_default-clause-past
returns-in_default-clause-past g c = λ out err. comes_none _ _ _ _
