use Rattle.std.proofs.Common.{false}
use Rattle.run_turns.proofs.ComingFurther.{comes_any, comes_both}
use Rattle.roff_engine.proofs.stepping.step.Goals as goal

pub returns-then-passed : goal.returns-then-passed
returns-then-passed g c =
    let passed = rw c.if-passed.true at c.in-Ok.ensures in
    comes_any _ passed

pub returns-else-passed : goal.returns-else-passed
returns-else-passed g c =
    let passed = rw c.if-passed.false at c.in-Ok.ensures in
    comes_both false passed c.do_due_and_turn.ensures
