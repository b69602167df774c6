use Rattle.std.proofs.Common.{arith, rules}
use Rattle.run_turns.proofs.StopsNext.{stood_done, stood_ended, stood_first, stood_never, stood_next}
use Rattle.run_turns.proofs.running.Running.go_on_behind_event.Goals as goal

pub loop-left-init : goal.loop-left-init
loop-left-init g c = λ failures. stood_first c.args.first c.args.self.now _

pub loop-left-preserved : goal.loop-left-preserved
loop-left-preserved g c = λ failures.
    stood_next _ _ _ _ _ _ _ _ _ (c.loop-left.invariant failures) c.in-Ok-Some.next c.go_on_once.result (search rules) (c.go_on_once.ensures failures)

pub returns-in-Ok-None : goal.returns-in-Ok-None
returns-in-Ok-None g c = λ failures. stood_done _ _ _ _ _ _ _ _ _ (c.loop-left.invariant failures) c.go_on_once.result (search rules) (c.go_on_once.ensures failures)

pub returns-in-Err : goal.returns-in-Err
returns-in-Err g c = λ failures. stood_ended _ _ _ _ _ _ _ _ _ (c.loop-left.invariant failures) c.in-Err.status (c.in-Err.ensures failures)

pub returns : goal.returns
returns g c = λ failures. stood_never _ _ _ _ _ _ c.loop-left.left (omega (arith, c.loop-left-test.false)) (c.loop-left.invariant failures)
