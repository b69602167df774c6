use Rattle.run_turns.proofs.StopsNext.{settled_ended, settled_then}
use Rattle.run_turns.proofs.running.Running.go_on_once.Goals as goal

pub returns-in-Ok : goal.returns-in-Ok
returns-in-Ok g c = λ failures. settled_then c.args.sprung c.args.self.now _ _ _ _ _ _ (c.in-Ok.ensures failures _) (c.go_on_settled.ensures failures)

pub returns-in-Err : goal.returns-in-Err
returns-in-Err g c = λ failures. settled_ended c.args.sprung c.args.self.now _ _ _ c.in-Err.status (c.in-Err.ensures failures _)
