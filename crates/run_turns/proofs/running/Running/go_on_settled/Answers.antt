use Rattle.run_turns.proofs.StopsNext.{sprung_done, sprung_ended}
use Rattle.run_turns.proofs.running.Running.go_on_settled.Goals as goal

pub returns-in-Ok : goal.returns-in-Ok
returns-in-Ok g c = λ failures. sprung_done c.args.sprung c.args.self.now _ _ _ (c.in-Ok.ensures failures _)

pub returns-in-Err : goal.returns-in-Err
returns-in-Err g c = λ failures. sprung_ended c.args.sprung c.args.self.now _ _ _ c.in-Err.status (c.in-Err.ensures failures _)
