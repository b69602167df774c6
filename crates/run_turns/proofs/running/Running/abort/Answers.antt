use Rattle.run_turns.proofs.DueDone.{aborted_due, failed_due}
use Rattle.run_turns.proofs.running.Running.abort.Goals as goal

pub returns-in-Ok : goal.returns-in-Ok
returns-in-Ok g c = λ failures out. aborted_due c.args.self.now failures out _ _ c.requires (rw c.begun.ensures at c.in-Ok.ensures.ok)

pub returns-in-Err : goal.returns-in-Err
returns-in-Err g c = λ failures out. failed_due c.args.self.now failures out _ _ c.requires (rw c.begun.ensures at c.in-Err.ensures.err)
