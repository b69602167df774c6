use Rattle.run_turns.proofs.GoingOn.{goes_on_quietly}
use Rattle.run_turns.proofs.running.Running.go_on.Goals as goal

pub returns-in-None : goal.returns-in-None
returns-in-None g c = λ failures. rw c.in-None.is (goes_on_quietly c.args.self.now _)

pub returns-in-Some : goal.returns-in-Some
returns-in-Some g c = λ failures. rw c.in-Some.is (c.go_on_behind_event.ensures failures)
