use Rattle.run_turns.proofs.Returning.{goes_back-behind}
use Rattle.run_turns.proofs.running.Running.go_back.Goals as goal

pub returns : goal.returns
returns c = goes_back-behind c.args.self.now c.resume.new.self c.end_call.new.self _ c.end_call.ensures c.resume.ensures
