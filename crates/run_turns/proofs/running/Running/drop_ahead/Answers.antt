use Rattle.run_turns.proofs.Returning.{drops_ahead-left}
use Rattle.run_turns.proofs.running.Running.drop_ahead.Goals as goal

pub returns : goal.returns
returns c =
    drops_ahead-left c.args.self.now c.go_back.new.self c.leave-back.new.self c.leave-back.result c.requires c.leave-back.ensures.change
    c.leave-back.ensures.back c.go_back.ensures
