use Rattle.run_state.proofs.EnvironmentRing.{Becomes-gone_back}
use Rattle.run_state.proofs.environments.Environments.switch_back.Goals as goal

pub returns-in-Some : goal.returns-in-Some
returns-in-Some c =
    Becomes-gone_back c.in-Some.number c.args.self.now c.turn_to.new.self c.pop.new.self c.in-Some.ensures.rest c.pop.ensures.cap c.turn_to.ensures
