use Rattle.run_state.proofs.EnvironmentRing.{Becomes-switched}
use Rattle.run_state.proofs.environments.Environments.switch_to.Goals as goal

pub returns-in-Ok-clause-stands : goal.returns-in-Ok-clause-stands
returns-in-Ok-clause-stands c =
    Becomes-switched c.args.number c.args.self.now c.turn_to.new.self c.push.new.self c.in-Ok.ensures.pushed c.turn_to.ensures
