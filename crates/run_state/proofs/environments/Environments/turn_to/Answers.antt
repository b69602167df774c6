use Rattle.std.proofs.Common.{subst}
use Rattle.run_model.specs.Environments.{ring_turned_unless}
use Rattle.run_state.specs.Environments.Standing.{Becomes}
use Rattle.run_state.proofs.EnvironmentRing.{Becomes-turned_to}
use Rattle.run_state.proofs.environments.Environments.turn_to.Goals as goal

pub returns : goal.returns
returns c =
    let once = c.turn_unless.new.self in
    let first = subst (λ so. Becomes (ring_turned_unless so) c.args.self.now once) c.is-is_there.ensures c.turn_unless.ensures in
    let second = subst (λ so. Becomes (ring_turned_unless so) once c.turn_unless-2.new.self) c.is-is_there-2.ensures c.turn_unless-2.ensures in
    Becomes-turned_to c.args.number c.args.self.now once c.turn_unless-2.new.self first second
