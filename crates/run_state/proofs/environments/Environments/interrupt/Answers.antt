use Rattle.std.proofs.Common.{refl}
use Rattle.run_state.proofs.EnvironmentRing.{Becomes-interrupted}
use Rattle.run_state.proofs.environments.Environments.interrupt.Goals as goal

pub returns : goal.returns
returns c = Becomes-interrupted c.args.line c.args.self.now _ c.interrupt.new.self c.interrupt.ensures refl
