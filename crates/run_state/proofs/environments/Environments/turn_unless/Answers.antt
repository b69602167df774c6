use Rattle.std.proofs.Common.{◌≡◌, false, rules}
use Rattle.run_state.proofs.EnvironmentRing.{Becomes-unless}
use Rattle.run_state.proofs.environments.Environments.turn_unless.Goals as goal

pub returns-then-not-is_there : goal.returns-then-not-is_there
returns-then-not-is_there c =
    let elsewhere : c.args.is_there ≡ false = search rules in
    Becomes-unless c.args.is_there false c.args.self.now c.turn.new.self elsewhere c.turn.ensures
