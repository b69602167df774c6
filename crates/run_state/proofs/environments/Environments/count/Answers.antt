use Rattle.std.proofs.Common.{◌≡◌, Option, Some, refl, sym, ap, subst}
use Rattle.run_model.specs.Environments.{counted_down}
use Rattle.run_model.specs.declared.event.InputTrap.{InputTrap}
use Rattle.run_state.proofs.EnvironmentRing.{Becomes-counted}
use Rattle.run_state.proofs.environments.Environments.count.Goals as goal

pub returns-in-None-clause-counted : goal.returns-in-None-clause-counted
returns-in-None-clause-counted c =
    Becomes-counted c.args.self.now _ c.count.new.self c.args.self.now.in_force.input_trap c.count.ensures
    (subst (λ (trap : Option InputTrap). trap ≡ counted_down trap) (sym c.in-None.is) refl) refl

pub returns-in-Some-clause-counted : goal.returns-in-Some-clause-counted
returns-in-Some-clause-counted c =
    Becomes-counted c.args.self.now c.count_down.new.self c.count.new.self (counted_down (Some c.in-Some.trap)) c.count.ensures
    (ap counted_down (sym c.in-Some.is)) c.count_down.ensures.change
