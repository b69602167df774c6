use Rattle.std.proofs.Common.{refl, rules}
use Rattle.run_model.specs.Environments.{environments}
use Rattle.run_model.specs.declared.event.PageEvent.TheVariants.{InputTrap}
use Rattle.run_events.proofs.DoneEvents.{changes_only}
use Rattle.run_events.proofs.formatter.Formatter.set_input_trap.Goals as goal

pub returns : goal.returns
returns c = λ told. changes_only (InputTrap c.args.trap) (InputTrap c.args.trap) _ _ told (λ rs. refl) (λ g. refl) (λ g. refl) (λ h. refl) (λ h. refl) (λ h. refl) (λ l h stood. refl)
    (λ l h stood. c.set_input_trap.ensures.becomes l (environments h) stood.environments) (search rules)
