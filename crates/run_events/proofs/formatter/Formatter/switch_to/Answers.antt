use Rattle.std.proofs.Common.{refl, rules, ◌≡◌}
use Rattle.roff_num.specs.declared.limit.Limit.TheVariants.{Environments as EnvironmentsLimit}
use Rattle.run_model.specs.Environments.{environments}
use Rattle.run_model.specs.declared.event.PageEvent.TheVariants.{Environment}
use Rattle.run_events.proofs.DoneEvents.{changes_only, stopped_only}
use Rattle.run_events.proofs.Placed.{switch_allowed, switch_refused}
use Rattle.run_events.proofs.formatter.Formatter.switch_to.Goals as goal

pub returns-in-Ok : goal.returns-in-Ok
returns-in-Ok c = λ told. changes_only (Environment c.args.number) (Environment c.args.number) _ _ told (λ rs. refl) (λ g. refl) (λ g. refl) (λ h. refl) (λ h. refl) (λ h. refl)
    (λ l h stood. switch_allowed l h c.args.number (λ more. let wrong = (c.in-Ok.ensures.limit l h stood.environments).1 more in cc))
    (λ l h stood. c.in-Ok.ensures.stands.becomes l (environments h) stood.environments) (search rules)

pub returns-in-Err : goal.returns-in-Err
returns-in-Err c = λ told.
    let is_limit : c.in-Err.limit ≡ EnvironmentsLimit = search rules in
    rw is_limit (stopped_only (Environment c.args.number) (Environment c.args.number) _ _ told EnvironmentsLimit (λ rs. refl) (λ g. refl) (λ g. refl) (λ h. refl)
    (λ l h stood. switch_refused l h c.args.number ((c.in-Err.ensures.limit l h stood.environments).0 refl)))
