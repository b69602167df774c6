use Rattle.std.proofs.Common.{◌≡◌, refl, rules}
use Rattle.roff_num.specs.declared.limit.Limit.TheVariants.{Line}
use Rattle.page_model.specs.declared.event.Event.TheVariants.{FieldEnd}
use Rattle.run_model.specs.Output.{text_of}
use Rattle.run_model.specs.declared.event.PageEvent.TheVariants.{Text}
use Rattle.run_events.proofs.DoneEvents.{lines_behind, stopped_only, text_changes_only}
use Rattle.run_events.proofs.Placed.{text_refused}
use Rattle.run_events.proofs.formatter.Formatter.end_field.Goals as goal

pub returns-in-Ok : goal.returns-in-Ok
returns-in-Ok c = λ told. text_changes_only FieldEnd _ _ _ (λ g. refl) (λ h. refl) (λ h. refl) (λ h. refl) (λ h. refl)
    (lines_behind FieldEnd c.args.self.now.composer _ (λ trap. refl) c.in-Ok.ensures.stands) refl

pub returns-in-Err : goal.returns-in-Err
returns-in-Err c = λ told.
    let is_line : c.in-Err.limit ≡ Line = search rules in
    rw is_line (stopped_only (Text FieldEnd) (Text FieldEnd) _ _ told Line (λ rs. refl) (λ g. refl) (λ g. refl) (λ h. refl)
    (λ l h stood. text_refused l h FieldEnd ((c.in-Err.ensures.limit l.line (text_of h) stood.environments.in_force.lines).0 refl)))
