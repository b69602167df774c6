use Rattle.std.proofs.Common.{refl}
use Rattle.page_model.specs.declared.event.Event.TheVariants.{Resume}
use Rattle.run_events.proofs.DoneEvents.{lines_behind, text_changes_only}
use Rattle.run_events.proofs.formatter.Formatter.resume.Goals as goal

pub returns : goal.returns
returns c = λ told. text_changes_only Resume _ _ _ (λ g. refl) (λ h. refl) (λ h. refl) (λ h. refl) (λ h. refl)
    (lines_behind Resume c.args.self.now.composer _ (λ trap. refl) c.resume.ensures) refl
