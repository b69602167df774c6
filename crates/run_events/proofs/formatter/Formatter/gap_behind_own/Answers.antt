use Rattle.std.proofs.Common.{refl, rules}
use Rattle.page_model.specs.declared.event.Event.TheVariants.{Gap}
use Rattle.run_model.specs.declared.event.PageEvent.TheVariants.{Text}
use Rattle.run_events.proofs.DoneEvents.{lines_behind, text_changes_only}
use Rattle.run_events.proofs.Springing.{one_free, own_halted, own_sprung, own_then, unfielded}
use Rattle.run_events.proofs.formatter.Formatter.gap_behind_own.Goals as goal

pub returns-in-Ok-None : goal.returns-in-Ok-None
returns-in-Ok-None g c = one_free (Text (Gap c.args.blanks)) _ _ _ _ _ (λ h. refl) (own_then (Text (Gap c.args.blanks)) (λ h. refl) _ c.end_open_word.new.self _ _ _ _ c.end_open_word.result _ (search rules) c.end_open_word.ensures
    (unfielded _ _ _ _ _ _ (text_changes_only (Gap c.args.blanks) _ _ _ (λ g. refl) (λ h. refl) (λ h. refl) (λ h. refl) (λ h. refl)
    (lines_behind (Gap c.args.blanks) c.end_open_word.new.self.composer _ (λ trap. refl) c.gap.ensures.stands) (search rules))))

pub returns-in-Ok-Some : goal.returns-in-Ok-Some
returns-in-Ok-Some g c = one_free (Text (Gap c.args.blanks)) _ _ _ _ _ (λ h. refl) (own_sprung (Text (Gap c.args.blanks)) (λ h. refl) _ _ _ _ c.in-Ok-Some.sprung c.end_open_word.result (search rules) c.end_open_word.ensures)

pub returns-in-Err : goal.returns-in-Err
returns-in-Err g c = one_free (Text (Gap c.args.blanks)) _ _ _ _ _ (λ h. refl) (own_halted (Text (Gap c.args.blanks)) (λ h. refl) _ _ _ _ c.in-Err.halt c.in-Err.ensures)
