use Rattle.std.proofs.Common.{[], ◌∷◌, arith, refl, rules, Ok, None}
use Rattle.page_model.specs.declared.event.Event.TheVariants.{Gap, WordEnd}
use Rattle.run_model.specs.declared.event.PageEvent.TheVariants.{Text}
use Rattle.run_events.proofs.DoneEvents.{lines_behind, text_changes_only}
use Rattle.run_events.proofs.Performed.{performs_both, performs_first_halted, performs_first_sprung}
use Rattle.run_events.proofs.formatter.Formatter.gap_behind_word.Goals as goal

pub returns-in-Ok-None : goal.returns-in-Ok-None
returns-in-Ok-None g c =
    performs_both (Text WordEnd) (Text (Gap 1) ∷ []) _ c.end_word.new.self _ _ _ _ c.end_word.result (Ok None) _ (search rules) c.end_word.ensures.performs
    (text_changes_only (Gap 1) _ _ _ (λ g. refl) (λ h. refl) (λ h. refl) (λ h. refl) (λ h. refl)
    (lines_behind (Gap 1) c.end_word.new.self.composer _ (λ trap. refl) c.gap.ensures.stands) (search rules)) (omega arith) (λ few. refl) tt

pub returns-in-Ok-Some : goal.returns-in-Ok-Some
returns-in-Ok-Some g c = performs_first_sprung (Text WordEnd) (Text (Gap 1) ∷ []) _ _ _ _ c.in-Ok-Some.sprung c.end_word.result (search rules) c.end_word.ensures.performs

pub returns-in-Err : goal.returns-in-Err
returns-in-Err g c = performs_first_halted (Text WordEnd) (Text (Gap 1) ∷ []) _ _ _ _ c.in-Err.halt c.in-Err.ensures.performs
