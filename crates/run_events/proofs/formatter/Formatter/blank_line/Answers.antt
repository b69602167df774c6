use Rattle.std.proofs.Common.{[], ◌∷◌, arith, rules}
use Rattle.page_model.specs.declared.event.Event.TheVariants.{Break, WordEnd}
use Rattle.page_model.specs.declared.layout_event.LayoutEvent.TheVariants.{Space}
use Rattle.run_model.specs.declared.event.PageEvent.TheVariants.{Page, Text}
use Rattle.run_events.proofs.Performed.{performs_first_halted, performs_first_sprung, standing, standing_both}
use Rattle.run_events.proofs.formatter.Formatter.blank_line.Goals as goal

pub returns-in-Ok-None : goal.returns-in-Ok-None
returns-in-Ok-None g c = standing_both (Text WordEnd) (Text Break ∷ Page (Space 1) ∷ []) _ c.end_word.new.self _ _ _ _ c.end_word.result c.break_and_space.result _ (search rules) (standing _ _ _ _ _ _ c.end_word.ensures.performs) c.break_and_space.ensures (omega arith) c.further.ensures.told (c.further.ensures.least (omega arith))

pub returns-in-Ok-Some : goal.returns-in-Ok-Some
returns-in-Ok-Some g c = performs_first_sprung (Text WordEnd) (Text Break ∷ Page (Space 1) ∷ []) _ _ _ _ c.in-Ok-Some.sprung c.end_word.result (search rules) c.end_word.ensures.performs

pub returns-in-Err : goal.returns-in-Err
returns-in-Err g c = performs_first_halted (Text WordEnd) (Text Break ∷ Page (Space 1) ∷ []) _ _ _ _ c.in-Err.halt c.in-Err.ensures.performs
