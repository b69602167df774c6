use Rattle.std.proofs.Common.{[], ◌∷◌, arith, rules}
use Rattle.page_model.specs.declared.event.Event.TheVariants.{Break}
use Rattle.page_model.specs.declared.layout_event.LayoutEvent.TheVariants.{Space}
use Rattle.run_model.specs.declared.event.PageEvent.TheVariants.{Page, Text}
use Rattle.run_events.proofs.Performed.{standing, standing_both, standing_halted, standing_sprung}
use Rattle.run_events.proofs.formatter.Formatter.break_and_space.Goals as goal

pub returns-in-Ok-None : goal.returns-in-Ok-None
returns-in-Ok-None g c = standing _ _ _ _ _ _ (standing_both (Text Break) (Page (Space 1) ∷ []) _ c.break_behind_field.new.self _ _ _ _ c.break_behind_field.result c.space.result _ (search rules) c.break_behind_field.ensures (standing _ _ _ _ _ _ c.space.ensures) (omega arith) c.further.ensures.told (c.further.ensures.least (omega arith)))

pub returns-in-Ok-Some : goal.returns-in-Ok-Some
returns-in-Ok-Some g c = standing_sprung (Text Break) (Page (Space 1) ∷ []) _ _ _ _ c.in-Ok-Some.sprung c.break_behind_field.result (search rules) c.break_behind_field.ensures

pub returns-in-Err : goal.returns-in-Err
returns-in-Err g c = standing_halted (Text Break) (Page (Space 1) ∷ []) _ _ _ _ c.in-Err.halt c.in-Err.ensures
