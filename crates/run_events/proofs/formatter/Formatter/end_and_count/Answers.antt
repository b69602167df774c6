use Rattle.std.proofs.Common.{[], ◌∷◌, arith, rules}
use Rattle.page_model.specs.declared.event.Event.TheVariants.{Count, LineEnd}
use Rattle.run_model.specs.declared.event.PageEvent.TheVariants.{Text}
use Rattle.run_events.proofs.Performed.{standing, standing_both, standing_halted, standing_sprung}
use Rattle.run_events.proofs.formatter.Formatter.end_and_count.Goals as goal

pub returns-in-Ok-None : goal.returns-in-Ok-None
returns-in-Ok-None g c = standing _ _ _ _ _ _ (standing_both (Text LineEnd) (Text Count ∷ []) _ c.line_end_behind_field.new.self _ _ _ _ c.line_end_behind_field.result c.count.result _ (search rules) c.line_end_behind_field.ensures (standing _ _ _ _ _ _ (c.count.ensures _)) (omega arith) c.further.ensures.told (c.further.ensures.least (omega arith)))

pub returns-in-Ok-Some : goal.returns-in-Ok-Some
returns-in-Ok-Some g c = standing_sprung (Text LineEnd) (Text Count ∷ []) _ _ _ _ c.in-Ok-Some.sprung c.line_end_behind_field.result (search rules) c.line_end_behind_field.ensures

pub returns-in-Err : goal.returns-in-Err
returns-in-Err g c = standing_halted (Text LineEnd) (Text Count ∷ []) _ _ _ _ c.in-Err.halt c.in-Err.ensures
