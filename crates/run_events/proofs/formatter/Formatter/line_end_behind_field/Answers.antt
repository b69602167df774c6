use Rattle.std.proofs.Common.{◌∙◌, refl, sym}
use Rattle.page_model.specs.declared.event.Event.TheVariants.{LineEnd}
use Rattle.run_model.specs.Output.{text_of}
use Rattle.run_model.specs.declared.event.PageEvent.TheVariants.{Text}
use Rattle.run_events.proofs.FieldsEnding.{standing_one, standing_unfielded}
use Rattle.run_events.proofs.formatter.Formatter.line_end_behind_field.Goals as goal

pub returns-then-is_in_field : goal.returns-then-is_in_field
returns-then-is_in_field g c = standing_one (Text LineEnd) _ _ _ _ _ c.line_end_in_field.ensures

pub returns : goal.returns
returns g c = standing_unfielded (Text LineEnd) _ _ _ _ _ (λ h. refl)
    (λ l h stood. sym (c.is_in_field.ensures.open l.line (text_of h) stood.environments.in_force.lines) ∙ c.if-is_in_field.false) c.end_line.ensures
