-- What the code of a text line does, as the definition has it.
use Rattle.std.specs.Option.{option_to_list}
use Rattle.run_model.specs.Events.Lines.{line_events}
use Rattle.run_model.specs.Reading.Items.{PageInput, Taking}
use Rattle.run_model.specs.Requests.{saying}
use Rattle.run_model.specs.declared.line_state.TextStep.{TextStep}

-- what something of a text line does: what is read behind it, and what it means
abbrev pub step_at : PageInput → TextStep → Taking
step_at i step = record {
  input = i;
  reading = step.reading;
  effect = saying (option_to_list step.message) (line_events step.events);
}
