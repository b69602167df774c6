-- The lines that collect units behind a name: arguments, strings, messages, calls, and the fronts of titles.
use Rattle.input_escapes.specs.declared.open_escape.CopyUnit.{CopyUnit}
use Rattle.input_escapes.specs.declared.open_escape.Found.{Found}
use Rattle.run_model.specs.Reading.Arguments.{unit_found}
use Rattle.run_model.specs.Reading.Calls.{call_unit}
use Rattle.run_model.specs.Reading.Items.{PageInput, Taking, going_on}
use Rattle.run_model.specs.Reading.Messages.{message_unit}
use Rattle.run_model.specs.Reading.Strings.{string_name_unit, string_unit}
use Rattle.run_model.specs.Reading.Titles.{title_front_unit}
use Rattle.run_model.specs.Reading.Units.{interrupted, no_unit_found, unit_in, unit_or}
use Rattle.run_model.specs.Registers.{Known}
use Rattle.run_model.specs.declared.line_state.LineState.{LineState}
use Rattle.run_model.specs.declared.line_state.LineState.TheVariants.{TitleFront, Collecting}
use Rattle.run_model.specs.declared.purpose.Purpose.TheVariants.{StringName, StringText, Arguments as InArguments, Telling, Calling}

-- what a unit does there
abbrev pub unit_taking : Known → PageInput → LineState → CopyUnit → Taking
unit_taking k i (Collecting (InArguments breaks request)) = unit_found k i breaks request
unit_taking k i (Collecting (StringName appends)) = string_name_unit i appends
unit_taking k i (Collecting (StringText name appends is_front)) = string_unit i name appends is_front
unit_taking k i (Collecting (Telling aborts is_front)) = message_unit i aborts is_front
unit_taking k i (Collecting (Calling name)) = call_unit i name
unit_taking k i TitleFront = title_front_unit k i
unit_taking k i reading = λ unit. going_on i reading

-- what was found there: a unit, or what is none
abbrev pub collected : Known → PageInput → LineState → Found → Taking
collected k i reading found = unit_or (unit_taking k i reading) (no_unit_found k (interrupted reading i) reading found) (unit_in found)
