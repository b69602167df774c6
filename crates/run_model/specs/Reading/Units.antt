-- The units of the lines that collect them, and what was found there that is none (manual, section 7.3).
use Rattle.std.specs.Prelude.{Bool, true, false, Some, None, Option, if◌then◌else◌}
use Rattle.input_model.specs.Arguments.{Arguments, with_unit, settled, only_kept}
use Rattle.input_model.specs.Input.{holding_text}
use Rattle.input_escapes.specs.declared.open_escape.CopyUnit.{CopyUnit}
use Rattle.input_escapes.specs.declared.open_escape.CopyUnit.TheVariants.{Kept}
use Rattle.input_escapes.specs.declared.open_escape.Found.{Found}
use Rattle.input_escapes.specs.declared.open_escape.Found.TheVariants.{Unit, Holds, Escape, Asks, Measures, Tells}
use Rattle.run_model.specs.declared.line_state.LineState.{LineState}
use Rattle.run_model.specs.declared.line_state.LineState.TheVariants.{Collecting}
use Rattle.run_model.specs.declared.purpose.Purpose.TheVariants.{Arguments as InArguments, StringName, Calling}
use Rattle.run_model.specs.declared.purpose.Purpose.{Purpose}
use Rattle.run_model.specs.Reading.Escapes.{measuring, asking}
use Rattle.run_model.specs.Reading.Items.{PageInput, Taking, going_on, telling}
use Rattle.run_model.specs.Registers.{Known}

-- a unit is held
abbrev pub holding : CopyUnit → PageInput → PageInput
holding unit i = record i { arguments = only_kept (with_unit i.arguments unit) }

-- the input where no quote follows the quote before
abbrev pub settling : PageInput → PageInput
settling i = record i { arguments = only_kept (settled i.arguments) }

-- whether arguments are collected, in which a quote may wait for another one: of a request, of a call, or those of which a
-- string's name is the first
abbrev pub collects_arguments : Purpose → Bool
collects_arguments (InArguments breaks request) = true
collects_arguments (StringName appends) = true
collects_arguments (Calling name) = true
collects_arguments (_) = false

-- the arguments where this is read and no unit comes: no quote follows the quote before
abbrev pub settled_for : LineState → Arguments → Arguments
settled_for (Collecting purpose) a = if collects_arguments purpose then only_kept (settled a) else a
settled_for (_) a = a

-- the input there
abbrev pub interrupted : LineState → PageInput → PageInput
interrupted reading i = record i { arguments = settled_for reading i.arguments }

-- what was found where a line collects units, or a condition is read, that is no unit; a motion is none there, as it is
-- copied, and a condition decides elsewhere
abbrev pub no_unit_found : Known → PageInput → LineState → Found → Taking
no_unit_found k i reading (Holds unit) = going_on (holding_text unit i) reading
no_unit_found k i reading (Asks purpose name) = asking k i reading purpose name
no_unit_found k i reading (Measures width) = measuring i reading width
no_unit_found k i reading (Tells remark) = telling i reading remark
no_unit_found k i reading (_) = going_on i reading

-- the unit that was found, if one was: of an escape that is no name's, its backslash and byte
abbrev pub unit_in : Found → Option CopyUnit
unit_in (Unit unit) = Some unit
unit_in (Escape b) = Some (Kept b)
unit_in (_) = None

-- what a unit does, or else what is none
abbrev pub unit_or : (CopyUnit → Taking) → Taking → Option CopyUnit → Taking
unit_or does none (Some unit) = does unit
unit_or does none None = none
