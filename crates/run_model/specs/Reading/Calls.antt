-- Lines that call bodies: strings and macros (manual, sections 7.2 and 7.3).
use Rattle.std.specs.Prelude.{Option, Some, None, nat_le, length, if◌then◌else◌, ◌==◌}
use Rattle.input_source.specs.Bytes.{newline, quote}
use Rattle.input_model.specs.Input.Names.{body_named}
use Rattle.input_model.specs.Input.Calls.{calling_body}
use Rattle.input_escapes.specs.declared.open_escape.CopyUnit.{CopyUnit}
use Rattle.input_escapes.specs.declared.open_escape.CopyUnit.TheVariants.{Byte, Kept}
use Rattle.run_model.specs.Reading.Items.{PageInput, Taking, going_on}
use Rattle.run_model.specs.Reading.Units.{holding, settling}
use Rattle.roff_num.specs.ShortNames.{name_bytes}
use Rattle.run_model.specs.declared.line_state.LineState.TheVariants.{LineStart, Collecting}
use Rattle.run_model.specs.declared.purpose.Purpose.TheVariants.{Calling}
use Rattle.roff_num.specs.declared.short_name.ShortName.{ShortName}
use Rattle.run_model.specs.declared.request.Called.{Called}
use Rattle.run_model.specs.declared.request.Called.TheVariants.{Request as ARequest, Body as ABody, Nothing as Unknown}
use Rattle.run_model.specs.Requests.{called_by}
use Rattle.input_model.specs.Input.{without_arguments}

-- the arguments of a call are held up to the ninth
abbrev pub holding_call : CopyUnit → PageInput → PageInput
holding_call unit i = if nat_le 9 (length i.arguments.whole) then i else holding unit i

-- a unit behind the name of a body that a line calls: a newline ends the line, and the body is read
abbrev pub call_unit : PageInput → ShortName → CopyUnit → Taking
call_unit i name (Byte b) =
    if b == newline then going_on (calling_body (body_named (name_bytes name) i) i) LineStart
    else if b == quote then going_on (holding_call (Byte b) i) (Collecting (Calling name))
    else going_on (holding_call (Byte b) (settling i)) (Collecting (Calling name))
call_unit i name (Kept b) = going_on (holding_call (Kept b) (settling i)) (Collecting (Calling name))

-- what a name stands for is read as the body of a call without arguments, if it is one
abbrev pub called_last : Called → PageInput → PageInput
called_last (ABody name) i = calling_body (body_named (name_bytes name) i) (without_arguments i)
called_last (ARequest request) i = i
called_last Unknown i = i

-- and so is the last macro, if there is one
abbrev pub last_called : Option ShortName → PageInput → PageInput
last_called None i = i
last_called (Some name) i = called_last (called_by name i.names) i
