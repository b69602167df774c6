-- The arguments of requests, and the end of a request's line (manual, sections 1.1 and 7.3).
use Rattle.std.specs.Prelude.{Bool, List, [], ◌∷◌, if◌then◌else◌, ◌==◌}
use Rattle.input_model.specs.Arguments.{no_arguments}
use Rattle.input_source.specs.Bytes.{newline}
use Rattle.input_model.specs.Input.Names.{calling}
use Rattle.input_model.specs.Input.Calls.{arguments_given}
use Rattle.input_escapes.specs.declared.open_escape.CopyUnit.{CopyUnit}
use Rattle.input_escapes.specs.declared.open_escape.CopyUnit.TheVariants.{Byte, Kept}
use Rattle.roff_store.specs.TextCalls.{Call}
use Rattle.run_model.specs.declared.line_state.LineState.{LineState}
use Rattle.run_model.specs.declared.line_state.LineState.TheVariants.{LineStart, Exiting, Collecting}
use Rattle.run_model.specs.declared.purpose.Purpose.TheVariants.{Arguments as InArguments}
use Rattle.run_model.specs.declared.request.Request.{Request}
use Rattle.run_model.specs.declared.request.LineReading.{LineReading}
use Rattle.run_model.specs.declared.request.LineReading.TheVariants.{ByLastLine, ByLines}
use Rattle.run_model.specs.Reading.Definitions.{lines_begun}
use Rattle.run_model.specs.Reading.Items.{PageInput, Taking, going_on}
use Rattle.run_model.specs.Reading.Units.{holding}
use Rattle.run_model.specs.Registers.{Known}
use Rattle.run_model.specs.Requests.{Effect, row_of, request_effect}

-- the input behind calls on names, one after another
abbrev pub calling_all : List Call → PageInput → PageInput
calling_all [] i = i
calling_all (call ∷ calls) i = calling_all calls (calling call i)

-- what is read behind a request's line, by how that is read: behind the last one nothing is
abbrev pub reading_behind : LineReading → LineState
reading_behind ByLastLine = Exiting
reading_behind (_) = LineStart

-- the line of a request has ended, and the request means this: its arguments are released, and what names stand for
-- changes so
abbrev pub ended_by : PageInput → Request → Effect → Taking
ended_by i request effect = record {
  input = calling_all effect.calls (record i { arguments = no_arguments });
  reading = reading_behind (row_of request).line;
  effect = effect;
}

-- the end of a request's line: the request is obeyed
abbrev pub line_ended : Known → PageInput → Bool → Request → Taking
line_ended k i breaks request = ended_by i request (request_effect k breaks request (arguments_given i))

-- the end of a line that was read as arguments, by how it is read
abbrev pub arguments_ended : Known → PageInput → Bool → Request → LineReading → Taking
arguments_ended k i breaks request (ByLines lines) = lines_begun i lines (arguments_given i)
arguments_ended k i breaks request (_) = line_ended k i breaks request

-- a unit behind a request's name is held; a newline ends the line
abbrev pub unit_found : Known → PageInput → Bool → Request → CopyUnit → Taking
unit_found k i breaks request (Byte b) =
    if b == newline then arguments_ended k i breaks request (row_of request).line
    else going_on (holding (Byte b) i) (Collecting (InArguments breaks request))
unit_found k i breaks request (Kept b) = going_on (holding (Kept b) i) (Collecting (InArguments breaks request))
