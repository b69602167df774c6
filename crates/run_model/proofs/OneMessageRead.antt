-- What is done with an item tells one thing at the most: a byte, an end of what is half read, or that of an unfinished line.
--
-- Each function f of reading has its lemma Brief-f here, with a line for each of its cases.
use Rattle.std.proofs.Common.{arith, ◌++◌, ℕ, Bool, true, false, List, Option, Some, None, ◌||◌, ◌&&◌, nat_le, if◌then◌else◌, ◌==◌}
use Rattle.roff_num.specs.declared.short_name.ShortName.{ShortName}
use Rattle.roff_num.specs.ShortNames.{name_at, name_or_none}
use Rattle.input_source.specs.Bytes.{tab, newline, blank, backslash, is_dropped, quote}
use Rattle.input_escapes.specs.OpenEscapes.{byte_read, reading_ended}
use Rattle.input_escapes.specs.declared.open_escape.CopyUnit.{CopyUnit}
use Rattle.input_escapes.specs.declared.open_escape.CopyUnit.TheVariants.{Byte, Kept}
use Rattle.input_escapes.specs.declared.open_escape.Decision.TheVariants.{Is}
use Rattle.input_escapes.specs.declared.open_escape.Found.{Found}
use Rattle.input_escapes.specs.declared.open_escape.Found.TheVariants.{GoesOn, Unit as GivesUnit, Holds, Escape, Asks, Motion, Measures, Tells as Says, Decides}
use Rattle.input_escapes.specs.declared.open_escape.Surroundings.TheVariants.{Arguments as AboveArguments, Copy as AboveCopy}
use Rattle.input_model.specs.Input.{beginning_line, choosing}
use Rattle.input_model.specs.Input.Calls.{arguments_given, last_result, without_last}
use Rattle.run_model.specs.Definitions.{end_mark, front_of, line_from}
use Rattle.run_model.specs.Reading.{undropped_taking, byte_taking, escape_ended, title_read}
use Rattle.run_model.specs.Reading.Arguments.{arguments_ended, line_ended, unit_found, reading_behind}
use Rattle.run_model.specs.Reading.Beginnings.{at_start}
use Rattle.run_model.specs.Reading.Collecting.{collected, unit_taking}
use Rattle.run_model.specs.Reading.Calls.{call_unit}
use Rattle.run_model.specs.Reading.DefinedLines.{behind_definition, definition_found, definition_line, definition_unit}
use Rattle.run_model.specs.Reading.Definitions.{definition_named, lines_begun}
use Rattle.run_model.specs.Reading.Ends.{end_taking}
use Rattle.run_model.specs.Reading.Found.{found_in, place_in}
use Rattle.run_model.specs.Reading.Messages.{message_unit}
use Rattle.run_model.specs.Reading.Strings.{name_read, string_line_ended, string_name_behind, string_name_or_text, string_name_unit, string_unit, string_begun, string_entered}
use Rattle.run_model.specs.Reading.Units.{holding, interrupted, no_unit_found, settling, unit_in}
use Rattle.run_model.specs.Registers.{Known}
use Rattle.run_model.specs.Requests.{called_by, row_of, request_effect}
use Rattle.run_model.specs.declared.definition.DefinitionLine.{DefinitionLine}
use Rattle.run_model.specs.declared.definition.DefinitionLine.TheVariants.{MayBeLast, IsLast, IsText}
use Rattle.run_model.specs.declared.line_state.LineState.{LineState}
use Rattle.run_model.specs.declared.line_state.LineState.TheVariants.{LineStart, Branch, Braced, Text as InText, Control, Name, Deciding, Skipping, Dropped, Told, Exiting, TitleFront, Title as InTitle, Collecting}
use Rattle.run_model.specs.declared.purpose.Purpose.TheVariants.{Arguments as InArguments, StringName, StringText, Telling, Calling, Defining}
use Rattle.run_model.specs.declared.request.Called.{Called}
use Rattle.run_model.specs.declared.request.Called.TheVariants.{Request as ARequest, Body as ABody, Nothing as Unknown}
use Rattle.run_model.specs.declared.request.LineReading.{LineReading}
use Rattle.run_model.specs.declared.request.LineReading.TheVariants.{ByArguments, ByCondition, ByElse, ByLastLine, ByMessage, ByString, ByLines, ByTitle}
use Rattle.run_model.specs.declared.request.LinesFor.{LinesFor}
use Rattle.run_model.specs.declared.request.LinesFor.TheVariants.{Macro, Nobody}
use Rattle.run_model.specs.declared.request.Request.{Request}
use Rattle.page_model.specs.Words.{is_empty}
use Rattle.run_model.proofs.Collected.{of-collected, of-unit_or}
use Rattle.run_model.specs.Reading.Items.{PageInput, going_on}
use Rattle.run_model.specs.Reading.ControlLines.{called_taking, dropped_taking, ends_name, line_taking, name_ended_taking, behind_called, behind_name}
use Rattle.run_model.specs.Reading.Branches.{branch_of, branch_taking, condition_begun, condition_found, decided, is_so, reads_else, skipping_taking, with_result_if}
use Rattle.input_model.specs.Arguments.{no_arguments}
use Rattle.run_model.specs.Requests.Effects.{Effect}
use Rattle.input_escapes.specs.OpenEscape.{unit_bytes}
use Rattle.run_model.proofs.HeldBytes.{held-calling_all, held-definition_dropped, held-definition_grown, held-holding, held-holding_call, held-interrupted, held-result, held-settling, held-string_begun, held-string_emptied, held-string_entered, held-string_grown, held_of}
use Rattle.run_model.proofs.OneMessage.{Brief, Brief-if, Brief-more, IsNamed, NamesRequest, most_held}
use Rattle.run_model.proofs.OneMessageOfRequests.{IsNamedCall, named-called, one-request_effect}
use Rattle.run_model.proofs.OneMessageOfText.{Brief-beginning_found, Brief-behind_part, Brief-no_unit_found, Brief-text_found, Brief-title_ended, Brief-title_found, Brief-title_front_unit}

-- what was found where a line collects units
Brief-collected : (k : Known) (i : PageInput) (reading : LineState) (found : Found) → NamesRequest reading
    → ((unit : CopyUnit) → Brief (most_held i) (unit_taking k i reading unit)) → Brief (most_held i) (collected k i reading found)
Brief-collected k i reading found named units =
    of-collected (Brief (most_held i)) k i reading found units
    (Brief-more (no_unit_found k (interrupted reading i) reading found) (omega (arith, held-interrupted reading i)) (Brief-no_unit_found k (interrupted reading i) reading found named))

-- the end of a request's line
Brief-definition_named : (i : PageInput) (appends : Bool) (name : Option (Option ShortName)) (end : Option ShortName) → Brief (most_held i) (definition_named i appends name end)
Brief-definition_named i appends None end = (tt, tt, omega arith)
Brief-definition_named i appends (Some None) end = (tt, tt, omega arith)
Brief-definition_named i appends (Some (Some name)) end = (tt, tt, omega arith)

Brief-lines_begun : (i : PageInput) (lines : LinesFor) (as_given : List (List ℕ)) → Brief (most_held i) (lines_begun i lines as_given)
Brief-lines_begun i (Macro appends) as_given = Brief-definition_named i appends (name_at 0 as_given) (name_or_none (name_at 1 as_given))
Brief-lines_begun i Nobody as_given = (tt, tt, omega arith)

named-reading_behind : (line : LineReading) → NamesRequest (reading_behind line)
named-reading_behind ByArguments = tt
named-reading_behind (ByCondition keeps) = tt
named-reading_behind ByElse = tt
named-reading_behind ByLastLine = tt
named-reading_behind (ByMessage aborts) = tt
named-reading_behind (ByString appends) = tt
named-reading_behind (ByLines lines) = tt
named-reading_behind ByTitle = tt

Brief-line_ended : (k : Known) (i : PageInput) (breaks : Bool) (request : Request) → IsNamed request → Brief (most_held i) (line_ended k i breaks request)
Brief-line_ended k i breaks request named =
    let effect : Effect = request_effect k breaks request (arguments_given i) in
    let released : PageInput = record i { arguments = no_arguments } in
    (one-request_effect k breaks request (arguments_given i) named, named-reading_behind (row_of request).line, omega (arith, held-calling_all effect.calls released))

Brief-arguments_ended : (k : Known) (i : PageInput) (breaks : Bool) (request : Request) (line : LineReading) → IsNamed request
    → Brief (most_held i) (arguments_ended k i breaks request line)
Brief-arguments_ended k i breaks request (ByLines lines) named = Brief-lines_begun i lines (arguments_given i)
Brief-arguments_ended k i breaks request ByArguments named = Brief-line_ended k i breaks request named
Brief-arguments_ended k i breaks request (ByCondition keeps) named = Brief-line_ended k i breaks request named
Brief-arguments_ended k i breaks request ByElse named = Brief-line_ended k i breaks request named
Brief-arguments_ended k i breaks request ByLastLine named = Brief-line_ended k i breaks request named
Brief-arguments_ended k i breaks request (ByMessage aborts) named = Brief-line_ended k i breaks request named
Brief-arguments_ended k i breaks request ByTitle named = Brief-line_ended k i breaks request named
Brief-arguments_ended k i breaks request (ByString appends) named = Brief-line_ended k i breaks request named

Brief-unit_found : (k : Known) (i : PageInput) (breaks : Bool) (request : Request) (unit : CopyUnit) → IsNamed request → Brief (most_held i) (unit_found k i breaks request unit)
Brief-unit_found k i breaks request (Byte b) named =
    Brief-if (b == newline) _ _ (Brief-arguments_ended k i breaks request (row_of request).line named) (tt, named, held-holding (Byte b) i)
Brief-unit_found k i breaks request (Kept b) named = (tt, named, held-holding (Kept b) i)

-- a dropped line
Brief-dropped_taking : (i : PageInput) (b : ℕ) → Brief (most_held i) (dropped_taking i b)
Brief-dropped_taking i b = by_test (b == newline)
  where
    by_test : (ends : Bool) → Brief (most_held i) (going_on i (if ends then LineStart else Dropped))
    by_test true = (tt, tt, omega arith)
    by_test false = (tt, tt, omega arith)

-- a branch
Brief-skipping_taking : (i : PageInput) (opened closed : ℕ) (behind : Bool) (b : ℕ) → Brief (most_held i) (skipping_taking i opened closed behind b)
Brief-skipping_taking i opened closed true b = (tt, tt, omega arith)
Brief-skipping_taking i opened closed false b = Brief-if (b == backslash) _ _ (tt, tt, omega arith) (Brief-if (b == newline && nat_le opened closed) _ _ (tt, tt, omega arith) (tt, tt, omega arith))

Brief-branch_taking : (k : Known) (i : PageInput) (so : Bool) (b : ℕ) → Brief (most_held i) (branch_taking k i so b)
Brief-branch_taking k i true b =
    let read = byte_read (at_start k) i.escapes b in Brief-beginning_found k (record i { escapes = read.1 }) Branch read.0 tt
Brief-branch_taking k i false b = Brief-skipping_taking i 0 0 false b

Brief-decided : (k : Known) (i : PageInput) (so : Bool) (freed : Option ℕ) → Brief (most_held i) (decided k i so freed)
Brief-decided k i true None = (tt, tt, omega arith)
Brief-decided k i false None = (tt, tt, omega arith)
Brief-decided k i so (Some b) = Brief-branch_taking k i so b

Brief-condition_found : (k : Known) (i : PageInput) (keeps : Bool) (found : Found) → Brief (most_held i) (condition_found k i keeps found)
Brief-condition_found k i keeps (Decides decision freed) =
    let j : PageInput = with_result_if keeps (is_so k decision) i in
    Brief-more (decided k j (is_so k decision) freed) (omega (arith, held-result keeps (is_so k decision) i)) (Brief-decided k j (is_so k decision) freed)
Brief-condition_found k i keeps GoesOn = Brief-no_unit_found k i (Deciding keeps) GoesOn tt
Brief-condition_found k i keeps (GivesUnit unit) = Brief-no_unit_found k i (Deciding keeps) (GivesUnit unit) tt
Brief-condition_found k i keeps (Escape b) = Brief-no_unit_found k i (Deciding keeps) (Escape b) tt
Brief-condition_found k i keeps (Holds unit) = Brief-no_unit_found k i (Deciding keeps) (Holds unit) tt
Brief-condition_found k i keeps (Asks purpose name) = Brief-no_unit_found k i (Deciding keeps) (Asks purpose name) tt
Brief-condition_found k i keeps (Motion columns remark) = Brief-no_unit_found k i (Deciding keeps) (Motion columns remark) tt
Brief-condition_found k i keeps (Measures width) = Brief-no_unit_found k i (Deciding keeps) (Measures width) tt
Brief-condition_found k i keeps (Says remark) = Brief-no_unit_found k i (Deciding keeps) (Says remark) tt

Brief-condition_begun : (k : Known) (i : PageInput) (keeps : Bool) (b : ℕ) → Brief (most_held i) (condition_begun k i keeps b)
Brief-condition_begun k i keeps b =
    let read = byte_read AboveArguments (choosing i).escapes b in
    Brief-if (b == newline) _ _ (Brief-condition_found k i keeps (Decides (Is false) (Some b)))
    (Brief-condition_found k (record i { escapes = read.1 }) keeps read.0)

-- a string
Brief-string_unit : (i : PageInput) (name : Option ShortName) (appends is_front : Bool) (unit : CopyUnit) → Brief (most_held i) (string_unit i name appends is_front unit)
Brief-string_unit i name appends is_front (Byte b) =
    Brief-if (b == newline) _ _ (tt, tt, omega (arith, held-string_entered name appends i))
    (Brief-if (is_front && b == blank) _ _ (tt, tt, omega arith)
    (Brief-if (is_front && b == quote) _ _ (tt, tt, omega arith) (tt, tt, omega (arith, held-string_grown name (Byte b) i))))
Brief-string_unit i name appends is_front (Kept b) = (tt, tt, omega (arith, held-string_grown name (Kept b) i))

Brief-string_line_ended : (i : PageInput) (appends : Bool) (name : Option (Option ShortName)) → Brief (most_held i) (string_line_ended i appends name)
Brief-string_line_ended i appends None = (tt, tt, omega arith)
Brief-string_line_ended i appends (Some name) = (tt, tt, omega (arith, held-string_emptied name appends (record i { arguments = no_arguments })))

Brief-string_name_behind : (i : PageInput) (appends : Bool) (name : Option (Option ShortName)) → Brief (held_of i) (string_name_behind i appends name)
Brief-string_name_behind i appends None = (tt, tt, omega arith)
Brief-string_name_behind i appends (Some name) = (tt, tt, omega (arith, held-string_begun name i))

Brief-string_name_or_text : (i : PageInput) (appends : Bool) (unit : CopyUnit) (name : Option (Option ShortName)) → Brief (most_held i) (string_name_or_text i appends unit name)
Brief-string_name_or_text i appends unit None =
    Brief-more (string_name_behind (holding unit i) appends (name_read (holding unit i))) (held-holding unit i)
    (Brief-string_name_behind (holding unit i) appends (name_read (holding unit i)))
Brief-string_name_or_text i appends unit (Some name) =
    Brief-more (string_unit (string_begun name i) name appends true unit) (omega (arith, held-string_begun name i))
    (Brief-string_unit (string_begun name i) name appends true unit)

Brief-string_settled : (i : PageInput) (appends : Bool) (unit : CopyUnit)
    → Brief (most_held i) (string_name_or_text (settling i) appends unit (name_read (settling i)))
Brief-string_settled i appends unit =
    Brief-more (string_name_or_text (settling i) appends unit (name_read (settling i))) (omega (arith, held-settling i))
    (Brief-string_name_or_text (settling i) appends unit (name_read (settling i)))

Brief-string_name_unit : (i : PageInput) (appends : Bool) (unit : CopyUnit) → Brief (most_held i) (string_name_unit i appends unit)
Brief-string_name_unit i appends (Byte b) =
    Brief-if (b == newline) _ _ (Brief-string_line_ended i appends (name_at 0 (arguments_given i)))
    (Brief-if (b == quote) _ _ (Brief-string_name_or_text i appends (Byte b) (name_read i)) (Brief-string_settled i appends (Byte b)))
Brief-string_name_unit i appends (Kept b) = Brief-string_settled i appends (Kept b)

-- a message
Brief-message_unit : (i : PageInput) (aborts is_front : Bool) (unit : CopyUnit) → Brief (most_held i) (message_unit i aborts is_front unit)
Brief-message_unit i aborts is_front (Byte b) = Brief-if (b == newline) _ _ (tt, tt, omega arith) (Brief-if (is_front && b == blank) _ _ (tt, tt, omega arith) (tt, tt, omega arith))
Brief-message_unit i aborts is_front (Kept b) = (tt, tt, omega arith)

-- a call
Brief-call_unit : (i : PageInput) (name : ShortName) (unit : CopyUnit) → Brief (most_held i) (call_unit i name unit)
Brief-call_unit i name (Byte b) =
    Brief-if (b == newline) _ _ (tt, tt, omega arith)
    (Brief-if (b == quote) _ _ (tt, tt, held-holding_call (Byte b) i) (tt, tt, omega (arith, held-holding_call (Byte b) (settling i), held-settling i)))
Brief-call_unit i name (Kept b) = (tt, tt, omega (arith, held-holding_call (Kept b) (settling i), held-settling i))

-- a byte behind a name
Brief-line_taking : (k : Known) (i : PageInput) (breaks : Bool) (request : Request) (line : LineReading) (b : ℕ) → IsNamed request
    → Brief (most_held i) (line_taking k i breaks request line b)
Brief-line_taking k i breaks request ByArguments b named =
    let read = byte_read AboveArguments i.escapes b in let j : PageInput = record i { escapes = read.1 } in
    Brief-collected k j (Collecting (InArguments breaks request)) read.0 named (λ unit. Brief-unit_found k j breaks request unit named)
Brief-line_taking k i breaks request (ByCondition keeps) b named = Brief-condition_begun k i keeps b
Brief-line_taking k i breaks request (ByString appends) b named =
    let read = byte_read AboveArguments i.escapes b in let j : PageInput = record i { escapes = read.1 } in
    Brief-collected k j (Collecting (StringName appends)) read.0 tt (Brief-string_name_unit j appends)
Brief-line_taking k i breaks request ByLastLine b named =
    let read = byte_read AboveArguments i.escapes b in let j : PageInput = record i { escapes = read.1 } in
    Brief-collected k j (Collecting (InArguments breaks request)) read.0 named (λ unit. Brief-unit_found k j breaks request unit named)
Brief-line_taking k i breaks request (ByMessage aborts) b named =
    let read = byte_read AboveCopy i.escapes b in let j : PageInput = record i { escapes = read.1 } in
    Brief-collected k j (Collecting (Telling aborts true)) read.0 tt (Brief-message_unit j aborts true)
Brief-line_taking k i breaks request (ByLines lines) b named =
    let read = byte_read AboveArguments i.escapes b in let j : PageInput = record i { escapes = read.1 } in
    Brief-collected k j (Collecting (InArguments breaks request)) read.0 named (λ unit. Brief-unit_found k j breaks request unit named)
Brief-line_taking k i breaks request ByTitle b named =
    let read = byte_read AboveArguments i.escapes b in let j : PageInput = record i { escapes = read.1 } in
    Brief-collected k j TitleFront read.0 tt (Brief-title_front_unit k j)
Brief-line_taking k i breaks request ByElse b named = Brief-branch_taking k (without_last i) (reads_else (last_result i)) b

Brief-called_taking : (k : Known) (i : PageInput) (breaks : Bool) (called : Called) (b : ℕ) → IsNamedCall called → Brief (most_held i) (called_taking k i breaks called b)
Brief-called_taking k i breaks (ARequest request) b named = Brief-line_taking k i breaks request (row_of request).line b named
Brief-called_taking k i breaks (ABody name) b named =
    let read = byte_read AboveArguments i.escapes b in let j : PageInput = record i { escapes = read.1 } in
    Brief-collected k j (Collecting (Calling name)) read.0 tt (Brief-call_unit j name)
Brief-called_taking k i breaks Unknown b named = Brief-dropped_taking i b

Brief-name_ended_taking : (k : Known) (i : PageInput) (breaks : Bool) (name : ShortName) (b : ℕ) → Brief (most_held i) (name_ended_taking k i breaks name b)
Brief-name_ended_taking k i breaks name b = Brief-called_taking k i breaks (called_by name i.names) b (named-called name i.names)

-- the last byte of a name of two bytes
Brief-branch : (i : PageInput) (so : Bool) → Brief (most_held i) (going_on i (branch_of so))
Brief-branch i true = (tt, tt, omega arith)
Brief-branch i false = (tt, tt, omega arith)

Brief-behind_name : (i : PageInput) (breaks : Bool) (request : Request) (line : LineReading) → IsNamed request → Brief (most_held i) (behind_name i breaks request line)
Brief-behind_name i breaks request ByArguments named = (tt, named, omega arith)
Brief-behind_name i breaks request (ByCondition keeps) named = (tt, tt, omega arith)
Brief-behind_name i breaks request (ByString appends) named = (tt, tt, omega arith)
Brief-behind_name i breaks request ByLastLine named = (tt, named, omega arith)
Brief-behind_name i breaks request (ByMessage aborts) named = (tt, tt, omega arith)
Brief-behind_name i breaks request (ByLines lines) named = (tt, named, omega arith)
Brief-behind_name i breaks request ByElse named = Brief-branch (without_last i) (reads_else (last_result i))
Brief-behind_name i breaks request ByTitle named = (tt, tt, omega arith)

Brief-behind_called : (i : PageInput) (breaks : Bool) (called : Called) → IsNamedCall called → Brief (most_held i) (behind_called i breaks called)
Brief-behind_called i breaks (ARequest request) named = Brief-behind_name i breaks request (row_of request).line named
Brief-behind_called i breaks (ABody name) named = (tt, tt, omega arith)
Brief-behind_called i breaks Unknown named = (tt, tt, omega arith)

-- a definition
Brief-behind_definition : (k : Known) (i : PageInput) (end : Option ShortName) (b : ℕ) → Brief (most_held i) (behind_definition k i end b)
Brief-behind_definition k i None b = Brief-dropped_taking i b
Brief-behind_definition k i (Some name) b =
    Brief-more (name_ended_taking k (beginning_line i) true name b) (omega arith) (Brief-name_ended_taking k (beginning_line i) true name b)

Brief-definition_unit : (k : Known) (i : PageInput) (name : Option ShortName) (appends : Bool) (end : Option ShortName) (front : List ℕ) (unit : CopyUnit) (line : DefinitionLine)
    → Brief (most_held i) (definition_unit k i name appends end front unit line)
Brief-definition_unit k i name appends end front unit (MayBeLast matched) = (tt, tt, omega arith)
Brief-definition_unit k i name appends end front unit (IsLast b) =
    Brief-more (behind_definition k (string_entered name appends i) end b) (omega (arith, held-string_entered name appends i))
    (Brief-behind_definition k (string_entered name appends i) end b)
Brief-definition_unit k i name appends end front unit IsText = (tt, tt, omega (arith, held-definition_grown name (front ++ unit_bytes unit) i))

Brief-definition_found : (k : Known) (i : PageInput) (name : Option ShortName) (appends : Bool) (end : Option ShortName) (matched : Option ℕ) (found : Found)
    → Brief (most_held i) (definition_found k i name appends end matched found)
Brief-definition_found k i name appends end matched found =
    of-unit_or (Brief (most_held i)) (definition_line k i name appends end matched) (no_unit_found k i (Collecting (Defining name appends end matched)) found) (unit_in found)
    (λ unit. Brief-definition_unit k i name appends end (front_of (end_mark end) matched) unit (line_from (end_mark end) matched unit))
    (Brief-no_unit_found k i (Collecting (Defining name appends end matched)) found tt)

-- what was found where this is read
Brief-found_in : (k : Known) (i : PageInput) (reading : LineState) (found : Found) → NamesRequest reading → Brief (most_held i) (found_in k i reading found)
Brief-found_in k i LineStart found named = Brief-beginning_found k i LineStart found tt
Brief-found_in k i Branch found named = Brief-beginning_found k i Branch found tt
Brief-found_in k i Braced found named = Brief-beginning_found k i Braced found tt
Brief-found_in k i (InText line) found named = Brief-text_found k i line found
Brief-found_in k i (Collecting (InArguments breaks request)) found named = Brief-collected k i (Collecting (InArguments breaks request)) found named (λ unit. Brief-unit_found k i breaks request unit named)
Brief-found_in k i (Deciding keeps) found named = Brief-condition_found k i keeps found
Brief-found_in k i (Collecting (StringName appends)) found named = Brief-collected k i (Collecting (StringName appends)) found tt (Brief-string_name_unit i appends)
Brief-found_in k i (Collecting (StringText name appends is_front)) found named = Brief-collected k i (Collecting (StringText name appends is_front)) found tt (Brief-string_unit i name appends is_front)
Brief-found_in k i (Collecting (Telling aborts is_front)) found named = Brief-collected k i (Collecting (Telling aborts is_front)) found tt (Brief-message_unit i aborts is_front)
Brief-found_in k i (Collecting (Calling name)) found named = Brief-collected k i (Collecting (Calling name)) found tt (Brief-call_unit i name)
Brief-found_in k i (Collecting (Defining name appends end matched)) found named = Brief-definition_found k i name appends end matched found
Brief-found_in k i (Control breaks) found named = (tt, tt, omega arith)
Brief-found_in k i (Name breaks first) found named = (tt, tt, omega arith)
Brief-found_in k i (Skipping opened closed behind) found named = (tt, tt, omega arith)
Brief-found_in k i Dropped found named = (tt, tt, omega arith)
Brief-found_in k i (Told aborts) found named = (tt, tt, omega arith)
Brief-found_in k i Exiting found named = (tt, tt, omega arith)
Brief-found_in k i TitleFront found named = Brief-collected k i TitleFront found tt (Brief-title_front_unit k i)
Brief-found_in k i (InTitle delimiter) found named = Brief-title_found k i delimiter found

-- a byte that isn't dropped
Brief-read : (k : Known) (reading : LineState) (i : PageInput) (b : ℕ) → NamesRequest reading
    → Brief (most_held i) (found_in k (record i { escapes = (byte_read (place_in k reading) i.escapes b).1 }) reading (byte_read (place_in k reading) i.escapes b).0)
Brief-read k reading i b named =
    let read = byte_read (place_in k reading) i.escapes b in Brief-found_in k (record i { escapes = read.1 }) reading read.0 named

-- one of a title
Brief-title_read : (k : Known) (i : PageInput) (delimiter b : ℕ) (ends : Bool) → Brief (most_held i) (title_read k i delimiter b ends)
Brief-title_read k i delimiter b true = Brief-behind_part i delimiter k.registers.title.part
Brief-title_read k i delimiter b false = Brief-read k (InTitle delimiter) i b tt

Brief-undropped_taking : (k : Known) (reading : LineState) (i : PageInput) (b : ℕ) → NamesRequest reading → Brief (most_held i) (undropped_taking k reading i b)
Brief-undropped_taking k (Control breaks) i b named = Brief-if (b == blank || b == tab) _ _ (tt, tt, omega arith) (Brief-if (ends_name b) _ _ (Brief-dropped_taking i b) (tt, tt, omega arith))
Brief-undropped_taking k (Name breaks first) i b named =
    Brief-if (ends_name b) _ _ (Brief-name_ended_taking k i breaks (record { first = first; second = None }) b)
    (Brief-behind_called i breaks (called_by (record { first = first; second = Some b }) i.names) (named-called (record { first = first; second = Some b }) i.names))
Brief-undropped_taking k (Skipping opened closed behind) i b named = Brief-skipping_taking i opened closed behind b
Brief-undropped_taking k Dropped i b named = Brief-dropped_taking i b
Brief-undropped_taking k (Told aborts) i b named = (tt, tt, omega arith)
Brief-undropped_taking k Exiting i b named = (tt, tt, omega arith)
Brief-undropped_taking k TitleFront i b named = Brief-read k TitleFront i b tt
Brief-undropped_taking k (InTitle delimiter) i b named = Brief-title_read k i delimiter b (is_empty i.escapes && b == delimiter)
Brief-undropped_taking k LineStart i b named = Brief-read k LineStart i b tt
Brief-undropped_taking k Branch i b named = Brief-read k Branch i b tt
Brief-undropped_taking k Braced i b named = Brief-read k Braced i b tt
Brief-undropped_taking k (InText line) i b named = Brief-read k (InText line) i b tt
Brief-undropped_taking k (Collecting purpose) i b named = Brief-read k (Collecting purpose) i b named
Brief-undropped_taking k (Deciding keeps) i b named = Brief-read k (Deciding keeps) i b tt

-- a byte
pub Brief-taking : (k : Known) (reading : LineState) (i : PageInput) (b : ℕ) → NamesRequest reading → Brief (most_held i) (byte_taking k reading i b)
Brief-taking k reading i b named = Brief-if (is_dropped b) _ _ (tt, named, omega (arith, held-interrupted reading i)) (Brief-undropped_taking k reading i b named)

-- the end of what is half read
pub Brief-escape_ended : (k : Known) (reading : LineState) (i : PageInput) → NamesRequest reading → Brief (most_held i) (escape_ended k reading i)
Brief-escape_ended k reading i named =
    let read = reading_ended (place_in k reading) i.escapes in Brief-found_in k (record i { escapes = read.1 }) reading read.0 named

-- the end of an unfinished line with the input
pub Brief-end_taking : (k : Known) (reading : LineState) (i : PageInput) → NamesRequest reading → Brief (most_held i) (end_taking k reading i)
Brief-end_taking k LineStart i named = (tt, tt, omega arith)
Brief-end_taking k Braced i named = (tt, tt, omega arith)
Brief-end_taking k (Control breaks) i named = (tt, tt, omega arith)
Brief-end_taking k (Deciding keeps) i named = (tt, tt, omega arith)
Brief-end_taking k (Collecting (StringName appends)) i named = (tt, tt, (Brief-string_line_ended i appends (name_at 0 (arguments_given i))).2)
Brief-end_taking k (Collecting (StringText name appends is_front)) i named = (tt, tt, omega (arith, held-string_entered name appends i))
Brief-end_taking k (Skipping opened closed behind) i named = (tt, tt, omega arith)
Brief-end_taking k Dropped i named = (tt, tt, omega arith)
Brief-end_taking k (Told aborts) i named = (tt, tt, omega arith)
Brief-end_taking k TitleFront i named = Brief-undropped_taking k TitleFront i newline named
Brief-end_taking k (InTitle delimiter) i named = Brief-title_ended k i
Brief-end_taking k Exiting i named = (tt, tt, omega arith)
Brief-end_taking k (Collecting (Defining name appends end matched)) i named = (tt, tt, omega (arith, held-definition_dropped name i))
Brief-end_taking k Branch i named = Brief-undropped_taking k Branch i newline named
Brief-end_taking k (InText line) i named = Brief-undropped_taking k (InText line) i newline named
Brief-end_taking k (Name breaks first) i named = Brief-undropped_taking k (Name breaks first) i newline named
Brief-end_taking k (Collecting (InArguments breaks request)) i named = Brief-undropped_taking k (Collecting (InArguments breaks request)) i newline named
Brief-end_taking k (Collecting (Calling name)) i named = Brief-undropped_taking k (Collecting (Calling name)) i newline named
Brief-end_taking k (Collecting (Telling aborts is_front)) i named = Brief-undropped_taking k (Collecting (Telling aborts is_front)) i newline named
