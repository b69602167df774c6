-- What a byte means, or an end: its events are meant, few of them wait, where a condition is read behind it they set the page's number
-- at the most, and nothing but bytes and ends is put in front.
--
-- Each function f of reading has its lemma Means-f here, with a line for each of its cases.
use Rattle.std.proofs.Common.{ℕ, Bool, true, false, List, ◌++◌, Option, Some, None, ◌≡◌, inl, inr, subst, ◌||◌, ◌&&◌, nat_le, if◌then◌else◌, ◌==◌}
use Rattle.roff_num.specs.declared.short_name.ShortName.{ShortName}
use Rattle.roff_num.specs.ShortNames.{name_at, name_bytes, name_or_none}
use Rattle.input_model.specs.Arguments.{no_arguments}
use Rattle.input_source.specs.Bytes.{tab, newline, blank, backslash, is_dropped, quote}
use Rattle.input_escapes.specs.OpenEscapes.{byte_read, reading_ended}
use Rattle.input_escapes.specs.declared.open_escape.CopyUnit.{CopyUnit}
use Rattle.input_escapes.specs.declared.open_escape.CopyUnit.TheVariants.{Byte, Kept}
use Rattle.input_escapes.specs.declared.open_escape.Decision.TheVariants.{Is}
use Rattle.input_escapes.specs.declared.open_escape.Found.{Found}
use Rattle.input_escapes.specs.declared.open_escape.Found.TheVariants.{GoesOn, Unit as GivesUnit, Holds, Escape, Asks, Motion, Measures, Tells as Says, Decides}
use Rattle.input_escapes.specs.declared.open_escape.Surroundings.TheVariants.{Arguments as AboveArguments, Copy as AboveCopy}
use Rattle.input_model.specs.Input.{beginning_line, choosing, Ahead}
use Rattle.input_model.specs.Input.Calls.{arguments_given, called_text, last_result, without_last}
use Rattle.input_model.specs.Input.Names.{body_named}
use Rattle.input_escapes.specs.OpenEscape.{unit_bytes}
use Rattle.run_model.specs.Definitions.{end_mark, front_of, line_from}
use Rattle.run_model.specs.Reading.{undropped_taking, byte_taking, escape_ended, title_read}
use Rattle.run_model.specs.Reading.Arguments.{arguments_ended, line_ended, unit_found, reading_behind}
use Rattle.run_model.specs.Reading.Beginnings.{at_start}
use Rattle.run_model.specs.Reading.Branches.{branch_taking, condition_begun, condition_found, decided, is_so, reads_else, skipping_taking, with_result_if}
use Rattle.run_model.specs.Reading.Collecting.{collected, unit_taking}
use Rattle.run_model.specs.Reading.Calls.{call_unit}
use Rattle.run_model.specs.Reading.ControlLines.{called_taking, ends_name, line_taking, name_ended_taking, behind_called, behind_name}
use Rattle.run_model.specs.Reading.DefinedLines.{behind_definition, definition_found, definition_line, definition_unit}
use Rattle.run_model.specs.Reading.Definitions.{definition_named, lines_begun}
use Rattle.run_model.specs.Reading.Ends.{end_taking, interrupted_end}
use Rattle.run_model.specs.Reading.Found.{found_in, place_in}
use Rattle.run_model.specs.Reading.Items.{PageInput, Taking}
use Rattle.run_model.specs.Reading.Messages.{message_unit}
use Rattle.run_model.specs.Reading.Strings.{name_read, string_line_ended, string_name_behind, string_name_or_text, string_name_unit, string_unit, string_begun, string_entered}
use Rattle.run_model.specs.Reading.Units.{holding, interrupted, no_unit_found, settling, unit_in}
use Rattle.run_model.specs.Registers.{Known}
use Rattle.run_model.specs.Requests.{called_by, request_effect, row_of, PageEvent}
use Rattle.run_model.specs.Requests.Effects.{Effect}
use Rattle.run_model.specs.declared.definition.DefinitionLine.{DefinitionLine}
use Rattle.run_model.specs.declared.definition.DefinitionLine.TheVariants.{MayBeLast, IsLast, IsText}
use Rattle.run_model.specs.declared.line_state.LineState.{LineState}
use Rattle.run_model.specs.declared.line_state.LineState.TheVariants.{LineStart, Branch, Braced, Text as InText, Control, Name, Deciding, Skipping, Dropped, Told, Exiting, TitleFront, Title as InTitle, Collecting}
use Rattle.run_model.specs.declared.purpose.Purpose.TheVariants.{Arguments as InArguments, StringName, StringText, Telling, Calling, Defining}
use Rattle.run_model.specs.declared.line_state.TextLine.{TextLine}
use Rattle.run_model.specs.declared.request.Called.{Called}
use Rattle.run_model.specs.declared.request.Called.TheVariants.{Request as ARequest, Body as ABody, Nothing as Unknown}
use Rattle.run_model.specs.declared.request.LineReading.{LineReading}
use Rattle.run_model.specs.declared.request.LineReading.TheVariants.{ByArguments, ByCondition, ByElse, ByLastLine, ByMessage, ByString, ByLines, ByTitle}
use Rattle.run_model.specs.declared.request.LinesFor.{LinesFor}
use Rattle.run_model.specs.declared.request.LinesFor.TheVariants.{Macro, Nobody}
use Rattle.run_model.specs.declared.request.Request.{Request}
use Rattle.page_model.specs.Words.{is_empty}
use Rattle.run_model.proofs.Collected.{of-collected, of-unit_or}
use Rattle.run_model.specs.Springs.{AreFewBehind}
use Rattle.run_model.proofs.KeepingLines.{Alike-definition_dropped, Alike-definition_grown, Alike-holding_call, Alike-string_begun, Alike-string_emptied, Alike-string_entered, Alike-string_grown}
use Rattle.run_model.proofs.MeantEvents.{MayMean, MayTell, NoCondition, Tellable, few-wait, none, told-meant}
use Rattle.run_model.proofs.GrowingAhead.{Grows, Stays, ahead-called, ahead-calling_all, ahead-interrupted, ahead-result, ahead-same}
use Rattle.run_model.proofs.RequestEvents.{few-request_effect}
use Rattle.run_model.proofs.TextEvents.{Tells-beginning_found, Tells-no_unit_found, Tells-text_found, line_end_told}
use Rattle.run_model.proofs.TitleEvents.{Tells-title_found, Texts-behind_part, Texts-title_ended, Texts-title_front_unit}
use Rattle.run_model.proofs.WaitingFew.{few-waiting}

-- what is done with an item means such events, and puts no others in front of these
abbrev pub Means : List (Ahead PageEvent) → Taking → Type 0
Means before t = MayMean t.reading t.effect.events × Grows before t.input.ahead

tells_mean : (old : LineState) {reading : LineState} {events : List PageEvent} {before behind : List (Ahead PageEvent)}
    → MayTell old reading events × Grows before behind → MayMean reading events × Grows before behind
tells_mean old tells = (told-meant old _ _ tells.0, tells.1)

texts_mean : (reading : LineState) {events : List PageEvent} {before behind : List (Ahead PageEvent)}
    → Tellable reading events × Grows before behind → MayMean reading events × Grows before behind
texts_mean reading texts = (inr texts.0, texts.1)

-- either of two, by a test
Means-if : (before : List (Ahead PageEvent)) (b : Bool) (t u : Taking) → Means before t → Means before u → Means before (if b then t else u)
Means-if before true t u first second = first
Means-if before false t u first second = second

-- the same of an input with the same ahead
Means-same : {before behind : List (Ahead PageEvent)} (t : Taking) → behind ≡ before → Means behind t → Means before t
Means-same t same means = subst (λ (ahead : List (Ahead PageEvent)). Means ahead t) same means

-- what was found where a line collects units
Means-collected : (k : Known) (i : PageInput) (reading : LineState) (found : Found) → ((unit : CopyUnit) → Means i.ahead (unit_taking k i reading unit))
    → Means i.ahead (collected k i reading found)
Means-collected k i reading found means = of-collected (Means i.ahead) k i reading found means (tells_mean reading (Tells-no_unit_found k (interrupted reading i) reading found))

-- the end of a request's line
Means-definition_named : (i : PageInput) (appends : Bool) (name : Option (Option ShortName)) (end : Option ShortName) → Means i.ahead (definition_named i appends name end)
Means-definition_named i appends None end = (inl none, Stays)
Means-definition_named i appends (Some None) end = (inl none, Stays)
Means-definition_named i appends (Some (Some name)) end = (inl none, Stays)

Means-lines_begun : (i : PageInput) (lines : LinesFor) (as_given : List (List ℕ)) → Means i.ahead (lines_begun i lines as_given)
Means-lines_begun i (Macro appends) as_given = Means-definition_named i appends (name_at 0 as_given) (name_or_none (name_at 1 as_given))
Means-lines_begun i Nobody as_given = (inl none, Stays)

over-reading_behind : (line : LineReading) → NoCondition (reading_behind line)
over-reading_behind ByArguments = tt
over-reading_behind (ByCondition keeps) = tt
over-reading_behind ByElse = tt
over-reading_behind ByLastLine = tt
over-reading_behind (ByMessage aborts) = tt
over-reading_behind (ByString appends) = tt
over-reading_behind (ByLines lines) = tt
over-reading_behind ByTitle = tt

Means-line_ended : (k : Known) (i : PageInput) (breaks : Bool) (request : Request) → Means i.ahead (line_ended k i breaks request)
Means-line_ended k i breaks request =
    let few = few-request_effect k breaks request (arguments_given i) in
    let effect : Effect = request_effect k breaks request (arguments_given i) in
    (inr (over-reading_behind (row_of request).line, few.0, few.1), ahead-same (ahead-calling_all effect.calls (record i { arguments = no_arguments })))

Means-arguments_ended : (k : Known) (i : PageInput) (breaks : Bool) (request : Request) (line : LineReading) → Means i.ahead (arguments_ended k i breaks request line)
Means-arguments_ended k i breaks request (ByLines lines) = Means-lines_begun i lines (arguments_given i)
Means-arguments_ended k i breaks request ByArguments = Means-line_ended k i breaks request
Means-arguments_ended k i breaks request (ByCondition keeps) = Means-line_ended k i breaks request
Means-arguments_ended k i breaks request ByElse = Means-line_ended k i breaks request
Means-arguments_ended k i breaks request ByLastLine = Means-line_ended k i breaks request
Means-arguments_ended k i breaks request (ByMessage aborts) = Means-line_ended k i breaks request
Means-arguments_ended k i breaks request ByTitle = Means-line_ended k i breaks request
Means-arguments_ended k i breaks request (ByString appends) = Means-line_ended k i breaks request

Means-unit_found : (k : Known) (i : PageInput) (breaks : Bool) (request : Request) (unit : CopyUnit) → Means i.ahead (unit_found k i breaks request unit)
Means-unit_found k i breaks request (Byte b) =
    Means-if i.ahead (b == newline) _ _ (Means-arguments_ended k i breaks request (row_of request).line) (inl none, Stays)
Means-unit_found k i breaks request (Kept b) = (inl none, Stays)

-- a branch
Means-skipping_taking : (i : PageInput) (opened closed : ℕ) (behind : Bool) (b : ℕ) → Means i.ahead (skipping_taking i opened closed behind b)
Means-skipping_taking i opened closed true b = (inl none, Stays)
Means-skipping_taking i opened closed false b = Means-if i.ahead (b == backslash) _ _ (inl none, Stays) (Means-if i.ahead (b == newline && nat_le opened closed) _ _ (inl none, Stays) (inl none, Stays))

Means-branch_taking : (k : Known) (i : PageInput) (so : Bool) (b : ℕ) → Means i.ahead (branch_taking k i so b)
Means-branch_taking k i true b =
    tells_mean Branch (Tells-beginning_found k (record i { escapes = (byte_read (at_start k) i.escapes b).1 }) Branch (byte_read (at_start k) i.escapes b).0)
Means-branch_taking k i false b = Means-skipping_taking i 0 0 false b

Means-decided : (k : Known) (i : PageInput) (so : Bool) (freed : Option ℕ) → Means i.ahead (decided k i so freed)
Means-decided k i so None = (inl none, Stays)
Means-decided k i so (Some b) = Means-branch_taking k i so b

Means-condition_found : (k : Known) (i : PageInput) (keeps : Bool) (found : Found) → Means i.ahead (condition_found k i keeps found)
Means-condition_found k i keeps (Decides decision freed) =
    let j : PageInput = with_result_if keeps (is_so k decision) i in
    Means-same (decided k j (is_so k decision) freed) (ahead-result keeps (is_so k decision) i) (Means-decided k j (is_so k decision) freed)
Means-condition_found k i keeps GoesOn = tells_mean (Deciding keeps) (Tells-no_unit_found k i (Deciding keeps) GoesOn)
Means-condition_found k i keeps (GivesUnit unit) = tells_mean (Deciding keeps) (Tells-no_unit_found k i (Deciding keeps) (GivesUnit unit))
Means-condition_found k i keeps (Escape b) = tells_mean (Deciding keeps) (Tells-no_unit_found k i (Deciding keeps) (Escape b))
Means-condition_found k i keeps (Holds unit) = tells_mean (Deciding keeps) (Tells-no_unit_found k i (Deciding keeps) (Holds unit))
Means-condition_found k i keeps (Asks purpose name) = tells_mean (Deciding keeps) (Tells-no_unit_found k i (Deciding keeps) (Asks purpose name))
Means-condition_found k i keeps (Motion columns remark) = tells_mean (Deciding keeps) (Tells-no_unit_found k i (Deciding keeps) (Motion columns remark))
Means-condition_found k i keeps (Measures width) = tells_mean (Deciding keeps) (Tells-no_unit_found k i (Deciding keeps) (Measures width))
Means-condition_found k i keeps (Says remark) = tells_mean (Deciding keeps) (Tells-no_unit_found k i (Deciding keeps) (Says remark))

Means-condition_begun : (k : Known) (i : PageInput) (keeps : Bool) (b : ℕ) → Means i.ahead (condition_begun k i keeps b)
Means-condition_begun k i keeps b =
    let read = byte_read AboveArguments (choosing i).escapes b in
    Means-if i.ahead (b == newline) _ _ (Means-condition_found k i keeps (Decides (Is false) (Some b)))
    (Means-condition_found k (record i { escapes = read.1 }) keeps read.0)

-- a string
Means-string_unit : (i : PageInput) (name : Option ShortName) (appends is_front : Bool) (unit : CopyUnit) → Means i.ahead (string_unit i name appends is_front unit)
Means-string_unit i name appends is_front (Byte b) =
    Means-if i.ahead (b == newline) _ _ (inl none, ahead-same (Alike-string_entered name appends i).ahead)
    (Means-if i.ahead (is_front && b == blank) _ _ (inl none, Stays)
    (Means-if i.ahead (is_front && b == quote) _ _ (inl none, Stays) (inl none, ahead-same (Alike-string_grown name (Byte b) i).ahead)))
Means-string_unit i name appends is_front (Kept b) = (inl none, ahead-same (Alike-string_grown name (Kept b) i).ahead)

Means-string_line_ended : (i : PageInput) (appends : Bool) (name : Option (Option ShortName)) → Means i.ahead (string_line_ended i appends name)
Means-string_line_ended i appends None = (inl none, Stays)
Means-string_line_ended i appends (Some name) = (inl none, ahead-same (Alike-string_emptied name appends (record i { arguments = no_arguments })).ahead)

Means-string_name_behind : (i : PageInput) (appends : Bool) (name : Option (Option ShortName)) → Means i.ahead (string_name_behind i appends name)
Means-string_name_behind i appends None = (inl none, Stays)
Means-string_name_behind i appends (Some name) = (inl none, ahead-same (Alike-string_begun name i).ahead)

Means-string_name_or_text : (i : PageInput) (appends : Bool) (unit : CopyUnit) (name : Option (Option ShortName)) → Means i.ahead (string_name_or_text i appends unit name)
Means-string_name_or_text i appends unit None = Means-string_name_behind (holding unit i) appends (name_read (holding unit i))
Means-string_name_or_text i appends unit (Some name) =
    Means-same (string_unit (string_begun name i) name appends true unit) (Alike-string_begun name i).ahead (Means-string_unit (string_begun name i) name appends true unit)

Means-string_name_unit : (i : PageInput) (appends : Bool) (unit : CopyUnit) → Means i.ahead (string_name_unit i appends unit)
Means-string_name_unit i appends (Byte b) =
    Means-if i.ahead (b == newline) _ _ (Means-string_line_ended i appends (name_at 0 (arguments_given i)))
    (Means-if i.ahead (b == quote) _ _ (Means-string_name_or_text i appends (Byte b) (name_read i))
    (Means-string_name_or_text (settling i) appends (Byte b) (name_read (settling i))))
Means-string_name_unit i appends (Kept b) = Means-string_name_or_text (settling i) appends (Kept b) (name_read (settling i))

-- a message
Means-message_unit : (i : PageInput) (aborts is_front : Bool) (unit : CopyUnit) → Means i.ahead (message_unit i aborts is_front unit)
Means-message_unit i aborts is_front (Byte b) = Means-if i.ahead (b == newline) _ _ (inl none, Stays) (Means-if i.ahead (is_front && b == blank) _ _ (inl none, Stays) (inl none, Stays))
Means-message_unit i aborts is_front (Kept b) = (inl none, Stays)

-- a call
Means-call_unit : (i : PageInput) (name : ShortName) (unit : CopyUnit) → Means i.ahead (call_unit i name unit)
Means-call_unit i name (Byte b) =
    Means-if i.ahead (b == newline) _ _ (inl none, ahead-called (called_text (body_named (name_bytes name) i)) 0 i.ahead)
    (Means-if i.ahead (b == quote) _ _ (inl none, ahead-same (Alike-holding_call (Byte b) i).ahead) (inl none, ahead-same (Alike-holding_call (Byte b) (settling i)).ahead))
Means-call_unit i name (Kept b) = (inl none, ahead-same (Alike-holding_call (Kept b) (settling i)).ahead)

-- a byte behind a name
Means-line_taking : (k : Known) (i : PageInput) (breaks : Bool) (request : Request) (line : LineReading) (b : ℕ) → Means i.ahead (line_taking k i breaks request line b)
Means-line_taking k i breaks request ByArguments b =
    let read = byte_read AboveArguments i.escapes b in let j : PageInput = record i { escapes = read.1 } in
    Means-collected k j (Collecting (InArguments breaks request)) read.0 (Means-unit_found k j breaks request)
Means-line_taking k i breaks request (ByCondition keeps) b = Means-condition_begun k i keeps b
Means-line_taking k i breaks request (ByString appends) b =
    let read = byte_read AboveArguments i.escapes b in let j : PageInput = record i { escapes = read.1 } in
    Means-collected k j (Collecting (StringName appends)) read.0 (Means-string_name_unit j appends)
Means-line_taking k i breaks request ByLastLine b =
    let read = byte_read AboveArguments i.escapes b in let j : PageInput = record i { escapes = read.1 } in
    Means-collected k j (Collecting (InArguments breaks request)) read.0 (Means-unit_found k j breaks request)
Means-line_taking k i breaks request (ByMessage aborts) b =
    let read = byte_read AboveCopy i.escapes b in let j : PageInput = record i { escapes = read.1 } in
    Means-collected k j (Collecting (Telling aborts true)) read.0 (Means-message_unit j aborts true)
Means-line_taking k i breaks request (ByLines lines) b =
    let read = byte_read AboveArguments i.escapes b in let j : PageInput = record i { escapes = read.1 } in
    Means-collected k j (Collecting (InArguments breaks request)) read.0 (Means-unit_found k j breaks request)
Means-line_taking k i breaks request ByTitle b =
    let read = byte_read AboveArguments i.escapes b in let j : PageInput = record i { escapes = read.1 } in
    Means-collected k j TitleFront read.0 (λ unit. texts_mean _ (Texts-title_front_unit k j unit))
Means-line_taking k i breaks request ByElse b = Means-branch_taking k (without_last i) (reads_else (last_result i)) b

Means-called_taking : (k : Known) (i : PageInput) (breaks : Bool) (called : Called) (b : ℕ) → Means i.ahead (called_taking k i breaks called b)
Means-called_taking k i breaks (ARequest request) b = Means-line_taking k i breaks request (row_of request).line b
Means-called_taking k i breaks (ABody name) b =
    let read = byte_read AboveArguments i.escapes b in let j : PageInput = record i { escapes = read.1 } in
    Means-collected k j (Collecting (Calling name)) read.0 (Means-call_unit j name)
Means-called_taking k i breaks Unknown b = (inl none, Stays)

Means-name_ended_taking : (k : Known) (i : PageInput) (breaks : Bool) (name : ShortName) (b : ℕ) → Means i.ahead (name_ended_taking k i breaks name b)
Means-name_ended_taking k i breaks name b = Means-called_taking k i breaks (called_by name i.names) b

-- the last byte of a name of two bytes
Means-behind_name : (i : PageInput) (breaks : Bool) (request : Request) (line : LineReading) → Means i.ahead (behind_name i breaks request line)
Means-behind_name i breaks request ByArguments = (inl none, Stays)
Means-behind_name i breaks request (ByCondition keeps) = (inl none, Stays)
Means-behind_name i breaks request (ByString appends) = (inl none, Stays)
Means-behind_name i breaks request ByLastLine = (inl none, Stays)
Means-behind_name i breaks request (ByMessage aborts) = (inl none, Stays)
Means-behind_name i breaks request (ByLines lines) = (inl none, Stays)
Means-behind_name i breaks request ByElse = (inl none, Stays)
Means-behind_name i breaks request ByTitle = (inl none, Stays)

Means-behind_called : (i : PageInput) (breaks : Bool) (called : Called) → Means i.ahead (behind_called i breaks called)
Means-behind_called i breaks (ARequest request) = Means-behind_name i breaks request (row_of request).line
Means-behind_called i breaks (ABody name) = (inl none, Stays)
Means-behind_called i breaks Unknown = (inl none, Stays)

-- a definition
Means-behind_definition : (k : Known) (i : PageInput) (end : Option ShortName) (b : ℕ) → Means i.ahead (behind_definition k i end b)
Means-behind_definition k i None b = (inl none, Stays)
Means-behind_definition k i (Some name) b = Means-name_ended_taking k (beginning_line i) true name b

Means-definition_unit : (k : Known) (i : PageInput) (name : Option ShortName) (appends : Bool) (end : Option ShortName) (front : List ℕ) (unit : CopyUnit) (line : DefinitionLine)
    → Means i.ahead (definition_unit k i name appends end front unit line)
Means-definition_unit k i name appends end front unit (MayBeLast matched) = (inl none, Stays)
Means-definition_unit k i name appends end front unit (IsLast b) =
    Means-same (behind_definition k (string_entered name appends i) end b) (Alike-string_entered name appends i).ahead
    (Means-behind_definition k (string_entered name appends i) end b)
Means-definition_unit k i name appends end front unit IsText = (inl none, ahead-same (Alike-definition_grown name (front ++ unit_bytes unit) i).ahead)

Means-definition_found : (k : Known) (i : PageInput) (name : Option ShortName) (appends : Bool) (end : Option ShortName) (matched : Option ℕ) (found : Found)
    → Means i.ahead (definition_found k i name appends end matched found)
Means-definition_found k i name appends end matched found =
    of-unit_or (Means i.ahead) (definition_line k i name appends end matched) (no_unit_found k i (Collecting (Defining name appends end matched)) found) (unit_in found)
    (λ unit. Means-definition_unit k i name appends end (front_of (end_mark end) matched) unit (line_from (end_mark end) matched unit))
    (tells_mean (Collecting (Defining name appends end matched)) (Tells-no_unit_found k i (Collecting (Defining name appends end matched)) found))

-- what was found where this is read
Means-found_in : (k : Known) (i : PageInput) (reading : LineState) (found : Found) → Means i.ahead (found_in k i reading found)
Means-found_in k i LineStart found = tells_mean LineStart (Tells-beginning_found k i LineStart found)
Means-found_in k i Branch found = tells_mean Branch (Tells-beginning_found k i Branch found)
Means-found_in k i Braced found = tells_mean Braced (Tells-beginning_found k i Braced found)
Means-found_in k i (InText line) found = tells_mean (InText line) (Tells-text_found k i line found)
Means-found_in k i (Collecting (InArguments breaks request)) found = Means-collected k i (Collecting (InArguments breaks request)) found (Means-unit_found k i breaks request)
Means-found_in k i (Deciding keeps) found = Means-condition_found k i keeps found
Means-found_in k i (Collecting (StringName appends)) found = Means-collected k i (Collecting (StringName appends)) found (Means-string_name_unit i appends)
Means-found_in k i (Collecting (StringText name appends is_front)) found = Means-collected k i (Collecting (StringText name appends is_front)) found (Means-string_unit i name appends is_front)
Means-found_in k i (Collecting (Telling aborts is_front)) found = Means-collected k i (Collecting (Telling aborts is_front)) found (Means-message_unit i aborts is_front)
Means-found_in k i (Collecting (Calling name)) found = Means-collected k i (Collecting (Calling name)) found (Means-call_unit i name)
Means-found_in k i (Collecting (Defining name appends end matched)) found = Means-definition_found k i name appends end matched found
Means-found_in k i (Control breaks) found = (inl none, Stays)
Means-found_in k i (Name breaks first) found = (inl none, Stays)
Means-found_in k i (Skipping opened closed behind) found = (inl none, Stays)
Means-found_in k i Dropped found = (inl none, Stays)
Means-found_in k i (Told aborts) found = (inl none, Stays)
Means-found_in k i Exiting found = (inl none, Stays)
Means-found_in k i TitleFront found = Means-collected k i TitleFront found (λ unit. texts_mean _ (Texts-title_front_unit k i unit))
Means-found_in k i (InTitle delimiter) found = tells_mean (InTitle delimiter) (Tells-title_found k i delimiter found)

-- a byte that isn't dropped
Means-read : (k : Known) (reading : LineState) (i : PageInput) (b : ℕ)
    → Means i.ahead (found_in k (record i { escapes = (byte_read (place_in k reading) i.escapes b).1 }) reading (byte_read (place_in k reading) i.escapes b).0)
Means-read k reading i b =
    let read = byte_read (place_in k reading) i.escapes b in Means-found_in k (record i { escapes = read.1 }) reading read.0

-- one of a title
Means-title_read : (k : Known) (i : PageInput) (delimiter b : ℕ) (ends : Bool) → Means i.ahead (title_read k i delimiter b ends)
Means-title_read k i delimiter b true = texts_mean _ (Texts-behind_part i delimiter k.registers.title.part)
Means-title_read k i delimiter b false = Means-read k (InTitle delimiter) i b

Means-undropped_taking : (k : Known) (reading : LineState) (i : PageInput) (b : ℕ) → Means i.ahead (undropped_taking k reading i b)
Means-undropped_taking k (Control breaks) i b = Means-if i.ahead (b == blank || b == tab) _ _ (inl none, Stays) (Means-if i.ahead (ends_name b) _ _ (inl none, Stays) (inl none, Stays))
Means-undropped_taking k (Name breaks first) i b =
    Means-if i.ahead (ends_name b) _ _ (Means-name_ended_taking k i breaks (record { first = first; second = None }) b)
    (Means-behind_called i breaks (called_by (record { first = first; second = Some b }) i.names))
Means-undropped_taking k (Skipping opened closed behind) i b = Means-skipping_taking i opened closed behind b
Means-undropped_taking k Dropped i b = (inl none, Stays)
Means-undropped_taking k (Told aborts) i b = (inl none, Stays)
Means-undropped_taking k Exiting i b = (inl none, Stays)
Means-undropped_taking k TitleFront i b = Means-read k TitleFront i b
Means-undropped_taking k (InTitle delimiter) i b = Means-title_read k i delimiter b (is_empty i.escapes && b == delimiter)
Means-undropped_taking k LineStart i b = Means-read k LineStart i b
Means-undropped_taking k Branch i b = Means-read k Branch i b
Means-undropped_taking k Braced i b = Means-read k Braced i b
Means-undropped_taking k (InText line) i b = Means-read k (InText line) i b
Means-undropped_taking k (Collecting purpose) i b = Means-read k (Collecting purpose) i b
Means-undropped_taking k (Deciding keeps) i b = Means-read k (Deciding keeps) i b

-- a byte
pub Means-taking : (k : Known) (reading : LineState) (i : PageInput) (b : ℕ) → Means i.ahead (byte_taking k reading i b)
Means-taking k reading i b = Means-if i.ahead (is_dropped b) _ _ (inl none, ahead-same (ahead-interrupted reading i)) (Means-undropped_taking k reading i b)

-- the end of what is half read
pub Means-escape_ended : (k : Known) (reading : LineState) (i : PageInput) → Means i.ahead (escape_ended k reading i)
Means-escape_ended k reading i =
    let read = reading_ended (place_in k reading) i.escapes in Means-found_in k (record i { escapes = read.1 }) reading read.0

-- an interrupted line that ends with the input
interrupted_end_told : (left : Option TextLine) → Tellable LineStart (interrupted_end left)
interrupted_end_told None = (tt, tt, tt)
interrupted_end_told (Some line) = let told = line_end_told line in (told.0, (tt, told.1), told.2)

-- an unfinished line that does
pub Means-end_taking : (k : Known) (reading : LineState) (i : PageInput) → Means i.ahead (end_taking k reading i)
Means-end_taking k LineStart i = (inr (interrupted_end_told k.interrupted), Stays)
Means-end_taking k Braced i = (inr (interrupted_end_told k.interrupted), Stays)
Means-end_taking k (Control breaks) i = (inr (interrupted_end_told k.interrupted), Stays)
Means-end_taking k (Deciding keeps) i = (inr (interrupted_end_told k.interrupted), Stays)
Means-end_taking k (Collecting (StringName appends)) i =
    (inr (interrupted_end_told k.interrupted), (Means-string_line_ended i appends (name_at 0 (arguments_given i))).1)
Means-end_taking k (Collecting (StringText name appends is_front)) i = (inr (interrupted_end_told k.interrupted), ahead-same (Alike-string_entered name appends i).ahead)
Means-end_taking k (Skipping opened closed behind) i = (inr (interrupted_end_told k.interrupted), Stays)
Means-end_taking k Dropped i = (inr (interrupted_end_told k.interrupted), Stays)
Means-end_taking k (Told aborts) i = (inr (interrupted_end_told k.interrupted), Stays)
Means-end_taking k TitleFront i = Means-undropped_taking k TitleFront i newline
Means-end_taking k (InTitle delimiter) i = texts_mean LineStart (Texts-title_ended k i)
Means-end_taking k Exiting i = (inr (interrupted_end_told k.interrupted), Stays)
Means-end_taking k (Collecting (Defining name appends end matched)) i = (inl none, ahead-same (Alike-definition_dropped name i).ahead)
Means-end_taking k Branch i = Means-undropped_taking k Branch i newline
Means-end_taking k (InText line) i = Means-undropped_taking k (InText line) i newline
Means-end_taking k (Name breaks first) i = Means-undropped_taking k (Name breaks first) i newline
Means-end_taking k (Collecting (InArguments breaks request)) i = Means-undropped_taking k (Collecting (InArguments breaks request)) i newline
Means-end_taking k (Collecting (Calling name)) i = Means-undropped_taking k (Collecting (Calling name)) i newline
Means-end_taking k (Collecting (Telling aborts is_front)) i = Means-undropped_taking k (Collecting (Telling aborts is_front)) i newline

-- so few of these events wait behind each that may spring a macro
pub AreFewBehind-taking : (k : Known) (reading : LineState) (i : PageInput) (b : ℕ) → AreFewBehind (byte_taking k reading i b).effect.events
AreFewBehind-taking k reading i b = few-waiting (byte_taking k reading i b).effect.events (few-wait _ _ (Means-taking k reading i b).0)

pub AreFewBehind-escape_ended : (k : Known) (reading : LineState) (i : PageInput) → AreFewBehind (escape_ended k reading i).effect.events
AreFewBehind-escape_ended k reading i = few-waiting (escape_ended k reading i).effect.events (few-wait _ _ (Means-escape_ended k reading i).0)

pub AreFewBehind-end_taking : (k : Known) (reading : LineState) (i : PageInput) → AreFewBehind (end_taking k reading i).effect.events
AreFewBehind-end_taking k reading i = few-waiting (end_taking k reading i).effect.events (few-wait _ _ (Means-end_taking k reading i).0)
