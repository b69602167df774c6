-- What a byte or an end does with the texts in the making: a text is one more just while a string or a macro is made. A diversion is
-- opened where none is made, by an event that stands alone.
--
-- Each function f of reading has its lemma Moves-f here, with a line for each of its cases.
use Rattle.std.proofs.Common.{◌≡◌, inl, ℕ, Bool, true, false, List, ◌++◌, Option, Some, None, refl, ◌||◌, ◌&&◌, ◌==◌}
use Rattle.roff_num.specs.declared.short_name.ShortName.{ShortName}
use Rattle.roff_num.specs.ShortNames.{name_at, name_bytes}
use Rattle.input_model.specs.Arguments.{no_arguments}
use Rattle.input_source.specs.Bytes.{tab, newline, blank, is_dropped}
use Rattle.input_escapes.specs.OpenEscapes.{byte_read, reading_ended}
use Rattle.input_escapes.specs.declared.open_escape.CopyUnit.{CopyUnit}
use Rattle.input_escapes.specs.declared.open_escape.Found.{Found}
use Rattle.input_escapes.specs.declared.open_escape.Surroundings.TheVariants.{Arguments as AboveArguments, Copy as AboveCopy}
use Rattle.input_model.specs.Input.{beginning_line}
use Rattle.input_model.specs.Input.Calls.{arguments_given, last_result, without_last}
use Rattle.input_escapes.specs.OpenEscape.{unit_bytes}
use Rattle.run_model.specs.Definitions.{end_mark, front_of, line_from}
use Rattle.run_model.specs.Reading.{undropped_taking, byte_taking, escape_ended, title_read}
use Rattle.run_model.specs.Reading.Branches.{reads_else}
use Rattle.run_model.specs.Reading.ControlLines.{called_taking, ends_name, line_taking, name_ended_taking, behind_called, behind_name}
use Rattle.run_model.specs.Reading.DefinedLines.{behind_definition, definition_found, definition_line, definition_unit}
use Rattle.run_model.specs.Reading.Ends.{end_taking, interrupted_end}
use Rattle.run_model.specs.Reading.Found.{found_in, place_in}
use Rattle.run_model.specs.Reading.Items.{PageInput}
use Rattle.run_model.specs.Reading.Strings.{string_line_ended, string_entered}
use Rattle.run_model.specs.Reading.Units.{no_unit_found, unit_in}
use Rattle.run_model.specs.Registers.{Known}
use Rattle.run_model.specs.Requests.{called_by, row_of}
use Rattle.run_model.specs.declared.definition.DefinitionLine.{DefinitionLine}
use Rattle.run_model.specs.declared.definition.DefinitionLine.TheVariants.{MayBeLast, IsLast, IsText}
use Rattle.run_model.specs.declared.line_state.LineState.{LineState}
use Rattle.run_model.specs.declared.line_state.LineState.TheVariants.{LineStart, Branch, Braced, Text as InText, Control, Name, Deciding, Skipping, Dropped, Told, Exiting, TitleFront, Title as InTitle, Collecting}
use Rattle.run_model.specs.declared.purpose.Purpose.TheVariants.{Arguments as InArguments, StringName, StringText, Telling, Calling, Defining}
use Rattle.run_model.specs.declared.line_state.TextLine.{TextLine}
use Rattle.run_model.specs.declared.request.Called.{Called}
use Rattle.run_model.specs.declared.request.Called.TheVariants.{Request as ARequest, Body as ABody, Nothing as Unknown}
use Rattle.run_model.specs.declared.request.LineReading.{LineReading}
use Rattle.run_model.specs.declared.request.LineReading.TheVariants.{ByArguments, ByCondition, ByElse, ByLastLine, ByMessage, ByString, ByLines, ByTitle}
use Rattle.run_model.specs.declared.request.Request.{Request}
use Rattle.page_model.specs.Words.{is_empty}
use Rattle.run_model.proofs.Collected.{of-unit_or}
use Rattle.run_model.specs.Reading.Definitions.{definition_dropped}
use Rattle.law_diversions.specs.DivertedTexts.{IsAbove, NoneAbove, is_making}
use Rattle.law_diversions.proofs.OpenTexts.{above-adding, above-dropping, above-entering, above-one, above-same}
use Rattle.law_diversions.proofs.TextsLeft.{AreMild, AtBrace, AtBranch, AtStart, Leaves-no_unit_found, Texts-beginning_found, Texts-text_found, mild-line_end}
use Rattle.law_diversions.proofs.TitlesLeft.{Texts-behind_part, Texts-title_ended, Texts-title_found, Texts-title_front_unit}
use Rattle.law_diversions.proofs.UnitsMove.{Moves, leaves-move, texts-move, plain, Moves-if, Moves-dropped, Moves-decided_on, Moves-collected, Moves-unit_found, Moves-skipping_taking, Moves-branch_taking, Moves-condition_found, Moves-condition_begun, Moves-string_unit, string_emptied-texts, Moves-string_name_unit, Moves-message_unit, Moves-call_unit}

-- a byte behind a name
Moves-line_taking : (k : Known) (i : PageInput) (breaks : Bool) (request : Request) (line : LineReading) (b : ℕ)
    → Moves i.open_texts (line_taking k i breaks request line b)
Moves-line_taking k i breaks request ByArguments b =
    let read = byte_read AboveArguments i.escapes b in let j : PageInput = record i { escapes = read.1 } in
    Moves-collected i.open_texts k j (Collecting (InArguments breaks request)) read.0 NoneAbove (Moves-unit_found k j breaks request)
Moves-line_taking k i breaks request (ByCondition keeps) b = Moves-condition_begun k i keeps b
Moves-line_taking k i breaks request (ByString appends) b =
    let read = byte_read AboveArguments i.escapes b in let j : PageInput = record i { escapes = read.1 } in
    Moves-collected i.open_texts k j (Collecting (StringName appends)) read.0 NoneAbove (Moves-string_name_unit j appends)
Moves-line_taking k i breaks request ByLastLine b =
    let read = byte_read AboveArguments i.escapes b in let j : PageInput = record i { escapes = read.1 } in
    Moves-collected i.open_texts k j (Collecting (InArguments breaks request)) read.0 NoneAbove (Moves-unit_found k j breaks request)
Moves-line_taking k i breaks request (ByMessage aborts) b =
    let read = byte_read AboveCopy i.escapes b in let j : PageInput = record i { escapes = read.1 } in
    Moves-collected i.open_texts k j (Collecting (Telling aborts true)) read.0 NoneAbove (Moves-message_unit j aborts true)
Moves-line_taking k i breaks request (ByLines lines) b =
    let read = byte_read AboveArguments i.escapes b in let j : PageInput = record i { escapes = read.1 } in
    Moves-collected i.open_texts k j (Collecting (InArguments breaks request)) read.0 NoneAbove (Moves-unit_found k j breaks request)
Moves-line_taking k i breaks request ByTitle b =
    let read = byte_read AboveArguments i.escapes b in let j : PageInput = record i { escapes = read.1 } in
    Moves-collected i.open_texts k j TitleFront read.0 NoneAbove (λ unit. texts-move i.open_texts (Texts-title_front_unit k j unit))
Moves-line_taking k i breaks request ByElse b = Moves-branch_taking k (without_last i) (reads_else (last_result i)) b

Moves-called_taking : (k : Known) (i : PageInput) (breaks : Bool) (called : Called) (b : ℕ)
    → Moves i.open_texts (called_taking k i breaks called b)
Moves-called_taking k i breaks (ARequest request) b = Moves-line_taking k i breaks request (row_of request).line b
Moves-called_taking k i breaks (ABody name) b =
    let read = byte_read AboveArguments i.escapes b in let j : PageInput = record i { escapes = read.1 } in
    Moves-collected i.open_texts k j (Collecting (Calling name)) read.0 NoneAbove (Moves-call_unit j name)
Moves-called_taking k i breaks Unknown b = Moves-dropped i b

Moves-name_ended_taking : (k : Known) (i : PageInput) (breaks : Bool) (name : ShortName) (b : ℕ)
    → Moves i.open_texts (name_ended_taking k i breaks name b)
Moves-name_ended_taking k i breaks name b = Moves-called_taking k i breaks (called_by name i.names) b

-- the last byte of a name of two bytes
Moves-behind_name : (i : PageInput) (breaks : Bool) (request : Request) (line : LineReading)
    → Moves i.open_texts (behind_name i breaks request line)
Moves-behind_name i breaks request ByArguments = (NoneAbove, inl tt)
Moves-behind_name i breaks request (ByCondition keeps) = (NoneAbove, inl tt)
Moves-behind_name i breaks request (ByString appends) = (NoneAbove, inl tt)
Moves-behind_name i breaks request ByLastLine = (NoneAbove, inl tt)
Moves-behind_name i breaks request (ByMessage aborts) = (NoneAbove, inl tt)
Moves-behind_name i breaks request (ByLines lines) = (NoneAbove, inl tt)
Moves-behind_name i breaks request ByElse = Moves-decided_on (without_last i) (reads_else (last_result i))
Moves-behind_name i breaks request ByTitle = (NoneAbove, inl tt)

Moves-behind_called : (i : PageInput) (breaks : Bool) (called : Called) → Moves i.open_texts (behind_called i breaks called)
Moves-behind_called i breaks (ARequest request) = Moves-behind_name i breaks request (row_of request).line
Moves-behind_called i breaks (ABody name) = (NoneAbove, inl tt)
Moves-behind_called i breaks Unknown = (NoneAbove, inl tt)

-- a definition
Moves-behind_definition : (k : Known) (i : PageInput) (end : Option ShortName) (b : ℕ) → Moves i.open_texts (behind_definition k i end b)
Moves-behind_definition k i None b = Moves-dropped i b
Moves-behind_definition k i (Some name) b = Moves-name_ended_taking k (beginning_line i) true name b

Moves-definition_unit : (below : List (List ℕ)) (k : Known) (i : PageInput) (name : Option ShortName) (appends : Bool)
    (end : Option ShortName) (matched : Option ℕ)
    (front : List ℕ) (unit : CopyUnit) (line : DefinitionLine)
    → IsAbove below (is_making (Collecting (Defining name appends end matched))) i.open_texts
    → Moves below (definition_unit k i name appends end front unit line)
Moves-definition_unit below k i None appends end matched front unit (MayBeLast more) above = (above, inl tt)
Moves-definition_unit below k i (Some name) appends end matched front unit (MayBeLast more) above = (above, inl tt)
Moves-definition_unit below k i None appends end matched front unit (IsLast b) above =
    plain below i.open_texts above (Moves-behind_definition k i end b)
Moves-definition_unit below k i (Some name) appends end matched front unit (IsLast b) above =
    let one = above-one below i.open_texts above in
    let entered : PageInput = string_entered (Some name) appends i in
    plain below entered.open_texts (above-entering below one.0 (name_bytes name) appends i one.1) (Moves-behind_definition k entered end b)
Moves-definition_unit below k i None appends end matched front unit IsText above = (above, inl tt)
Moves-definition_unit below k i (Some name) appends end matched front unit IsText above =
    let one = above-one below i.open_texts above in (above-adding below one.0 (front ++ unit_bytes unit) i one.1, inl tt)

Moves-definition_found : (below : List (List ℕ)) (k : Known) (i : PageInput) (name : Option ShortName) (appends : Bool)
    (end : Option ShortName) (matched : Option ℕ) (found : Found)
    → IsAbove below (is_making (Collecting (Defining name appends end matched))) i.open_texts
    → Moves below (definition_found k i name appends end matched found)
Moves-definition_found below k i name appends end matched found above =
    let reading : LineState = Collecting (Defining name appends end matched) in
    of-unit_or (Moves below) (definition_line k i name appends end matched) (no_unit_found k i reading found) (unit_in found)
    (λ unit. Moves-definition_unit below k i name appends end matched (front_of (end_mark end) matched) unit
    (line_from (end_mark end) matched unit) above)
    (leaves-move below i.open_texts (is_making reading) above (Leaves-no_unit_found k i reading found))

-- what was found where this is read
Moves-found_in : (below : List (List ℕ)) (k : Known) (i : PageInput) (reading : LineState) (found : Found)
    → IsAbove below (is_making reading) i.open_texts
    → Moves below (found_in k i reading found)
Moves-found_in below k i LineStart found above =
    plain below i.open_texts above (texts-move i.open_texts (Texts-beginning_found k i LineStart found AtStart))
Moves-found_in below k i Branch found above =
    plain below i.open_texts above (texts-move i.open_texts (Texts-beginning_found k i Branch found AtBranch))
Moves-found_in below k i Braced found above =
    plain below i.open_texts above (texts-move i.open_texts (Texts-beginning_found k i Braced found AtBrace))
Moves-found_in below k i (InText line) found above =
    plain below i.open_texts above (texts-move i.open_texts (Texts-text_found k i line found))
Moves-found_in below k i (Collecting (InArguments breaks request)) found above =
    plain below i.open_texts above
    (Moves-collected i.open_texts k i (Collecting (InArguments breaks request)) found NoneAbove (Moves-unit_found k i breaks request))
Moves-found_in below k i (Deciding keeps) found above = plain below i.open_texts above (Moves-condition_found k i keeps found)
Moves-found_in below k i (Collecting (StringName appends)) found above =
    plain below i.open_texts above
    (Moves-collected i.open_texts k i (Collecting (StringName appends)) found NoneAbove (Moves-string_name_unit i appends))
Moves-found_in below k i (Collecting (StringText name appends is_front)) found above =
    Moves-collected below k i (Collecting (StringText name appends is_front)) found above
    (λ unit. Moves-string_unit below i name appends is_front unit above)
Moves-found_in below k i (Collecting (Telling aborts is_front)) found above =
    plain below i.open_texts above
    (Moves-collected i.open_texts k i (Collecting (Telling aborts is_front)) found NoneAbove (Moves-message_unit i aborts is_front))
Moves-found_in below k i (Collecting (Calling name)) found above =
    plain below i.open_texts above (Moves-collected i.open_texts k i (Collecting (Calling name)) found NoneAbove (Moves-call_unit i name))
Moves-found_in below k i (Collecting (Defining name appends end matched)) found above =
    Moves-definition_found below k i name appends end matched found above
Moves-found_in below k i (Control breaks) found above = (above, inl tt)
Moves-found_in below k i (Name breaks first) found above = (above, inl tt)
Moves-found_in below k i (Skipping opened closed behind) found above = (above, inl tt)
Moves-found_in below k i Dropped found above = (above, inl tt)
Moves-found_in below k i (Told aborts) found above = (above, inl tt)
Moves-found_in below k i Exiting found above = (above, inl tt)
Moves-found_in below k i TitleFront found above =
    plain below i.open_texts above
    (Moves-collected i.open_texts k i TitleFront found NoneAbove (λ unit. texts-move i.open_texts (Texts-title_front_unit k i unit)))
Moves-found_in below k i (InTitle delimiter) found above =
    plain below i.open_texts above (texts-move i.open_texts (Texts-title_found k i delimiter found))

-- a byte that isn't dropped
Moves-read : (below : List (List ℕ)) (k : Known) (reading : LineState) (i : PageInput) (b : ℕ)
    → IsAbove below (is_making reading) i.open_texts
    → Moves below
    (found_in k (record i { escapes = (byte_read (place_in k reading) i.escapes b).1 }) reading
    (byte_read (place_in k reading) i.escapes b).0)
Moves-read below k reading i b above =
    let read = byte_read (place_in k reading) i.escapes b in Moves-found_in below k (record i { escapes = read.1 }) reading read.0 above

-- one of a title
Moves-title_read : (k : Known) (i : PageInput) (delimiter b : ℕ) (ends : Bool) → Moves i.open_texts (title_read k i delimiter b ends)
Moves-title_read k i delimiter b true = texts-move i.open_texts (Texts-behind_part i delimiter k.registers.title.part)
Moves-title_read k i delimiter b false = Moves-read i.open_texts k (InTitle delimiter) i b NoneAbove

Moves-undropped_taking : (below : List (List ℕ)) (k : Known) (reading : LineState) (i : PageInput) (b : ℕ)
    → IsAbove below (is_making reading) i.open_texts
    → Moves below (undropped_taking k reading i b)
Moves-undropped_taking below k (Control breaks) i b above =
    Moves-if below (b == blank || b == tab) _ _ (above, inl tt)
    (Moves-if below (ends_name b) _ _ (plain below i.open_texts above (Moves-dropped i b)) (above, inl tt))
Moves-undropped_taking below k (Name breaks first) i b above =
    plain below i.open_texts above
    (Moves-if i.open_texts (ends_name b) _ _ (Moves-name_ended_taking k i breaks (record { first = first; second = None }) b)
    (Moves-behind_called i breaks (called_by (record { first = first; second = Some b }) i.names)))
Moves-undropped_taking below k (Skipping opened closed behind) i b above =
    plain below i.open_texts above (Moves-skipping_taking i opened closed behind b)
Moves-undropped_taking below k Dropped i b above = plain below i.open_texts above (Moves-dropped i b)
Moves-undropped_taking below k (Told aborts) i b above = (above, inl tt)
Moves-undropped_taking below k Exiting i b above = (above, inl tt)
Moves-undropped_taking below k TitleFront i b above = Moves-read below k TitleFront i b above
Moves-undropped_taking below k (InTitle delimiter) i b above =
    plain below i.open_texts above (Moves-title_read k i delimiter b (is_empty i.escapes && b == delimiter))
Moves-undropped_taking below k LineStart i b above = Moves-read below k LineStart i b above
Moves-undropped_taking below k Branch i b above = Moves-read below k Branch i b above
Moves-undropped_taking below k Braced i b above = Moves-read below k Braced i b above
Moves-undropped_taking below k (InText line) i b above = Moves-read below k (InText line) i b above
Moves-undropped_taking below k (Collecting purpose) i b above = Moves-read below k (Collecting purpose) i b above
Moves-undropped_taking below k (Deciding keeps) i b above = Moves-read below k (Deciding keeps) i b above

-- a byte
pub Moves-taking : (below : List (List ℕ)) (k : Known) (reading : LineState) (i : PageInput) (b : ℕ)
    → IsAbove below (is_making reading) i.open_texts
    → Moves below (byte_taking k reading i b)
Moves-taking below k reading i b above =
    Moves-if below (is_dropped b) _ _ (above, inl tt) (Moves-undropped_taking below k reading i b above)

-- the end of what is half read
pub Moves-escape_ended : (below : List (List ℕ)) (k : Known) (reading : LineState) (i : PageInput)
    → IsAbove below (is_making reading) i.open_texts
    → Moves below (escape_ended k reading i)
Moves-escape_ended below k reading i above =
    let read = reading_ended (place_in k reading) i.escapes in Moves-found_in below k (record i { escapes = read.1 }) reading read.0 above

-- an interrupted line that ends with the input
mild-interrupted : (left : Option TextLine) → AreMild (interrupted_end left)
mild-interrupted None = tt
mild-interrupted (Some line) = (tt, mild-line_end line)

line_ended-texts : (i : PageInput) (appends : Bool) (name : Option (Option ShortName))
    → (string_line_ended i appends name).input.open_texts ≡ i.open_texts
line_ended-texts i appends None = refl
line_ended-texts i appends (Some name) = string_emptied-texts name appends (record i { arguments = no_arguments })

-- an unfinished line that does
ended-string : (below : List (List ℕ)) (name : Option ShortName) (appends is_front : Bool) (i : PageInput)
    → IsAbove below (is_making (Collecting (StringText name appends is_front))) i.open_texts
    → IsAbove below false (string_entered name appends i).open_texts
ended-string below None appends is_front i above = above
ended-string below (Some name) appends is_front i above =
    let one = above-one below i.open_texts above in above-entering below one.0 (name_bytes name) appends i one.1

cut-definition : (below : List (List ℕ)) (name : Option ShortName) (appends : Bool) (end : Option ShortName) (matched : Option ℕ)
    (i : PageInput)
    → IsAbove below (is_making (Collecting (Defining name appends end matched))) i.open_texts
    → IsAbove below false (definition_dropped name i).open_texts
cut-definition below None appends end matched i above = above
cut-definition below (Some name) appends end matched i above =
    let one = above-one below i.open_texts above in above-dropping below one.0 i one.1

pub Moves-end_taking : (below : List (List ℕ)) (k : Known) (reading : LineState) (i : PageInput)
    → IsAbove below (is_making reading) i.open_texts
    → Moves below (end_taking k reading i)
Moves-end_taking below k LineStart i above = (above, inl (mild-interrupted k.interrupted))
Moves-end_taking below k Braced i above = (above, inl (mild-interrupted k.interrupted))
Moves-end_taking below k (Control breaks) i above = (above, inl (mild-interrupted k.interrupted))
Moves-end_taking below k (Deciding keeps) i above = (above, inl (mild-interrupted k.interrupted))
Moves-end_taking below k (Collecting (StringName appends)) i above =
    plain below i.open_texts above (
      above-same i.open_texts false false i.open_texts _ NoneAbove (line_ended-texts i appends (name_at 0 (arguments_given i))) refl,
      inl
          (mild-interrupted k.interrupted),
    )
Moves-end_taking below k (Collecting (StringText name appends is_front)) i above =
    (ended-string below name appends is_front i above, inl (mild-interrupted k.interrupted))
Moves-end_taking below k (Skipping opened closed behind) i above = (above, inl (mild-interrupted k.interrupted))
Moves-end_taking below k Dropped i above = (above, inl (mild-interrupted k.interrupted))
Moves-end_taking below k (Told aborts) i above = (above, inl (mild-interrupted k.interrupted))
Moves-end_taking below k Exiting i above = (above, inl (mild-interrupted k.interrupted))
Moves-end_taking below k TitleFront i above = Moves-undropped_taking below k TitleFront i newline above
Moves-end_taking below k (InTitle delimiter) i above = plain below i.open_texts above (texts-move i.open_texts (Texts-title_ended k i))
Moves-end_taking below k (Collecting (Defining name appends end matched)) i above =
    (cut-definition below name appends end matched i above, inl tt)
Moves-end_taking below k Branch i above = Moves-undropped_taking below k Branch i newline above
Moves-end_taking below k (InText line) i above = Moves-undropped_taking below k (InText line) i newline above
Moves-end_taking below k (Name breaks first) i above = Moves-undropped_taking below k (Name breaks first) i newline above
Moves-end_taking below k (Collecting (InArguments breaks request)) i above =
    Moves-undropped_taking below k (Collecting (InArguments breaks request)) i newline above
Moves-end_taking below k (Collecting (Calling name)) i above = Moves-undropped_taking below k (Collecting (Calling name)) i newline above
Moves-end_taking below k (Collecting (Telling aborts is_front)) i above =
    Moves-undropped_taking below k (Collecting (Telling aborts is_front)) i newline above
