-- What each taking behind a name changes in the input: its counts stay, no free byte comes ahead, and few endings more are to come.
--
-- A condition, a branch, a line of arguments and the text of a definition are read there. Each function f of reading has its lemma Keeps-f
-- here, with a line for each of its cases.
use Rattle.std.proofs.Common.{◌≡◌, ℕ, ◌+◌, ◌*◌, ◌≤◌, Bool, true, false, List, ◌++◌, Option, Some, None, refl, arith, pos, ◌==◌}
use Rattle.input_source.specs.Bytes.{newline}
use Rattle.input_escapes.specs.OpenEscapes.{byte_read}
use Rattle.input_model.specs.Input.{beginning_line, choosing}
use Rattle.input_model.specs.Input.Calls.{last_result, without_last}
use Rattle.input_escapes.specs.declared.open_escape.CopyUnit.{CopyUnit}
use Rattle.input_escapes.specs.OpenEscape.{OpenEscape, unit_bytes}
use Rattle.input_escapes.specs.declared.open_escape.Decision.{Decision}
use Rattle.input_escapes.specs.declared.open_escape.Decision.TheVariants.{Is}
use Rattle.input_escapes.specs.declared.open_escape.Found.{Found}
use Rattle.input_escapes.specs.declared.open_escape.Found.TheVariants.{GoesOn, Unit as GivesUnit, Holds, Escape, Asks, Motion, Measures, Tells, Decides}
use Rattle.input_escapes.specs.declared.open_escape.Surroundings.{Surroundings}
use Rattle.input_escapes.specs.declared.open_escape.Surroundings.TheVariants.{Text as AboveText, Arguments as AboveArguments, Copy as AboveCopy}
use Rattle.run_model.specs.declared.line_state.LineState.{LineState}
use Rattle.run_model.specs.declared.line_state.LineState.TheVariants.{LineStart, Branch, Name, Deciding, TitleFront, Title as InTitle, Collecting}
use Rattle.run_model.specs.declared.purpose.Purpose.TheVariants.{Arguments as InArguments, StringName, Telling, Calling, Defining}
use Rattle.roff_num.specs.declared.short_name.ShortName.{ShortName}
use Rattle.run_model.specs.declared.request.LineReading.{LineReading}
use Rattle.run_model.specs.declared.request.LineReading.TheVariants.{ByArguments, ByCondition, ByElse, ByLastLine, ByMessage, ByString, ByLines, ByTitle}
use Rattle.run_model.specs.declared.request.Called.{Called}
use Rattle.run_model.specs.declared.request.Called.TheVariants.{Request as ARequest, Body as ABody, Nothing as Unknown}
use Rattle.run_model.specs.declared.definition.DefinitionLine.{DefinitionLine}
use Rattle.run_model.specs.declared.definition.DefinitionLine.TheVariants.{MayBeLast, IsLast, IsText}
use Rattle.run_model.specs.Definitions.{end_mark, ends_mark, front_of, line_from, matched_behind}
use Rattle.run_model.specs.declared.request.Request.{Request}
use Rattle.run_model.specs.Reading.{title_read}
use Rattle.run_model.specs.Reading.Beginnings.{at_start}
use Rattle.run_model.specs.Reading.Branches.{branch_of, branch_taking, is_so, decided, with_result_if, condition_found, reads_else, condition_begun}
use Rattle.run_model.specs.Reading.ControlLines.{line_taking, called_taking, name_ended_taking, behind_called, behind_name}
use Rattle.run_model.specs.Reading.DefinedLines.{behind_definition, definition_unit, definition_line, definition_found}
use Rattle.run_model.specs.Reading.Definitions.{definition_grown}
use Rattle.run_model.specs.Reading.Items.{PageInput, Taking}
use Rattle.run_model.specs.Reading.Strings.{string_entered}
use Rattle.run_model.specs.Reading.Units.{no_unit_found, unit_in}
use Rattle.run_model.specs.Registers.{Known}
use Rattle.run_model.specs.Requests.{called_by, row_of}
use Rattle.run_model.specs.TurnsToCome.{begun, endings_of}
use Rattle.run_model.proofs.EscapeCounts.{Leaves, freed_endings, endings-byte_read}
use Rattle.run_model.proofs.MarkEnds.{ends-line_from, ends_mark-begins_nothing, ends_mark-chooses_nothing}
use Rattle.run_model.proofs.KeepingText.{Keeps, KeepsBy, Keeps-if, Stays, Keeps-stays, Stays-skipping_taking, Stays-dropped_taking, unnamed-branch_of, Keeps-with_escapes, Keeps-beginning_found}
use Rattle.run_model.proofs.KeepingTitles.{Keeps-behind_part, Keeps-title_found, Keeps-title_front_unit}
use Rattle.run_model.proofs.Collected.{of-unit_or}
use Rattle.run_model.proofs.KeepingLines.{Alike-same, Keeps-alike, Keeps-no_more, Alike-string_entered, Alike-definition_grown, Keeps-no_unit_found, Keeps-collected, Keeps-unit_found, Keeps-string_name_unit, Keeps-message_unit, Keeps-call_unit}

-- the first byte of a branch
pub Keeps-branch_taking : (less most : ℕ) (k : Known) (i j : PageInput) (old : LineState) (so : Bool) (b : ℕ) → Keeps less i j old → less + 2 ≤ most
    → KeepsBy most i (branch_taking k j so b)
Keeps-branch_taking less most k i j old true b keeps one_more =
    let read : Leaves (endings_of j.escapes + 1) (byte_read (at_start k) j.escapes b) = endings-byte_read (at_start k) j.escapes b in
    Keeps-beginning_found most k i (record j { escapes = (byte_read (at_start k) j.escapes b).1 }) Branch (byte_read (at_start k) j.escapes b).0
    (Keeps-with_escapes less most i j old Branch (byte_read (at_start k) j.escapes b).1 keeps (omega (arith, keeps.escapes, read, one_more)))
Keeps-branch_taking less most k i j old false b keeps one_more =
    Keeps-stays most i j LineStart _ (Keeps-with_escapes less most i j old LineStart j.escapes keeps (omega (arith, keeps.escapes, one_more))) (Stays-skipping_taking j 0 0 false b)

-- a result is kept, or isn't
Keeps-with_result_if : (most : ℕ) (i j : PageInput) (reading : LineState) (keeps so : Bool) → Keeps most i j reading → Keeps most i (with_result_if keeps so j) reading
Keeps-with_result_if most i j reading true so keeps =
    record { charge = keeps.charge; newlines = keeps.newlines; line = keeps.line; free = keeps.free; few = keeps.few; escapes = keeps.escapes }
Keeps-with_result_if most i j reading false so keeps = keeps

-- a condition decided
Keeps-decided : (less most : ℕ) (k : Known) (i j : PageInput) (old : LineState) (decision : Decision) (so : Bool) (freed : Option ℕ) → Keeps less i j old
    → less + 2 * freed_endings (Decides decision freed) ≤ most → KeepsBy most i (decided k j so freed)
Keeps-decided less most k i j old decision so None keeps few =
    Keeps-with_escapes less most i j old (branch_of so) j.escapes keeps (omega (arith, keeps.escapes, few, unnamed-branch_of so))
Keeps-decided less most k i j old decision so (Some b) keeps few = Keeps-branch_taking less most k i j old so b keeps few

-- or didn't yet
Keeps-undecided : (less most : ℕ) (k : Known) (i j : PageInput) (reading : LineState) (found : Found) → Keeps less i j reading → less + 2 * freed_endings found ≤ most
    → KeepsBy most i (no_unit_found k j reading found)
Keeps-undecided less most k i j reading found keeps few =
    Keeps-no_unit_found most k i j reading found (Keeps-with_escapes less most i j reading reading j.escapes keeps (omega (arith, keeps.escapes, few)))

-- what was found of a condition, by whether its result is kept
pub Keeps-condition_found : (less most : ℕ) (k : Known) (i j : PageInput) (keeping : Bool) (found : Found) → Keeps less i j (Deciding keeping)
    → less + 2 * freed_endings found ≤ most → KeepsBy most i (condition_found k j keeping found)
Keeps-condition_found less most k i j keeping (Decides decision freed) keeps few =
    Keeps-decided less most k i _ (Deciding keeping) decision (is_so k decision) freed
    (Keeps-with_result_if less i j (Deciding keeping) keeping (is_so k decision) keeps) few
Keeps-condition_found less most k i j keeping (Holds unit) keeps few = Keeps-undecided less most k i j (Deciding keeping) (Holds unit) keeps few
Keeps-condition_found less most k i j keeping (Asks purpose name) keeps few = Keeps-undecided less most k i j (Deciding keeping) (Asks purpose name) keeps few
Keeps-condition_found less most k i j keeping (Measures width) keeps few = Keeps-undecided less most k i j (Deciding keeping) (Measures width) keeps few
Keeps-condition_found less most k i j keeping (Tells remark) keeps few = Keeps-undecided less most k i j (Deciding keeping) (Tells remark) keeps few
Keeps-condition_found less most k i j keeping GoesOn keeps few = Keeps-undecided less most k i j (Deciding keeping) GoesOn keeps few
Keeps-condition_found less most k i j keeping (GivesUnit unit) keeps few = Keeps-undecided less most k i j (Deciding keeping) (GivesUnit unit) keeps few
Keeps-condition_found less most k i j keeping (Escape b) keeps few = Keeps-undecided less most k i j (Deciding keeping) (Escape b) keeps few
Keeps-condition_found less most k i j keeping (Motion columns remark) keeps few = Keeps-undecided less most k i j (Deciding keeping) (Motion columns remark) keeps few

-- two endings more are to come at the most
abbrev pub KeepsTwoMore : PageInput → LineState → PageInput → LineState → Type 0
KeepsTwoMore i old j reading = Keeps (2 * endings_of i.escapes + begun old + 4) i j reading

-- the same of what is done with an item
abbrev pub TwoMore : PageInput → LineState → Taking → Type 0
TwoMore i old t = KeepsTwoMore i old t.input t.reading

-- the same input, where the same is read
pub KeepsTwoMore-same : (i : PageInput) (reading : LineState) → KeepsTwoMore i reading i reading
KeepsTwoMore-same i reading = record { charge = refl; newlines = refl; line = refl; free = refl; few = λ room within few. few; escapes = omega arith }

-- what leaves the input, and reads no name
pub TwoMore-stays : (i : PageInput) (old : LineState) (t : Taking) → Stays i t → TwoMore i old t
TwoMore-stays i old t stays = Keeps-stays _ i i old t (KeepsTwoMore-same i old) stays

-- what something reads, with this half read then
pub Keeps-same_reading : (base : Surroundings) (i : PageInput) (reading : LineState) (b : ℕ)
    → KeepsTwoMore i reading (record i { escapes = (byte_read base i.escapes b).1 }) reading
Keeps-same_reading base i reading b =
    let read : Leaves (endings_of i.escapes + 1) (byte_read base i.escapes b) = endings-byte_read base i.escapes b in
    Keeps-with_escapes _ _ i i reading reading (byte_read base i.escapes b).1 (KeepsTwoMore-same i reading) (omega (arith, read))

-- a byte that begins so many endings more at the most, behind a name or the line that ends a definition
module _ (some most : ℕ) (k : Known) (i j : PageInput) (b : ℕ) (keeps : Keeps (2 * endings_of j.escapes) i j LineStart)
    (reads : (base : Surroundings) → Leaves (endings_of j.escapes + some) (byte_read base j.escapes b))
    (chooses : Leaves (2 + some) (byte_read AboveArguments (choosing j).escapes b))
    (few : 2 * (endings_of j.escapes + some) + 4 ≤ most) where
  -- what it reads, where this is read
  Keeps-begins : (base : Surroundings) (reading : LineState) → begun reading ≤ 4 → Keeps most i (record j { escapes = (byte_read base j.escapes b).1 }) reading
  Keeps-begins base reading less =
      let read : Leaves (endings_of j.escapes + some) (byte_read base j.escapes b) = reads base in
      Keeps-with_escapes _ most i j LineStart reading (byte_read base j.escapes b).1 keeps (omega (arith, read, few, less))

  -- the first byte of a condition, which may begin an escape
  Keeps-condition_begun : (keeping : Bool) → KeepsBy most i (condition_begun k j keeping b)
  Keeps-condition_begun keeping =
      let half : List OpenEscape = (choosing j).escapes in
      Keeps-if most i (b == newline) _ _
      (Keeps-condition_found (2 * endings_of j.escapes) most k i j keeping (Decides (Is false) (Some b))
      (record { charge = keeps.charge; newlines = keeps.newlines; line = keeps.line; free = keeps.free; few = keeps.few; escapes = omega arith }) (omega (arith, few)))
      (Keeps-condition_found (2 * endings_of (byte_read AboveArguments half b).1) most k i (record j { escapes = (byte_read AboveArguments half b).1 }) keeping (byte_read AboveArguments half b).0
      (Keeps-with_escapes _ _ i j LineStart (Deciding keeping) (byte_read AboveArguments half b).1 keeps (omega arith)) (omega (arith, chooses, few)))

  -- the first byte behind a request's name
  Keeps-line_taking : (breaks : Bool) (request : Request) (line : LineReading) → KeepsBy most i (line_taking k j breaks request line b)
  Keeps-line_taking breaks request ByArguments =
      Keeps-collected most k i _ (Collecting (InArguments breaks request)) (byte_read AboveArguments j.escapes b).0 (Keeps-begins AboveArguments (Collecting (InArguments breaks request)) (omega arith))
      (Keeps-unit_found _ k i _ breaks request)
  Keeps-line_taking breaks request (ByCondition keeping) = Keeps-condition_begun keeping
  Keeps-line_taking breaks request (ByString appends) =
      Keeps-collected most k i _ (Collecting (StringName appends)) (byte_read AboveArguments j.escapes b).0 (Keeps-begins AboveArguments (Collecting (StringName appends)) (omega arith))
      (Keeps-string_name_unit _ i _ _ appends)
  Keeps-line_taking breaks request ByLastLine =
      Keeps-collected most k i _ (Collecting (InArguments breaks request)) (byte_read AboveArguments j.escapes b).0 (Keeps-begins AboveArguments (Collecting (InArguments breaks request)) (omega arith))
      (Keeps-unit_found _ k i _ breaks request)
  Keeps-line_taking breaks request (ByMessage aborts) =
      Keeps-collected most k i _ (Collecting (Telling aborts true)) (byte_read AboveCopy j.escapes b).0 (Keeps-begins AboveCopy (Collecting (Telling aborts true)) (omega arith))
      (Keeps-message_unit _ i _ aborts true)
  Keeps-line_taking breaks request (ByLines lines) =
      Keeps-collected most k i _ (Collecting (InArguments breaks request)) (byte_read AboveArguments j.escapes b).0 (Keeps-begins AboveArguments (Collecting (InArguments breaks request)) (omega arith))
      (Keeps-unit_found _ k i _ breaks request)
  Keeps-line_taking breaks request ByTitle =
      Keeps-collected most k i _ TitleFront (byte_read AboveArguments j.escapes b).0 (Keeps-begins AboveArguments TitleFront (omega arith))
      (Keeps-title_front_unit _ k i _)
  Keeps-line_taking breaks request ByElse =
      Keeps-branch_taking (2 * endings_of j.escapes) most k i (without_last j) LineStart (reads_else (last_result j)) b
      (record { charge = keeps.charge; newlines = keeps.newlines; line = keeps.line; free = keeps.free; few = keeps.few; escapes = omega arith }) (omega (arith, few))

  -- a byte behind a name that it doesn't belong to
  Keeps-called_taking : (breaks : Bool) (called : Called) → KeepsBy most i (called_taking k j breaks called b)
  Keeps-called_taking breaks (ARequest request) = Keeps-line_taking breaks request (row_of request).line
  Keeps-called_taking breaks (ABody name) =
      Keeps-collected most k i _ (Collecting (Calling name)) (byte_read AboveArguments j.escapes b).0 (Keeps-begins AboveArguments (Collecting (Calling name)) (omega arith))
      (Keeps-call_unit _ i _ name)
  Keeps-called_taking breaks Unknown =
      Keeps-stays most i j LineStart _ (Keeps-with_escapes _ most i j LineStart LineStart j.escapes keeps (omega (arith, few))) (Stays-dropped_taking j b)

  pub Keeps-name_ended_taking : (breaks : Bool) (name : ShortName) → KeepsBy most i (name_ended_taking k j breaks name b)
  Keeps-name_ended_taking breaks name = Keeps-called_taking breaks (called_by name j.names)

-- the line that ends a definition
Keeps-behind_definition : (most : ℕ) (k : Known) (i j : PageInput) (end : Option ShortName) (b : ℕ) → ends_mark b ≡ true → Keeps most i j LineStart → 4 ≤ most
    → KeepsBy most i (behind_definition k j end b)
Keeps-behind_definition most k i j None b ends keeps few = Keeps-stays most i j LineStart _ keeps (Stays-dropped_taking j b)
Keeps-behind_definition most k i j (Some name) b ends keeps few =
    Keeps-name_ended_taking 0 most k i (beginning_line j) b
    (record { charge = keeps.charge; newlines = keeps.newlines; line = keeps.line; free = keeps.free; few = keeps.few; escapes = omega arith })
    (λ base. ends_mark-begins_nothing base b ends) (ends_mark-chooses_nothing b ends) few true name

-- a unit of a definition's text, where its line is this
Keeps-definition_unit : (most : ℕ) (k : Known) (i j : PageInput) (name : Option ShortName) (appends : Bool) (end : Option ShortName) (matched : Option ℕ) (front : List ℕ) (unit : CopyUnit)
    (line : DefinitionLine) → ((b : ℕ) → line ≡ IsLast b → ends_mark b ≡ true) → Keeps most i j (Collecting (Defining name appends end matched)) → 4 ≤ most
    → KeepsBy most i (definition_unit k j name appends end front unit line)
Keeps-definition_unit most k i j name appends end matched front unit (MayBeLast more) ends keeps few =
    Keeps-no_more most i j (Collecting (Defining name appends end matched)) j (Collecting (Defining name appends end (Some more))) keeps (Alike-same j) (omega arith)
Keeps-definition_unit most k i j name appends end matched front unit (IsLast b) ends keeps few =
    Keeps-behind_definition most k i (string_entered name appends j) end b (ends b refl)
    (Keeps-alike most i j (Collecting (Defining name appends end matched)) (string_entered name appends j) LineStart keeps (Alike-string_entered name appends j) refl)
    few
Keeps-definition_unit most k i j name appends end matched front unit IsText ends keeps few =
    Keeps-no_more most i j (Collecting (Defining name appends end matched)) (definition_grown name (front ++ unit_bytes unit) j) (Collecting (Defining name appends end (matched_behind unit))) keeps
    (Alike-definition_grown name (front ++ unit_bytes unit) j) (omega arith)

Keeps-definition_line : (most : ℕ) (k : Known) (i j : PageInput) (name : Option ShortName) (appends : Bool) (end : Option ShortName) (matched : Option ℕ) (unit : CopyUnit)
    → Keeps most i j (Collecting (Defining name appends end matched)) → 4 ≤ most → KeepsBy most i (definition_line k j name appends end matched unit)
Keeps-definition_line most k i j name appends end matched unit keeps few =
    Keeps-definition_unit most k i j name appends end matched (front_of (end_mark end) matched) unit (line_from (end_mark end) matched unit)
    (λ b last. ends-line_from (end_mark end) matched unit b last) keeps few

-- what was found of it
pub Keeps-definition_found : (most : ℕ) (k : Known) (i j : PageInput) (name : Option ShortName) (appends : Bool) (end : Option ShortName) (matched : Option ℕ) (found : Found)
    → Keeps most i j (Collecting (Defining name appends end matched)) → 4 ≤ most → KeepsBy most i (definition_found k j name appends end matched found)
Keeps-definition_found most k i j name appends end matched found keeps few =
    of-unit_or (KeepsBy most i) (definition_line k j name appends end matched) (no_unit_found k j (Collecting (Defining name appends end matched)) found) (unit_in found)
    (λ unit. Keeps-definition_line most k i j name appends end matched unit keeps few) (Keeps-no_unit_found most k i j (Collecting (Defining name appends end matched)) found keeps)

-- what is read behind a request's name
Keeps-behind_name : (i : PageInput) (breaks : Bool) (first : ℕ) (request : Request) (line : LineReading) → TwoMore i (Name breaks first) (behind_name i breaks request line)
Keeps-behind_name i breaks first request ByArguments = record { charge = refl; newlines = refl; line = refl; free = refl; few = λ room within few. few; escapes = omega arith }
Keeps-behind_name i breaks first request (ByCondition keeping) =
    record { charge = refl; newlines = refl; line = refl; free = refl; few = λ room within few. few; escapes = omega arith }
Keeps-behind_name i breaks first request (ByString appends) = record { charge = refl; newlines = refl; line = refl; free = refl; few = λ room within few. few; escapes = omega arith }
Keeps-behind_name i breaks first request ByLastLine = record { charge = refl; newlines = refl; line = refl; free = refl; few = λ room within few. few; escapes = omega arith }
Keeps-behind_name i breaks first request (ByMessage aborts) = record { charge = refl; newlines = refl; line = refl; free = refl; few = λ room within few. few; escapes = omega arith }
Keeps-behind_name i breaks first request (ByLines lines) = record { charge = refl; newlines = refl; line = refl; free = refl; few = λ room within few. few; escapes = omega arith }
Keeps-behind_name i breaks first request ByTitle = record { charge = refl; newlines = refl; line = refl; free = refl; few = λ room within few. few; escapes = omega arith }
Keeps-behind_name i breaks first request ByElse =
    record { charge = refl; newlines = refl; line = refl; free = refl; few = λ room within few. few; escapes = omega (arith, unnamed-branch_of (reads_else (last_result i))) }

-- the last byte of a name
pub Keeps-behind_called : (i : PageInput) (breaks : Bool) (first : ℕ) (called : Called) → TwoMore i (Name breaks first) (behind_called i breaks called)
Keeps-behind_called i breaks first (ARequest request) = Keeps-behind_name i breaks first request (row_of request).line
Keeps-behind_called i breaks first (ABody name) = record { charge = refl; newlines = refl; line = refl; free = refl; few = λ room within few. few; escapes = omega arith }
Keeps-behind_called i breaks first Unknown = record { charge = refl; newlines = refl; line = refl; free = refl; few = λ room within few. few; escapes = omega arith }

-- a byte of a title, which is a delimiter or not
pub Keeps-title_read : (k : Known) (i : PageInput) (delimiter b : ℕ) (ends : Bool) → TwoMore i (InTitle delimiter) (title_read k i delimiter b ends)
Keeps-title_read k i delimiter b true =
    Keeps-behind_part _ i i delimiter k.registers.title.part (KeepsTwoMore-same i (InTitle delimiter)) (omega arith)
Keeps-title_read k i delimiter b false =
    Keeps-title_found _ k i _ delimiter (byte_read (AboveText (pos 0)) i.escapes b).0 (Keeps-same_reading (AboveText (pos 0)) i (InTitle delimiter) b)
