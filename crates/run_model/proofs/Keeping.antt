-- What each taking changes in the input: its counts stay, no free byte comes ahead, and few endings more are to come.
--
-- Each function f of reading has its lemma Keeps-f here, with a line for each of its cases: what is taken by what is read, what ends what is
-- half read, the end of the input, and the call of the last macro.
use Rattle.std.proofs.Common.{◌≡◌, ℕ, ◌+◌, ◌*◌, ◌-◌, ◌≤◌, Bool, List, ◌∷◌, Option, Some, None, refl, sym, subst, arith, pos, ◌&&◌, ◌||◌, ◌==◌}
use Rattle.page_model.specs.Words.{is_empty}
use Rattle.input_source.specs.Bytes.{tab, newline, blank, is_dropped}
use Rattle.input_escapes.specs.OpenEscapes.{byte_read, reading_ended}
use Rattle.input_model.specs.Input.{choosing}
use Rattle.input_model.specs.Input.Calls.{arguments_given, called_text}
use Rattle.input_model.specs.Input.Names.{body_named}
use Rattle.input_model.proofs.FewEvents.{few-called, few-more}
use Rattle.input_escapes.specs.OpenEscape.{OpenEscape}
use Rattle.input_escapes.specs.declared.open_escape.Surroundings.{Surroundings}
use Rattle.input_escapes.specs.declared.open_escape.Surroundings.TheVariants.{Text as AboveText, Arguments as AboveArguments, Copy as AboveCopy}
use Rattle.run_model.specs.declared.line_state.LineState.{LineState}
use Rattle.run_model.specs.declared.line_state.LineState.TheVariants.{LineStart, Branch, Braced, Text as InText, Control, Name, Deciding, Skipping, Dropped, Told, Exiting, TitleFront, Title as InTitle, Collecting}
use Rattle.run_model.specs.declared.purpose.Purpose.TheVariants.{Arguments as InArguments, StringName, StringText, Telling, Calling, Defining}
use Rattle.roff_num.specs.declared.short_name.ShortName.{ShortName}
use Rattle.run_model.specs.declared.request.Called.{Called}
use Rattle.run_model.specs.declared.request.Called.TheVariants.{Request as ARequest, Body as ABody, Nothing as Unknown}
use Rattle.roff_num.specs.ShortNames.{name_at, name_bytes}
use Rattle.run_model.specs.Reading.{undropped_taking, byte_taking, escape_ended}
use Rattle.run_model.specs.Reading.Units.{interrupted}
use Rattle.run_model.specs.Reading.Beginnings.{at_start}
use Rattle.run_model.specs.Reading.ControlLines.{ends_name}
use Rattle.run_model.specs.Reading.Definitions.{definition_dropped}
use Rattle.run_model.specs.Reading.Calls.{called_last, last_called}
use Rattle.run_model.specs.Reading.Ends.{end_taking}
use Rattle.run_model.specs.Reading.Items.{PageInput, Taking, going_on}
use Rattle.run_model.specs.Reading.Strings.{string_entered, string_line_ended}
use Rattle.run_model.specs.Reading.TextLines.{on_line}
use Rattle.run_model.specs.Registers.{Known}
use Rattle.run_model.specs.Requests.{called_by}
use Rattle.run_model.specs.TurnsToCome.{begun, endings_of}
use Rattle.run_model.proofs.EscapeCounts.{Falls, Leaves, endings-byte_read, endings-reading_ended, some_ending}
use Rattle.run_model.proofs.KeepingText.{Keeps, KeepsBy, free_ahead-called, Keeps-if, Stays-skipping_taking, Stays-dropped_taking, Keeps-with_escapes, Keeps-text_found, Keeps-beginning_found}
use Rattle.run_model.proofs.KeepingTitles.{Keeps-title_ended, Keeps-title_found, Keeps-title_front_unit}
use Rattle.run_model.proofs.KeepingLines.{Keeps-alike, Alike-string_entered, Alike-definition_dropped, Keeps-collected, Keeps-unit_found, Keeps-string_line_ended, Keeps-string_name_unit, Keeps-string_unit, Keeps-message_unit, Keeps-call_unit}
use Rattle.run_model.proofs.KeepingNames.{Keeps-condition_found, KeepsTwoMore, TwoMore, KeepsTwoMore-same, TwoMore-stays, Keeps-same_reading, Keeps-name_ended_taking, Keeps-definition_found, Keeps-behind_called, Keeps-title_read}

-- a byte that isn't dropped
Keeps-undropped_taking : (k : Known) (reading : LineState) (i : PageInput) (b : ℕ) → TwoMore i reading (undropped_taking k reading i b)
Keeps-undropped_taking k LineStart i b = Keeps-beginning_found _ k i _ LineStart (byte_read (at_start k) i.escapes b).0 (Keeps-same_reading (at_start k) i LineStart b)
Keeps-undropped_taking k Branch i b = Keeps-beginning_found _ k i _ Branch (byte_read (at_start k) i.escapes b).0 (Keeps-same_reading (at_start k) i Branch b)
Keeps-undropped_taking k Braced i b = Keeps-beginning_found _ k i _ Braced (byte_read (at_start k) i.escapes b).0 (Keeps-same_reading (at_start k) i Braced b)
Keeps-undropped_taking k (InText line) i b = Keeps-text_found _ k i _ line (byte_read (on_line k line) i.escapes b).0 (Keeps-same_reading (on_line k line) i (InText line) b)
Keeps-undropped_taking k (Control breaks) i b =
    Keeps-if _ i (b == blank || b == tab) _ _ (KeepsTwoMore-same i (Control breaks))
    (Keeps-if _ i (ends_name b) _ _ (TwoMore-stays i (Control breaks) _ (Stays-dropped_taking i b))
    (record { charge = refl; newlines = refl; line = refl; free = refl; few = λ room within few. few; escapes = omega arith }))
Keeps-undropped_taking k (Name breaks first) i b =
    Keeps-if _ i (ends_name b) _ _
    (Keeps-name_ended_taking 1 _ k i i b (record { charge = refl; newlines = refl; line = refl; free = refl; few = λ room within few. few; escapes = omega arith })
    (λ base. endings-byte_read base i.escapes b) (endings-byte_read AboveArguments (choosing i).escapes b) (omega arith) breaks
    (record { first = first; second = None }))
    (Keeps-behind_called i breaks first (called_by (record { first = first; second = Some b }) i.names))
Keeps-undropped_taking k (Collecting (InArguments breaks request)) i b =
    Keeps-collected _ k i _ (Collecting (InArguments breaks request)) (byte_read AboveArguments i.escapes b).0 (Keeps-same_reading AboveArguments i (Collecting (InArguments breaks request)) b)
    (Keeps-unit_found _ k i _ breaks request)
Keeps-undropped_taking k (Deciding keeping) i b =
    let read : Leaves (endings_of i.escapes + 1) (byte_read AboveArguments i.escapes b) = endings-byte_read AboveArguments i.escapes b in
    Keeps-condition_found (2 * endings_of (byte_read AboveArguments i.escapes b).1) _ k i (record i { escapes = (byte_read AboveArguments i.escapes b).1 }) keeping (byte_read AboveArguments i.escapes b).0
    (Keeps-with_escapes _ _ i i (Deciding keeping) (Deciding keeping) (byte_read AboveArguments i.escapes b).1 (KeepsTwoMore-same i (Deciding keeping)) (omega arith)) (omega (arith, read))
Keeps-undropped_taking k (Collecting (StringName appends)) i b =
    Keeps-collected _ k i _ (Collecting (StringName appends)) (byte_read AboveArguments i.escapes b).0 (Keeps-same_reading AboveArguments i (Collecting (StringName appends)) b)
    (Keeps-string_name_unit _ i _ _ appends)
Keeps-undropped_taking k (Collecting (StringText name appends is_front)) i b =
    Keeps-collected _ k i _ (Collecting (StringText name appends is_front)) (byte_read AboveCopy i.escapes b).0
    (Keeps-same_reading AboveCopy i (Collecting (StringText name appends is_front)) b) (Keeps-string_unit _ i _ _ name appends is_front)
Keeps-undropped_taking k (Collecting (Calling name)) i b =
    Keeps-collected _ k i _ (Collecting (Calling name)) (byte_read AboveArguments i.escapes b).0 (Keeps-same_reading AboveArguments i (Collecting (Calling name)) b)
    (Keeps-call_unit _ i _ name)
Keeps-undropped_taking k (Collecting (Defining name appends end matched)) i b =
    Keeps-definition_found _ k i _ name appends end matched (byte_read AboveCopy i.escapes b).0 (Keeps-same_reading AboveCopy i (Collecting (Defining name appends end matched)) b)
    (omega arith)
Keeps-undropped_taking k (Skipping opened closed behind) i b = TwoMore-stays i (Skipping opened closed behind) _ (Stays-skipping_taking i opened closed behind b)
Keeps-undropped_taking k Dropped i b = TwoMore-stays i Dropped _ (Stays-dropped_taking i b)
Keeps-undropped_taking k (Collecting (Telling aborts is_front)) i b =
    Keeps-collected _ k i _ (Collecting (Telling aborts is_front)) (byte_read AboveCopy i.escapes b).0 (Keeps-same_reading AboveCopy i (Collecting (Telling aborts is_front)) b)
    (Keeps-message_unit _ i _ aborts is_front)
Keeps-undropped_taking k (Told aborts) i b = KeepsTwoMore-same i (Told aborts)
Keeps-undropped_taking k Exiting i b = KeepsTwoMore-same i Exiting
Keeps-undropped_taking k TitleFront i b =
    Keeps-collected _ k i _ TitleFront (byte_read AboveArguments i.escapes b).0 (Keeps-same_reading AboveArguments i TitleFront b)
    (Keeps-title_front_unit _ k i _)
Keeps-undropped_taking k (InTitle delimiter) i b = Keeps-title_read k i delimiter b (is_empty i.escapes && b == delimiter)

-- what isn't a byte of the line
pub Keeps-interrupted : (reading : LineState) (i : PageInput) → KeepsTwoMore i reading (interrupted reading i) reading
Keeps-interrupted reading i = record { charge = refl; newlines = refl; line = refl; free = refl; few = λ room within few. few; escapes = omega arith }

-- a byte
pub Keeps-taking : (k : Known) (reading : LineState) (i : PageInput) (b : ℕ) → TwoMore i reading (byte_taking k reading i b)
Keeps-taking k reading i b = Keeps-if _ i (is_dropped b) _ _ (Keeps-interrupted reading i) (Keeps-undropped_taking k reading i b)

-- one turn fewer is to come
abbrev pub KeepsOneFewer : PageInput → LineState → PageInput → LineState → Type 0
KeepsOneFewer i old j reading = Keeps (2 * endings_of i.escapes + begun old - 1) i j reading

-- the same of what is done where something ends
abbrev OneFewer : PageInput → LineState → Taking → Type 0
OneFewer i old t = KeepsOneFewer i old t.input t.reading

-- so it is where this is half read
falls_ended : (base : Surroundings) (half : List OpenEscape) (first : OpenEscape) (others : List OpenEscape) → half ≡ first ∷ others → Falls (endings_of half) (reading_ended base half)
falls_ended base half first others is =
    subst (λ (h : List OpenEscape). Falls (endings_of h) (reading_ended base h)) (sym is) (endings-reading_ended base first others)

Keeps-ended : (base : Surroundings) (i : PageInput) (reading : LineState) (first : OpenEscape) (others : List OpenEscape) → i.escapes ≡ first ∷ others
    → KeepsOneFewer i reading (record i { escapes = (reading_ended base i.escapes).1 }) reading
Keeps-ended base i reading first others is =
    let fewer : Falls (endings_of i.escapes) (reading_ended base i.escapes) = falls_ended base i.escapes first others is in
    record { charge = refl; newlines = refl; line = refl; free = refl; few = λ room within few. few; escapes = omega (arith, fewer) }

-- what is half read ends
pub Keeps-escape_ended : (k : Known) (reading : LineState) (i : PageInput) (first : OpenEscape) (others : List OpenEscape) → i.escapes ≡ first ∷ others
    → OneFewer i reading (escape_ended k reading i)
Keeps-escape_ended k LineStart i first others is =
    Keeps-beginning_found _ k i _ LineStart (reading_ended (at_start k) i.escapes).0 (Keeps-ended (at_start k) i LineStart first others is)
Keeps-escape_ended k Branch i first others is = Keeps-beginning_found _ k i _ Branch (reading_ended (at_start k) i.escapes).0 (Keeps-ended (at_start k) i Branch first others is)
Keeps-escape_ended k Braced i first others is = Keeps-beginning_found _ k i _ Braced (reading_ended (at_start k) i.escapes).0 (Keeps-ended (at_start k) i Braced first others is)
Keeps-escape_ended k (InText line) i first others is =
    Keeps-text_found _ k i _ line (reading_ended (on_line k line) i.escapes).0 (Keeps-ended (on_line k line) i (InText line) first others is)
Keeps-escape_ended k (Control breaks) i first others is = Keeps-ended (AboveText (pos 0)) i (Control breaks) first others is
Keeps-escape_ended k (Name breaks byte) i first others is = Keeps-ended (AboveText (pos 0)) i (Name breaks byte) first others is
Keeps-escape_ended k (Collecting (InArguments breaks request)) i first others is =
    Keeps-collected _ k i _ (Collecting (InArguments breaks request)) (reading_ended AboveArguments i.escapes).0 (Keeps-ended AboveArguments i (Collecting (InArguments breaks request)) first others is)
    (Keeps-unit_found _ k i _ breaks request)
Keeps-escape_ended k (Deciding keeping) i first others is =
    let fewer : Falls (endings_of i.escapes) (reading_ended AboveArguments i.escapes) = falls_ended AboveArguments i.escapes first others is in
    Keeps-condition_found (2 * endings_of (reading_ended AboveArguments i.escapes).1) _ k i (record i { escapes = (reading_ended AboveArguments i.escapes).1 }) keeping (reading_ended AboveArguments i.escapes).0
    (Keeps-with_escapes _ _ i i (Deciding keeping) (Deciding keeping) (reading_ended AboveArguments i.escapes).1 (KeepsTwoMore-same i (Deciding keeping)) (omega arith)) (omega (arith, fewer))
Keeps-escape_ended k (Collecting (StringName appends)) i first others is =
    Keeps-collected _ k i _ (Collecting (StringName appends)) (reading_ended AboveArguments i.escapes).0 (Keeps-ended AboveArguments i (Collecting (StringName appends)) first others is)
    (Keeps-string_name_unit _ i _ _ appends)
Keeps-escape_ended k (Collecting (StringText name appends is_front)) i first others is =
    Keeps-collected _ k i _ (Collecting (StringText name appends is_front)) (reading_ended AboveCopy i.escapes).0 (Keeps-ended AboveCopy i (Collecting (StringText name appends is_front)) first others is)
    (Keeps-string_unit _ i _ _ name appends is_front)
Keeps-escape_ended k (Collecting (Calling name)) i first others is =
    Keeps-collected _ k i _ (Collecting (Calling name)) (reading_ended AboveArguments i.escapes).0 (Keeps-ended AboveArguments i (Collecting (Calling name)) first others is)
    (Keeps-call_unit _ i _ name)
Keeps-escape_ended k (Collecting (Defining name appends end matched)) i first others is =
    Keeps-definition_found _ k i _ name appends end matched (reading_ended AboveCopy i.escapes).0 (Keeps-ended AboveCopy i (Collecting (Defining name appends end matched)) first others is)
    (let some : 1 ≤ endings_of i.escapes = rw is (omega (arith, some_ending first others)) in omega (arith, some))
Keeps-escape_ended k (Skipping opened closed behind) i first others is = Keeps-ended (AboveText (pos 0)) i (Skipping opened closed behind) first others is
Keeps-escape_ended k Dropped i first others is = Keeps-ended (AboveText (pos 0)) i Dropped first others is
Keeps-escape_ended k (Collecting (Telling aborts is_front)) i first others is =
    Keeps-collected _ k i _ (Collecting (Telling aborts is_front)) (reading_ended AboveCopy i.escapes).0 (Keeps-ended AboveCopy i (Collecting (Telling aborts is_front)) first others is)
    (Keeps-message_unit _ i _ aborts is_front)
Keeps-escape_ended k (Told aborts) i first others is = Keeps-ended (AboveText (pos 0)) i (Told aborts) first others is
Keeps-escape_ended k Exiting i first others is = Keeps-ended (AboveText (pos 0)) i Exiting first others is
Keeps-escape_ended k TitleFront i first others is =
    Keeps-collected _ k i _ TitleFront (reading_ended AboveArguments i.escapes).0 (Keeps-ended AboveArguments i TitleFront first others is)
    (Keeps-title_front_unit _ k i _)
Keeps-escape_ended k (InTitle delimiter) i first others is =
    Keeps-title_found _ k i _ delimiter (reading_ended (AboveText (pos 0)) i.escapes).0 (Keeps-ended (AboveText (pos 0)) i (InTitle delimiter) first others is)

-- a string's line that ends with the input where its name is read
Keeps-last_string : (i : PageInput) (appends : Bool) (name : Option (Option ShortName))
    → KeepsTwoMore i (Collecting (StringName appends)) (string_line_ended i appends name).input LineStart
Keeps-last_string i appends None = Keeps-string_line_ended _ i i LineStart appends None (KeepsTwoMore-same i LineStart)
Keeps-last_string i appends (Some name) =
    Keeps-string_line_ended _ i i LineStart appends (Some name) (KeepsTwoMore-same i LineStart)

-- the end of the input
pub Keeps-end_taking : (k : Known) (reading : LineState) (i : PageInput) → TwoMore i reading (end_taking k reading i)
Keeps-end_taking k LineStart i = KeepsTwoMore-same i LineStart
Keeps-end_taking k Branch i = Keeps-undropped_taking k Branch i newline
Keeps-end_taking k Braced i = KeepsTwoMore-same i LineStart
Keeps-end_taking k (InText line) i = Keeps-undropped_taking k (InText line) i newline
Keeps-end_taking k (Control breaks) i = KeepsTwoMore-same i LineStart
Keeps-end_taking k (Name breaks first) i = Keeps-undropped_taking k (Name breaks first) i newline
Keeps-end_taking k (Collecting (InArguments breaks request)) i = Keeps-undropped_taking k (Collecting (InArguments breaks request)) i newline
Keeps-end_taking k (Deciding keeping) i = KeepsTwoMore-same i LineStart
Keeps-end_taking k (Collecting (StringName appends)) i = Keeps-last_string i appends (name_at 0 (arguments_given i))
Keeps-end_taking k (Collecting (StringText name appends is_front)) i =
    Keeps-alike _ i i (Collecting (StringText name appends is_front)) (string_entered name appends i) LineStart
    (KeepsTwoMore-same i (Collecting (StringText name appends is_front))) (Alike-string_entered name appends i) refl
Keeps-end_taking k (Collecting (Calling name)) i = Keeps-undropped_taking k (Collecting (Calling name)) i newline
Keeps-end_taking k TitleFront i = Keeps-undropped_taking k TitleFront i newline
Keeps-end_taking k (InTitle delimiter) i = Keeps-title_ended _ k i i (InTitle delimiter) (KeepsTwoMore-same i (InTitle delimiter))
Keeps-end_taking k (Collecting (Defining name appends end matched)) i =
    Keeps-alike _ i i (Collecting (Defining name appends end matched)) (definition_dropped name i) LineStart (KeepsTwoMore-same i (Collecting (Defining name appends end matched)))
    (Alike-definition_dropped name i) refl
Keeps-end_taking k (Skipping opened closed behind) i = KeepsTwoMore-same i LineStart
Keeps-end_taking k Dropped i = KeepsTwoMore-same i LineStart
Keeps-end_taking k (Collecting (Telling aborts is_front)) i = Keeps-undropped_taking k (Collecting (Telling aborts is_front)) i newline
Keeps-end_taking k (Told aborts) i = record { charge = refl; newlines = refl; line = refl; free = refl; few = λ room within few. few; escapes = omega arith }
Keeps-end_taking k Exiting i = record { charge = refl; newlines = refl; line = refl; free = refl; few = λ room within few. few; escapes = omega arith }

-- the last macro is read
Keeps-called_last : (called : Called) (i : PageInput) → KeepsBy (2 * endings_of i.escapes) i (going_on (called_last called i) LineStart)
Keeps-called_last (ABody name) i = record {
  charge = refl;
  newlines = refl;
  line = refl;
  free = free_ahead-called (called_text (body_named (name_bytes name) i)) 0 i.ahead;
  few = λ room within few. few-called room (called_text (body_named (name_bytes name) i)) 0 i.ahead (few-more room 5 i.ahead within few);
  escapes = omega arith;
}
Keeps-called_last (ARequest request) i = record { charge = refl; newlines = refl; line = refl; free = refl; few = λ room within few. few; escapes = omega arith }
Keeps-called_last Unknown i = record { charge = refl; newlines = refl; line = refl; free = refl; few = λ room within few. few; escapes = omega arith }

pub Keeps-last_called : (name : Option ShortName) (i : PageInput) → KeepsBy (2 * endings_of i.escapes) i (going_on (last_called name i) LineStart)
Keeps-last_called None i = record { charge = refl; newlines = refl; line = refl; free = refl; few = λ room within few. few; escapes = omega arith }
Keeps-last_called (Some name) i = Keeps-called_last (called_by name i.names) i
