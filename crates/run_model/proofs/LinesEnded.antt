-- What the end of a line with the input leaves to come: where a line begins nothing changes, and else fewer turns are to come.
use Rattle.std.proofs.Common.{◌≡◌, ℕ, ◌+◌, ◌≤◌, Bool, false, List, [], Some, None, refl, sym, subst, arith}
use Rattle.input_source.specs.Bytes.{newline}
use Rattle.input_model.specs.Input.Calls.{arguments_given, last_result, without_last}
use Rattle.input_escapes.specs.OpenEscape.{OpenEscape}
use Rattle.input_escapes.specs.declared.open_escape.Decision.TheVariants.{Is}
use Rattle.input_escapes.specs.declared.open_escape.Found.TheVariants.{Decides}
use Rattle.run_model.specs.declared.line_state.LineState.{LineState}
use Rattle.run_model.specs.declared.line_state.LineState.TheVariants.{LineStart, Branch, Braced, Text as InText, Control, Name, Deciding, Skipping, Dropped, Told, Exiting, TitleFront, Title as InTitle, Collecting}
use Rattle.run_model.specs.declared.purpose.Purpose.TheVariants.{Arguments as InArguments, StringName, StringText, Telling, Calling, Defining}
use Rattle.run_model.specs.declared.request.LineReading.{LineReading}
use Rattle.run_model.specs.declared.request.LineReading.TheVariants.{ByArguments, ByCondition, ByElse, ByLastLine, ByMessage, ByString, ByLines, ByTitle}
use Rattle.run_model.specs.declared.request.Called.{Called}
use Rattle.run_model.specs.declared.request.Called.TheVariants.{Request as ARequest, Body as ABody, Nothing as Unknown}
use Rattle.roff_num.specs.ShortNames.{name_at}
use Rattle.run_model.specs.declared.request.Request.{Request}
use Rattle.run_model.specs.Reading.Arguments.{arguments_ended}
use Rattle.run_model.specs.Reading.Branches.{reads_else}
use Rattle.run_model.specs.Reading.ControlLines.{line_taking, called_taking}
use Rattle.run_model.specs.Reading.Definitions.{definition_dropped}
use Rattle.run_model.specs.Reading.Ends.{end_taking}
use Rattle.run_model.specs.Reading.Items.{PageInput, Taking}
use Rattle.run_model.specs.Reading.Strings.{string_entered}
use Rattle.run_model.specs.Registers.{Known}
use Rattle.run_model.specs.Requests.{called_by, row_of}
use Rattle.run_model.specs.TurnsToCome.{begun, endings_of, turns_of, unended}
use Rattle.run_model.proofs.KeepingText.{Keeps, KeepsBy}
use Rattle.run_model.proofs.KeepingTitles.{Keeps-title_ended}
use Rattle.run_model.proofs.KeepingLines.{Keeps-alike, Alike-string_entered, Alike-definition_dropped, Keeps-arguments_ended, Keeps-string_line_ended, Keeps-called}
use Rattle.run_model.proofs.KeepingNames.{Keeps-branch_taking, Keeps-condition_found}

-- an input where nothing is half read
abbrev plain : PageInput → PageInput
plain i = record i { escapes = [] }

Keeps-plain : (i : PageInput) (most : ℕ) (reading : LineState) → begun reading ≤ most → Keeps most (plain i) (plain i) reading
Keeps-plain i most reading few = record { charge = refl; newlines = refl; line = refl; free = refl; few = λ room within few. few; escapes = omega (arith, few) }

-- what a newline gives there where a line is read: a definition may begin
module _ (k : Known) (i : PageInput) (breaks : Bool) where
  -- the end of a line of arguments
  Keeps-last_arguments : (request : Request)
      → KeepsBy 3 (plain i) (arguments_ended k (plain i) breaks request (row_of request).line)
  Keeps-last_arguments request =
      let old : LineState = Collecting (Defining None false None None) in
      Keeps-arguments_ended 3 k (plain i) (plain i) old breaks request (row_of request).line
      (Keeps-plain i 3 old (omega arith)) (omega arith)

  -- and of a request without any
  Keeps-last_line : (request : Request) (line : LineReading)
      → KeepsBy 3 (plain i) (line_taking k (plain i) breaks request line newline)
  Keeps-last_line request ByArguments = Keeps-last_arguments request
  Keeps-last_line request (ByCondition keeping) =
      Keeps-condition_found 0 3 k (plain i) (plain i) keeping (Decides (Is false) (Some newline))
      (Keeps-plain i 0 (Deciding keeping) (omega arith)) (omega arith)
  Keeps-last_line request (ByString appends) =
      Keeps-string_line_ended 3 (plain i) (plain i) LineStart appends (name_at 0 (arguments_given (plain i)))
      (Keeps-plain i 3 LineStart (omega arith))
  Keeps-last_line request ByLastLine = Keeps-last_arguments request
  Keeps-last_line request (ByMessage aborts) = Keeps-plain i 3 (Told aborts) (omega arith)
  Keeps-last_line request (ByLines lines) = Keeps-last_arguments request
  Keeps-last_line request ByTitle = Keeps-title_ended 3 k (plain i) (plain i) LineStart (Keeps-plain i 3 LineStart (omega arith))
  Keeps-last_line request ByElse =
      Keeps-branch_taking 0 3 k (plain i) (without_last (plain i)) LineStart (reads_else (last_result (plain i))) newline
      (record { charge = refl; newlines = refl; line = refl; free = refl; few = λ room within few. few; escapes = omega arith }) (omega arith)

  -- what a line does that ends behind a name
  Keeps-last_name : (called : Called) → KeepsBy 3 (plain i) (called_taking k (plain i) breaks called newline)
  Keeps-last_name (ARequest request) = Keeps-last_line request (row_of request).line
  Keeps-last_name (ABody name) = Keeps-called 3 (plain i) (plain i) LineStart name (Keeps-plain i 3 LineStart (omega arith))
  Keeps-last_name Unknown = Keeps-plain i 3 LineStart (omega arith)

-- one line is read at the most
pub unended-few : (reading : LineState) → unended reading ≤ 1
unended-few LineStart = omega arith
unended-few Branch = omega arith
unended-few Braced = omega arith
unended-few (InText line) = omega arith
unended-few (Control breaks) = omega arith
unended-few (Name breaks first) = omega arith
unended-few (Collecting purpose) = omega arith
unended-few (Deciding keeping) = omega arith
unended-few (Skipping opened closed behind) = omega arith
unended-few Dropped = omega arith
unended-few (Told aborts) = omega arith
unended-few Exiting = omega arith
unended-few TitleFront = omega arith
unended-few (InTitle delimiter) = omega arith

-- fewer turns are to come of what is half read and of what is read, by two
abbrev pub FewerTurns : PageInput → LineState → Taking → Type 0
FewerTurns i old t = turns_of (endings_of t.input.escapes) t.reading + 2 ≤ turns_of (endings_of i.escapes) old

-- what the end of a line with the input leaves to come: where one begins nothing changes, and else fewer turns are to come
pub data LineEnded (k : Known) (i : PageInput) : LineState → Type 0 where
  AtStart : LineEnded k i LineStart
  AtBrace : LineEnded k i Braced
  Within : (reading : LineState) → FewerTurns i reading (end_taking k reading i) → LineEnded k i reading

-- where one is read that keeps fewer
within_fewer : (k : Known) (reading : LineState) (i : PageInput) (most : ℕ) → Keeps most (plain i) (end_taking k reading (plain i)).input (end_taking k reading (plain i)).reading
    → most + 1 ≤ begun reading → LineEnded k (plain i) reading
within_fewer k reading i most keeps fewer =
    Within reading (omega (arith, keeps.escapes, fewer, unended-few (end_taking k reading (plain i)).reading))

line_ended_plain : (k : Known) (reading : LineState) (i : PageInput) → LineEnded k (plain i) reading
line_ended_plain k LineStart i = AtStart
line_ended_plain k Branch i = Within Branch (omega arith)
line_ended_plain k Braced i = AtBrace
line_ended_plain k (InText line) i = Within (InText line) (omega arith)
line_ended_plain k (Control breaks) i = Within (Control breaks) (omega arith)
line_ended_plain k (Name breaks first) i =
    within_fewer k (Name breaks first) i 3 (Keeps-last_name k i breaks (called_by (record { first = first; second = None }) i.names)) (omega arith)
line_ended_plain k (Collecting (InArguments breaks request)) i = within_fewer k (Collecting (InArguments breaks request)) i 3 (Keeps-last_arguments k i breaks request) (omega arith)
line_ended_plain k (Deciding keeping) i = Within (Deciding keeping) (omega arith)
line_ended_plain k (Collecting (StringName appends)) i =
    let keeps = Keeps-string_line_ended 0 (plain i) (plain i) LineStart appends (name_at 0 (arguments_given (plain i))) (Keeps-plain i 0 LineStart (omega arith)) in
    Within (Collecting (StringName appends)) (omega (arith, keeps.escapes))
line_ended_plain k (Collecting (StringText name appends is_front)) i =
    let keeps = Keeps-alike 0 (plain i) (plain i) LineStart (string_entered name appends (plain i)) LineStart
    (Keeps-plain i 0 LineStart (omega arith)) (Alike-string_entered name appends (plain i)) refl in
    Within (Collecting (StringText name appends is_front)) (omega (arith, keeps.escapes))
line_ended_plain k (Collecting (Calling name)) i =
    within_fewer k (Collecting (Calling name)) i 0 (Keeps-called 0 (plain i) (plain i) LineStart name (Keeps-plain i 0 LineStart (omega arith))) (omega arith)
line_ended_plain k (Collecting (Defining name appends end matched)) i =
    within_fewer k (Collecting (Defining name appends end matched)) i 0
    (Keeps-alike 0 (plain i) (plain i) LineStart (definition_dropped name (plain i)) LineStart (Keeps-plain i 0 LineStart (omega arith))
    (Alike-definition_dropped name (plain i)) refl) (omega arith)
line_ended_plain k (Skipping opened closed behind) i = Within (Skipping opened closed behind) (omega arith)
line_ended_plain k Dropped i = Within Dropped (omega arith)
line_ended_plain k (Collecting (Telling aborts is_front)) i = within_fewer k (Collecting (Telling aborts is_front)) i 1 (Keeps-plain i 1 (Told aborts) (omega arith)) (omega arith)
line_ended_plain k (Told aborts) i = Within (Told aborts) (omega arith)
line_ended_plain k Exiting i = Within Exiting (omega arith)
line_ended_plain k TitleFront i = Within TitleFront (omega arith)
line_ended_plain k (InTitle delimiter) i = Within (InTitle delimiter) (omega arith)

-- with nothing half read a line ends so with the input
pub line_ended : (k : Known) (reading : LineState) (i : PageInput) → i.escapes ≡ [] → LineEnded k i reading
line_ended k reading i none =
    subst (λ (half : List OpenEscape). LineEnded k (record i { escapes = half }) reading) (sym none) (line_ended_plain k reading i)
