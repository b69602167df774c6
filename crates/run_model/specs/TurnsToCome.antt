-- How many turns of a run are still to come at the most: each takes something, or ends what is half read.
use Rattle.std.specs.Prelude.{ℕ, ◌+◌, ◌-◌, ◌*◌, List, [], ◌∷◌, max, Option, Some, None}
use Rattle.input_escapes.specs.OpenEscape.{OpenEscape, Condition}
use Rattle.input_model.specs.Input.{Ahead, ByteAhead, FreeAhead, EndAhead, ReturnAhead, DoAhead}
use Rattle.input_model.specs.Unread.{Unread}
use Rattle.input_escapes.specs.declared.open_escape.ConditionPart.TheVariants.{Decided}
use Rattle.run_model.specs.Reading.Items.{PageInput}
use Rattle.page_model.specs.declared.event.Event.TheVariants.{Interrupt as Interrupted, Resume}
use Rattle.run_model.specs.PageEvents.{PageEvent, PageHistory, Title}
use Rattle.run_model.specs.Registers.{AllRegisters}
use Rattle.run_model.specs.Requests.{Text, Page, SetsTrap}
use Rattle.run_model.specs.Titles.{told}
use Rattle.run_model.specs.declared.line_state.TextLine.{TextLine}
use Rattle.run_model.specs.declared.phase.Phase.{Phase}
use Rattle.run_model.specs.declared.phase.Phase.TheVariants.{Reading, LastMacro, Closing}
use Rattle.run_model.specs.declared.line_state.LineState.{LineState}
use Rattle.run_model.specs.declared.line_state.LineState.TheVariants.{LineStart, Braced, Name, Told, Exiting, Collecting}
use Rattle.run_model.specs.declared.purpose.Purpose.TheVariants.{Arguments as InArguments, Telling, Calling, Defining}

-- the bytes ahead that cost nothing
abbrev pub free_ahead : List (Ahead PageEvent) → ℕ
free_ahead [] = 0
free_ahead (ByteAhead b ∷ items) = free_ahead items
free_ahead (FreeAhead b ∷ items) = free_ahead items + 1
free_ahead (EndAhead ∷ items) = free_ahead items
free_ahead (ReturnAhead back ∷ items) = free_ahead items
free_ahead (DoAhead event ∷ items) = free_ahead items

-- how many turns it takes to end these at the most: a condition is read before it decides, and a byte behind it may begin
-- a reading
abbrev pub endings_of : List OpenEscape → ℕ
endings_of [] = 0
endings_of (Condition (Decided decision None) text ∷ rest) = endings_of rest + 1
endings_of (Condition part text ∷ rest) = endings_of rest + 2
endings_of (half ∷ rest) = endings_of rest + 1

-- What is read may need turns of its own, beside the one in which an unfinished line ends with the input. Behind that a message
-- is told, or a definition begins; what ends in a definition may end that, and begin a line of arguments or a condition.
abbrev pub begun : LineState → ℕ
begun (Name breaks first) = 4
begun (Collecting (InArguments breaks request)) = 4
begun (Collecting (Calling name)) = 1
begun (Collecting (Telling aborts is_front)) = 2
begun (Told aborts) = 1
begun Exiting = 1
begun (Collecting (Defining name appends end matched)) = 3
begun (_) = 0

-- how many unfinished lines are read: one, but at the beginning of one
abbrev pub unended : LineState → ℕ
unended LineStart = 0
unended Braced = 0
unended (_) = 1

-- How many turns are to come of this, where so many endings are: each of the others is worth four, of which three are for an
-- unfinished line that it leaves, and for an interrupted one.
abbrev pub turns_of : ℕ → LineState → ℕ
turns_of endings reading = 4 * (2 * endings + begun reading) + 2 * unended reading

-- what falls with each turn beside that, within so many bytes: each item is paid for or free, and may begin two endings;
-- each ending takes a turn, and may begin a line whose end takes another one
abbrev pub turns_within : ℕ → PageInput → ℕ
turns_within bytes i = 5 * (bytes - i.charge) + 5 * free_ahead i.ahead + 2 * endings_of i.escapes

-- the same of the unread input, within its limit
abbrev pub turns_to_come : Unread PageEvent → ℕ
turns_to_come u = turns_within u.limits.bytes u.input

-- the history behind some events, as they happen with these registers
abbrev pub behind_all : AllRegisters → List PageEvent → PageHistory → PageHistory
behind_all rs [] h = h
behind_all rs (e ∷ es) h = behind_all rs es (told rs e ∷ h)

-- an interrupted line that is to end takes a turn
abbrev pub lines_left : Option TextLine → ℕ
lines_left None = 0
lines_left (Some line) = 1

-- and so does each phase, in which it may be the last macro that leaves one
abbrev pub phases_left : Phase → ℕ
phases_left Reading = 5
phases_left LastMacro = 3
phases_left Closing = 1

-- how many interrupted lines are left in the environment in force behind an event, at the most
abbrev pub left_by : PageEvent → ℕ → ℕ
left_by (Text Resume) lines = 0
left_by (Text Interrupted) lines = 1
left_by (Text e) lines = lines
left_by (SetsTrap trap) lines = lines
left_by (Page e) lines = lines
left_by (Title which) lines = lines
left_by (_) lines = 1

-- and behind any of these, as the first few of them may be performed, and the others put back
abbrev pub most_left : List PageEvent → ℕ → ℕ
most_left [] lines = lines
most_left (e ∷ es) lines = max (left_by e lines) (most_left es (left_by e lines))
