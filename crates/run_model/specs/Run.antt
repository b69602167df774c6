-- The run: a machine of small steps over the source's tape.
use Rattle.std.specs.Prelude.{◌≡◌, ℕ, zero, suc, ◌+◌, Bool, true, false, List, [], ◌∷◌, ◌++◌, length, map, nat_lt, Option, Some, None, if◌then◌else◌}
use Rattle.roff_num.specs.declared.limit.Limit.{Limit}
use Rattle.roff_num.specs.declared.limit.Limit.TheVariants.{Bytes, Messages}
use Rattle.roff_num.specs.declared.limits.Limits.{Limits}
use Rattle.input_escapes.specs.Waiting.{is_ended_by}
use Rattle.input_escapes.specs.declared.open_escape.Waiting.{Waiting}
use Rattle.input_escapes.specs.declared.open_escape.Waiting.TheVariants.{Takes, Decides, Waits}
use Rattle.roff_num.specs.ShortNames.{name_bytes}
use Rattle.roff_num.specs.declared.num.Num.{Num}
use Rattle.roff_num.specs.declared.short_name.ShortName.{ShortName}
use Rattle.input_model.specs.Input.{Ahead, ByteAhead, FreeAhead, EndAhead, DoAhead, cost, item_taken, counting, leaving, outermost_back, putting_all_back, ReturnAhead}
use Rattle.input_model.specs.Input.Calls.{springing}
use Rattle.input_model.specs.Input.Names.{body_named}
use Rattle.input_source.specs.Tape.{Tape, Answer, OneByte, OneNote, Ended, Failed, Stopped, Gives, Ends, front, behind_front}
use Rattle.input_model.specs.Shown.{Sighted, SeesByte, SeesNothing, SeesNote, SeesEnding, seen_ahead}
use Rattle.input_model.specs.Arguments.{no_arguments}
use Rattle.input_escapes.specs.OpenEscape.{OpenEscape}
use Rattle.run_model.specs.Messages.{told_line}
use Rattle.run_model.specs.Output.{layout_of, written}
use Rattle.run_model.specs.Reading.{byte_taking, escape_ended}
use Rattle.run_model.specs.Reading.Units.{interrupted}
use Rattle.run_model.specs.Reading.Calls.{last_called}
use Rattle.run_model.specs.Reading.Ends.{end_taking, due, is_unfinished}
use Rattle.run_model.specs.Reading.Items.{Taking, going_on, meaning_events}
use Rattle.run_model.specs.Reading.Messages.{message_text_read}
use Rattle.run_model.specs.Reading.Returns.{back_of, behind_return, going_back, gone_back_to, in_sprung}
use Rattle.run_model.specs.Reading.Waiting.{waiting_in}
use Rattle.run_model.specs.Registers.{AllRegisters}
use Rattle.run_model.specs.Events.Lines.{closing_events}
use Rattle.run_model.specs.PageEvents.{PageEvent, PastEvent}
use Rattle.run_model.specs.Requests.{called_by}
use Rattle.page_model.specs.DueTexts.{TextDue}
use Rattle.run_model.specs.Following.{following, text_changed}
use Rattle.run_model.specs.Springs.{left_of, next}
use Rattle.run_model.specs.Titles.{keeping, put_back, told}
use Rattle.run_model.specs.declared.request.Called.{Called}
use Rattle.run_model.specs.declared.request.Called.TheVariants.{Body as ABody}
use Rattle.run_model.specs.declared.message.Message.TheVariants.{ReadFailed}
use Rattle.run_model.specs.declared.line_state.Due.{Due}
use Rattle.run_model.specs.declared.line_state.Due.TheVariants.{Leaves, Tells as TellsText}
use Rattle.run_model.specs.declared.line_state.LineState.{LineState}
use Rattle.run_model.specs.declared.line_state.LineState.TheVariants.{LineStart}
use Rattle.run_model.specs.declared.status.Status.TheVariants.{Aborted, Done, Device, Limit as Limited}
use Rattle.run_model.specs.declared.phase.Phase.{Phase}
use Rattle.run_model.specs.declared.phase.Phase.TheVariants.{Reading, LastMacro, Closing}
use Rattle.run_model.specs.declared.start.Start.{Start}
use Rattle.run_model.specs.Starts.{history_given, pages_given, with_given}
use Rattle.run_model.specs.Run.Counts.{passes_bytes, first_passed, refusal, names_counted, counts_in}
pub use Rattle.run_model.specs.Run.States.{State, Following, nothing_follows, only_sprung, first_input, first_unread, blank_state, known_at, known, ending_as, ending_with, stopped_by, meaning, unless_refused}
pub mod Counts
pub mod States

-- the registers that are given are set, one after another, up to the first that the limit on names refuses
abbrev pub with_registers : Limits → List (ℕ × Num) → State → State
with_registers l [] s = s
with_registers l (given ∷ others) s =
    let behind : AllRegisters = with_given given s.registers in
    unless_refused l (first_passed l (names_counted behind)) s
    (with_registers l others (record s { registers = behind; history = history_given given s.history }))

-- what is given of the pages stands
abbrev pub paged_state : Start → Tape → State
paged_state start tape = record (blank_state tape) { history = pages_given start }

-- before the first step: what is given to the run stands
abbrev pub initial : Limits → Start → Tape → State
initial l start tape = with_registers l start.registers.items (paged_state start tape)

-- these are left to do; where a macro was sprung they are put back, and stand behind it: a title among them is kept
abbrev pub with_left : Option ShortName → List PageEvent → State → State
with_left None left s = record s { to_do = left }
with_left (Some name) left s = record s {
  to_do = [];
  registers = keeping left s.registers;
  input = putting_all_back (map put_back left) s.input;
}

-- what follows is still to be done, and these are left
abbrev pub followed_by : Following → List PageEvent → State → State
followed_by f left s = with_left f.sprung left (record s { follows = f })

-- where the last page has ended the run is done
abbrev pub done_if : Bool → State → State → State
done_if is_over behind goes_on = if is_over then ending_as Done behind else goes_on

-- an event happened, and these are left
abbrev pub performed : PastEvent → List PageEvent → State → State
performed e left s =
    let behind : State = record s { history = e ∷ s.history } in
    done_if (layout_of behind.history).is_over behind (followed_by (following s.history e) left behind)

-- an event is performed, or refused by a limit, and what goes on of it is left; where something comes before it, that is, and the
-- event is left
abbrev pub performing : Limits → Option PageEvent → PageEvent → List PageEvent → State → State
performing l None e rest s =
    let happens : PastEvent = told s.registers e in
    unless_refused l (refusal l s.history happens) s (performed happens (left_of s.history happens ++ rest) s)
performing l (Some own) e rest s =
    let happens : PastEvent = told s.registers own in
    unless_refused l (refusal l s.history happens) s (performed happens (e ∷ rest) s)

-- the same of a state
abbrev pub grown : State → List (Limit × ℕ)
grown s = counts_in s.registers s.input

-- a step that leads to this state is made, unless a count would pass its limit there
abbrev pub made : Limits → State → State → State
made l s done = unless_refused l (first_passed l (grown done)) s done

-- the source has moved on
abbrev pub moved : State → State
moved s = record s { tape = behind_front s.tape }

-- what is done with an item: this is read behind it, and its effect is meant
abbrev pub taken_as : Taking → State → State
taken_as t s = meaning t.effect (record s { input = t.input; reading = t.reading })

-- a byte does what it does where it is read
abbrev pub byte_taken : ℕ → State → State
byte_taken b s = taken_as (byte_taking (known s) s.reading s.input b) s

-- what is half read ends before what stays
abbrev pub escape_ends : State → State
escape_ends s = taken_as (escape_ended (known s) s.reading s.input) s

-- A phase ends at a line's beginning: behind the input the last macro is read, and behind that the pending line is placed and
-- the last page ejected; then the run is done.
abbrev pub phase_ended : Phase → State → State
phase_ended Reading s = taken_as (going_on (last_called s.registers.last_macro s.input) LineStart) (record s { phase = LastMacro })
phase_ended LastMacro s = taken_as (meaning_events s.input LineStart closing_events) (record s { phase = Closing })
phase_ended Closing s = ending_as Done s

-- with nothing half read the phase ends, unless a line is unfinished: that ends first, as by a newline
abbrev pub input_ended : Bool → State → State
input_ended false s = phase_ended s.phase s
input_ended true s = taken_as (end_taking (known s) s.reading s.input) s

-- a message is told, and its text is released
abbrev pub message_told : State → State
message_told s = record s {
  input = record s.input { arguments = no_arguments };
  reading = LineStart;
  messages = s.messages ++ told_line false (message_text_read s.input);
}

-- a message ended the run
abbrev pub aborted : State → State
aborted s = record s { ended = Some Aborted; last_message = told_line true (message_text_read s.input) }

-- what ends of bodies lead back to is read on
abbrev pub going_back_to : LineState → State → State
going_back_to reading s = record s { reading = reading; to_do = going_back reading ++ s.to_do }

-- what stands ahead of the source is dropped, and nothing more is taken of it: what is read is what all ends of bodies lead back to
abbrev pub input_left : State → State
input_left s =
    going_back_to (gone_back_to (outermost_back 0 s.input.ahead)) (record s { input = leaving s.input; is_closed = true })

-- `ex` was read: the input is left, but as the run closes nothing is, and a line begins
abbrev pub left_in : Phase → State → State
left_in Reading s = input_left s
left_in LastMacro s = input_left s
left_in Closing s = record s { reading = LineStart }

-- an item ahead of the source was taken: a byte is read, and an event that was put back is to be performed
abbrev pub ahead_taken : Ahead PageEvent → State → State
ahead_taken (ByteAhead b) s = byte_taken b s
ahead_taken (FreeAhead b) s = byte_taken b s
ahead_taken EndAhead s = s
ahead_taken (ReturnAhead back) s = going_back_to (behind_return back s.reading) s
ahead_taken (DoAhead e) s = record s { input = interrupted s.reading s.input; to_do = e ∷ [] }

-- an item ahead of the source is taken, at its cost
abbrev pub taking_ahead : Limits → Ahead PageEvent → List (Ahead PageEvent) → State → State
taking_ahead l item behind s =
    if nat_lt l.bytes (s.input.charge + cost item) then stopped_by l Bytes s
    else made l s (ahead_taken item (record s { input = item_taken item behind s.input }))

-- a byte of the source is taken
abbrev pub taking_byte : Limits → ℕ → State → State
taking_byte l b s =
    if passes_bytes l s.input then stopped_by l Bytes s
    else made l s (byte_taken b (moved (record s { input = counting b s.input })))

-- the end of the input: what is half read ends first, one after another
abbrev pub ending_input : Limits → List OpenEscape → State → State
ending_input l [] s = made l s (input_ended (is_unfinished s.phase (known s) s.reading) s)
ending_input l (first ∷ others) s = made l s (escape_ends s)

-- the source was asked, with nothing ahead of it, and answered this. At the limit a byte is looked at and not taken.
abbrev pub answered : Limits → Answer → State → State
answered l (Gives (OneByte b)) s = taking_byte l b s
answered l (Gives (OneNote message)) s = moved (record s { messages = s.messages ++ message })
answered l (Ends Ended) s = ending_input l s.input.escapes s
answered l (Ends Failed) s = ending_with Device ReadFailed s
answered l (Ends (Stopped limit)) s = ending_as (Limited limit) s

-- what the source answers where it is asked: a closed one isn't, and has ended
abbrev pub source_answer : State → Answer
source_answer s = if s.is_closed then Ends Ended else front s.tape

-- the item in front is taken: one ahead, or one of the source
abbrev pub in_front_taken : Limits → List (Ahead PageEvent) → State → State
in_front_taken l [] s = answered l (source_answer s) s
in_front_taken l (item ∷ behind) s = taking_ahead l item behind s

-- what is read waits for a byte, and this is seen, a byte or nothing that can be read: it stays, and ends what is half read, or
-- the item in front is taken
abbrev pub front_seen : Limits → Option ℕ → State → State
front_seen l seen s = if is_ended_by s.input.escapes seen then made l s (escape_ends s) else in_front_taken l s.input.ahead s

-- it waits, and the source is seen behind ends of texts alone, and answers this
abbrev pub awaited_of_source : Limits → Answer → State → State
awaited_of_source l (Gives (OneByte b)) s = front_seen l (Some b) s
awaited_of_source l (Gives (OneNote message)) s = moved (record s { messages = s.messages ++ message })
awaited_of_source l (Ends Ended) s = front_seen l None s
awaited_of_source l (Ends Failed) s = ending_with Device ReadFailed s
awaited_of_source l (Ends (Stopped limit)) s = ending_as (Limited limit) s

-- it waits, and this is seen ahead of the source, or of the source behind ends of texts alone
abbrev pub awaited : Limits → Option Sighted → State → State
awaited l (Some (SeesByte b)) s = front_seen l (Some b) s
awaited l (Some SeesNothing) s = front_seen l None s
awaited l (Some (SeesNote message)) s = front_seen l None s
awaited l (Some (SeesEnding ending)) s = front_seen l None s
awaited l None s = awaited_of_source l (source_answer s) s

-- What is read does this at the next item. What waits for a byte sees the first one behind any ends of texts before it takes
-- one of these; a condition that is read decides before anything is taken or seen.
abbrev pub read_waiting : Limits → Waiting → State → State
read_waiting l Takes s = in_front_taken l s.input.ahead s
read_waiting l Decides s = made l s (escape_ends s)
read_waiting l Waits s = awaited l (seen_ahead s.input.ahead) s

-- one item of the input, or how it ends
abbrev pub item_read : Limits → State → State
item_read l s = read_waiting l (waiting_in s.reading s.input) s

-- what is due comes first: a message is told, or ends the run; or the input is left
abbrev pub reading_by : Limits → Option Due → State → State
reading_by l None s = item_read l s
reading_by l (Some (TellsText false)) s = made l s (message_told s)
reading_by l (Some (TellsText true)) s = aborted s
reading_by l (Some Leaves) s = made l s (left_in s.phase s)

-- what is due, or one item of the input, or how it ends
abbrev pub reading_on : Limits → State → State
reading_on l s = reading_by l (due s.reading) s

-- The body of a macro that sprang is put in front: what is read goes on behind it. Where the name has no body nothing is read, and
-- there is no end.
abbrev pub sprung_read : Called → State → State
sprung_read (ABody name) s = record s {
  follows = nothing_follows;
  input = springing (body_named (name_bytes name) s.input) (back_of s.reading) s.input;
  reading = in_sprung s.reading;
}
sprung_read (_) s = record s { follows = nothing_follows }

-- what sprang comes first, if something did
abbrev pub with_sprung : Limits → Option ShortName → State → State
with_sprung l None s = reading_on l s
with_sprung l (Some name) s = made l s (sprung_read (called_by name s.input.names) s)

-- one step of a run that hasn't ended, where no text changes: the first of the events to do, what sprang, what is due, or an item
abbrev pub step_with : Limits → List PageEvent → State → State
step_with l (e ∷ rest) s = performing l (next s.history e) e rest s
step_with l [] s = with_sprung l s.follows.sprung s

-- the text of a diversion has changed
abbrev pub text_done : TextDue → State → State
text_done due s = record s { follows = only_sprung s.follows.sprung; input = text_changed due s.input }

-- the text of a diversion changes before anything else is done, if it is to
abbrev pub step_behind : Limits → Option TextDue → State → State
step_behind l None s = step_with l s.to_do s
step_behind l (Some due) s = made l s (text_done due s)

-- one step: a run that has ended stays as it is
abbrev pub step : Limits → State → State
step l s = elim s.ended [ None ↦ step_behind l s.follows.text s | Some status ↦ s ]

-- so many steps
abbrev pub after : Limits → ℕ → State → State
after l zero s = s
after l (suc n) s = after l n (step l s)

-- what is done is done and its messages are told, unless these would pass the limit on messages: then the run stops before it
abbrev pub unless_untold : Limits → State → State → State
unless_untold l s done = if nat_lt l.messages (length done.messages) then stopped_by l Messages s else done

-- one step of a run that has a limit on its messages: one that has ended stays as it is
abbrev pub told_step : Limits → State → State
told_step l s = elim s.ended [ None ↦ unless_untold l s (step l s) | Some status ↦ s ]

-- so many of these
abbrev pub told_after : Limits → ℕ → State → State
told_after l zero s = s
told_after l (suc n) s = told_after l n (told_step l s)

-- some number of these leads from one state to another
pub record ToldLeads (l : Limits) (s t : State) : Type 0 where
  pub steps : ℕ
  pub there : told_after l steps s ≡ t

-- some number of steps leads from one state to another, whatever messages they tell
pub record Leads (l : Limits) (s t : State) : Type 0 where
  pub steps : ℕ
  pub there : after l steps s ≡ t

-- what a run wrote
abbrev pub output : State → List ℕ
output s = written s.history

-- what it reported
abbrev pub reported : State → List ℕ
reported s = s.messages ++ s.last_message
