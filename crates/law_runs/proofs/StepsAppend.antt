-- A step appends to what the run wrote and to its messages, and takes nothing back.
--
-- Each function f of the run has its lemma OnlyCuts-f here, with a line for each of its cases. Where a case
-- leaves the history and the messages as they are, the line is `OnlyCuts-same s _ refl refl`; where it appends
-- messages alone, `OnlyCuts-message s _ _ refl refl`; and where it calls another function, that one's lemma.
use Rattle.std.proofs.Common.{◌≡◌, ℕ, ◌+◌, Bool, true, false, List, [], ◌∷◌, ◌++◌, Option, Some, None, refl, nat_lt, if◌then◌else◌}
use Rattle.roff_num.specs.declared.limit.Limit.{Limit}
use Rattle.roff_num.specs.declared.limits.Limits.{Limits}
use Rattle.input_escapes.specs.Waiting.{is_ended_by}
use Rattle.input_escapes.specs.declared.open_escape.Waiting.{Waiting}
use Rattle.input_escapes.specs.declared.open_escape.Waiting.TheVariants.{Takes, Decides, Waits}
use Rattle.run_model.specs.Reading.Waiting.{waiting_in}
use Rattle.input_model.specs.Input.{Ahead, ByteAhead, FreeAhead, EndAhead, ReturnAhead, DoAhead, cost, item_taken, counting}
use Rattle.input_source.specs.Tape.{Answer, Gives, Ends, OneByte, OneNote, Ended, Failed, Stopped}
use Rattle.input_model.specs.Shown.{Sighted, SeesByte, SeesNothing, SeesNote, SeesEnding, seen_ahead}
use Rattle.input_escapes.specs.OpenEscape.{OpenEscape}
use Rattle.law_runs.specs.Laws.{OnlyCuts}
use Rattle.roff_num.specs.Lists.{IsBeginning}
use Rattle.run_model.specs.Reading.Ends.{due, is_unfinished}
use Rattle.run_model.specs.declared.line_state.Due.{Due}
use Rattle.run_model.specs.declared.line_state.Due.TheVariants.{Leaves, Tells as TellsText}
use Rattle.run_model.specs.PageEvents.{PageEvent, PastEvent}
use Rattle.run_model.specs.Output.{PageHistory, layout_of, written}
use Rattle.run_model.specs.Run.{read_waiting, State, done_if, performing, unless_refused, grown, made, moved, byte_taken, escape_ends, ahead_taken, taking_ahead, taking_byte, ending_input, answered, in_front_taken, front_seen, awaited_of_source, awaited, item_read, input_ended, message_told, left_in, reading_by, step_with, step, known, performed, phase_ended, source_answer, sprung_read, step_behind, text_done, with_left, with_registers, with_sprung}
use Rattle.run_model.specs.Run.Counts.{passes_bytes, refusal, first_passed, names_counted}
use Rattle.roff_num.specs.declared.num.Num.{Num}
use Rattle.run_model.specs.Requests.{called_by}
use Rattle.run_model.specs.Springs.{left_of, next, springs}
use Rattle.run_model.specs.Titles.{told}
use Rattle.run_model.specs.Requests.Effects.{page_numbered}
use Rattle.run_model.specs.Requests.Numbering.{number_of_page}
use Rattle.run_model.specs.Starts.{history_given, with_given}
use Rattle.run_model.specs.declared.request.Called.{Called}
use Rattle.run_model.specs.declared.request.Called.TheVariants.{Request as ARequest, Body as ABody, Nothing as Unknown}
use Rattle.roff_num.specs.declared.short_name.ShortName.{ShortName}
use Rattle.run_model.specs.declared.phase.Phase.{Phase}
use Rattle.run_model.specs.declared.phase.Phase.TheVariants.{Reading, LastMacro, Closing}
use Rattle.law_runs.proofs.Beginnings.{IsBeginning-same, IsBeginning-append, IsBeginning-trans}
use Rattle.run_model.specs.Following.{following}
use Rattle.page_model.specs.DueTexts.{TextDue}
use Rattle.law_runs.proofs.TextsChanged.{text-holds}

-- a state of the same history and messages
pub OnlyCuts-same : (s t : State) → t.history ≡ s.history → t.messages ≡ s.messages → OnlyCuts s t
OnlyCuts-same s t history messages =
    record { text = rw history (IsBeginning-same _); messages = rw messages (IsBeginning-same _) }

-- a state with more messages
pub OnlyCuts-message : (s t : State) (message : List ℕ) → t.history ≡ s.history → t.messages ≡ s.messages ++ message → OnlyCuts s t
OnlyCuts-message s t message history messages =
    record { text = rw history (IsBeginning-same _); messages = rw messages (IsBeginning-append _ _) }

-- a state behind one more event
pub OnlyCuts-event : (s t : State) (e : PastEvent) → t.history ≡ e ∷ s.history → t.messages ≡ s.messages → OnlyCuts s t
OnlyCuts-event s t e history messages =
    record { text = rw history (IsBeginning-append _ _); messages = rw messages (IsBeginning-same _) }

-- one state behind another
pub OnlyCuts-trans : {s t u : State} → OnlyCuts s t → OnlyCuts t u → OnlyCuts s u
OnlyCuts-trans first second = record {
  text = IsBeginning-trans first.text second.text;
  messages = IsBeginning-trans first.messages second.messages;
}

-- either of two states
pub OnlyCuts-if : (b : Bool) {s t u : State} → OnlyCuts s t → OnlyCuts s u → OnlyCuts s (if b then t else u)
OnlyCuts-if true first second = first
OnlyCuts-if false first second = second

-- a step that a limit may refuse
pub OnlyCuts-unless_refused : (l : Limits) (r : Option Limit) (s : State) {t : State} → OnlyCuts s t → OnlyCuts s (unless_refused l r s t)
OnlyCuts-unless_refused l None s done = done
OnlyCuts-unless_refused l (Some limit) s done = OnlyCuts-same s _ refl refl

-- a register is set that is given
IsBeginning-numbered : (n : Option Num) (h : PageHistory) → IsBeginning (written h) (written (page_numbered n ++ h))
IsBeginning-numbered None h = IsBeginning-same (written h)
IsBeginning-numbered (Some n) h = IsBeginning-append _ _

pub OnlyCuts-given : (given : ℕ × Num) (s : State)
    → OnlyCuts s (record s { registers = with_given given s.registers; history = history_given given s.history })
OnlyCuts-given given s = record {
  text = IsBeginning-numbered (number_of_page (given.0 ∷ []) given.1) s.history;
  messages = IsBeginning-same s.messages;
}

-- registers are set that are given
pub OnlyCuts-with_registers : (l : Limits) (given : List (ℕ × Num)) (s : State) → OnlyCuts s (with_registers l given s)
OnlyCuts-with_registers l [] s = OnlyCuts-same s s refl refl
OnlyCuts-with_registers l (first ∷ others) s =
    let behind : State = record s { registers = with_given first s.registers; history = history_given first s.history } in
    OnlyCuts-unless_refused l (first_passed l (names_counted behind.registers)) s
    (OnlyCuts-trans (OnlyCuts-given first s) (OnlyCuts-with_registers l others behind))

-- these are left to do, or put back
OnlyCuts-with_left : (sprung : Option ShortName) (left : List PageEvent) (s t : State) → OnlyCuts s t → OnlyCuts s (with_left sprung left t)
OnlyCuts-with_left None left s t cuts = record { text = cuts.text; messages = cuts.messages }
OnlyCuts-with_left (Some name) left s t cuts = record { text = cuts.text; messages = cuts.messages }

-- the run is done, or it goes on
OnlyCuts-done_if : (over : Bool) (s behind goes_on : State) → OnlyCuts s behind → OnlyCuts s goes_on → OnlyCuts s (done_if over behind goes_on)
OnlyCuts-done_if true s behind goes_on cuts others = record { text = cuts.text; messages = cuts.messages }
OnlyCuts-done_if false s behind goes_on cuts others = others

-- an event happened
pub OnlyCuts-performed : (e : PastEvent) (left : List PageEvent) (s : State) → OnlyCuts s (performed e left s)
OnlyCuts-performed e left s =
    let behind : State = record s { history = e ∷ s.history } in
    let cuts : OnlyCuts s behind = OnlyCuts-event s behind e refl refl in
    let followed : State = record behind { follows = following s.history e } in
    OnlyCuts-done_if (layout_of behind.history).is_over s behind _ cuts
    (OnlyCuts-with_left (springs s.history e) left s followed (OnlyCuts-event s followed e refl refl))

-- an event is performed, or what comes before it
pub OnlyCuts-performing : (l : Limits) (own : Option PageEvent) (e : PageEvent) (rest : List PageEvent) (s : State) → OnlyCuts s (performing l own e rest s)
OnlyCuts-performing l None e rest s =
    let happens : PastEvent = told s.registers e in
    OnlyCuts-unless_refused l (refusal l s.history happens) s (OnlyCuts-performed happens (left_of s.history happens ++ rest) s)
OnlyCuts-performing l (Some own) e rest s =
    let happens : PastEvent = told s.registers own in
    OnlyCuts-unless_refused l (refusal l s.history happens) s (OnlyCuts-performed happens (e ∷ rest) s)

-- a step that leads to this state
pub OnlyCuts-made : (l : Limits) (s done : State) → OnlyCuts s done → OnlyCuts s (made l s done)
OnlyCuts-made l s done cuts = OnlyCuts-unless_refused l (first_passed l (grown done)) s cuts

-- what is half read ends
pub OnlyCuts-escape_ends : (s : State) → OnlyCuts s (escape_ends s)
OnlyCuts-escape_ends s = OnlyCuts-message s _ _ refl refl

-- a phase ends
pub OnlyCuts-phase_ended : (phase : Phase) (s : State) → OnlyCuts s (phase_ended phase s)
OnlyCuts-phase_ended Reading s = OnlyCuts-message s _ _ refl refl
OnlyCuts-phase_ended LastMacro s = OnlyCuts-message s _ _ refl refl
OnlyCuts-phase_ended Closing s = OnlyCuts-same s _ refl refl

-- with nothing half read
pub OnlyCuts-input_ended : (first : Bool) (s : State) → OnlyCuts s (input_ended first s)
OnlyCuts-input_ended false s = OnlyCuts-phase_ended s.phase s
OnlyCuts-input_ended true s = OnlyCuts-message s _ _ refl refl

-- a message is told
pub OnlyCuts-message_told : (s : State) → OnlyCuts s (message_told s)
OnlyCuts-message_told s = OnlyCuts-message s _ _ refl refl

-- the input is left
pub OnlyCuts-left_in : (phase : Phase) (s : State) → OnlyCuts s (left_in phase s)
OnlyCuts-left_in Reading s = OnlyCuts-same s _ refl refl
OnlyCuts-left_in LastMacro s = OnlyCuts-same s _ refl refl
OnlyCuts-left_in Closing s = OnlyCuts-same s _ refl refl

-- an item ahead was taken
pub OnlyCuts-ahead_taken : (item : Ahead PageEvent) (s : State) → OnlyCuts s (ahead_taken item s)
OnlyCuts-ahead_taken (ByteAhead b) s = OnlyCuts-message s _ _ refl refl
OnlyCuts-ahead_taken (FreeAhead b) s = OnlyCuts-message s _ _ refl refl
OnlyCuts-ahead_taken EndAhead s = OnlyCuts-same s s refl refl
OnlyCuts-ahead_taken (ReturnAhead back) s = OnlyCuts-same s _ refl refl
OnlyCuts-ahead_taken (DoAhead e) s = OnlyCuts-same s _ refl refl

-- the state behind an item ahead, if no limit refuses it
abbrev pub ahead_done : Ahead PageEvent → List (Ahead PageEvent) → State → State
ahead_done item behind s = ahead_taken item (record s { input = item_taken item behind s.input })

pub OnlyCuts-ahead_done : (item : Ahead PageEvent) (behind : List (Ahead PageEvent)) (s : State) → OnlyCuts s (ahead_done item behind s)
OnlyCuts-ahead_done item behind s = OnlyCuts-trans (OnlyCuts-same s _ refl refl) (OnlyCuts-ahead_taken item _)

-- an item ahead is taken
pub OnlyCuts-taking_ahead : (l : Limits) (item : Ahead PageEvent) (behind : List (Ahead PageEvent)) (s : State) → OnlyCuts s (taking_ahead l item behind s)
OnlyCuts-taking_ahead l item behind s =
    OnlyCuts-if (nat_lt l.bytes (s.input.charge + cost item)) (OnlyCuts-same s _ refl refl)
    (OnlyCuts-made l s _ (OnlyCuts-ahead_done item behind s))

-- the state behind a byte of the source, if no limit refuses it
abbrev pub byte_done : ℕ → State → State
byte_done b s = byte_taken b (moved (record s { input = counting b s.input }))

pub OnlyCuts-byte_done : (b : ℕ) (s : State) → OnlyCuts s (byte_done b s)
OnlyCuts-byte_done b s = OnlyCuts-message s _ _ refl refl

-- a byte of the source is taken
pub OnlyCuts-taking_byte : (l : Limits) (b : ℕ) (s : State) → OnlyCuts s (taking_byte l b s)
OnlyCuts-taking_byte l b s =
    OnlyCuts-if (passes_bytes l s.input) (OnlyCuts-same s _ refl refl) (OnlyCuts-made l s _ (OnlyCuts-byte_done b s))

-- the end of the input
pub OnlyCuts-ending_input : (l : Limits) (half : List OpenEscape) (s : State) → OnlyCuts s (ending_input l half s)
OnlyCuts-ending_input l [] s = OnlyCuts-made l s _ (OnlyCuts-input_ended (is_unfinished s.phase (known s) s.reading) s)
OnlyCuts-ending_input l (first ∷ others) s = OnlyCuts-made l s _ (OnlyCuts-escape_ends s)

-- the source answered
pub OnlyCuts-answered : (l : Limits) (a : Answer) (s : State) → OnlyCuts s (answered l a s)
OnlyCuts-answered l (Gives (OneByte b)) s = OnlyCuts-taking_byte l b s
OnlyCuts-answered l (Gives (OneNote message)) s = OnlyCuts-message s _ _ refl refl
OnlyCuts-answered l (Ends Ended) s = OnlyCuts-ending_input l s.input.escapes s
OnlyCuts-answered l (Ends Failed) s = OnlyCuts-same s _ refl refl
OnlyCuts-answered l (Ends (Stopped limit)) s = OnlyCuts-same s _ refl refl

-- the item in front is taken
pub OnlyCuts-in_front_taken : (l : Limits) (ahead : List (Ahead PageEvent)) (s : State) → OnlyCuts s (in_front_taken l ahead s)
OnlyCuts-in_front_taken l [] s = OnlyCuts-answered l (source_answer s) s
OnlyCuts-in_front_taken l (item ∷ behind) s = OnlyCuts-taking_ahead l item behind s

-- something is seen in front, or nothing
pub OnlyCuts-front_seen : (l : Limits) (seen : Option ℕ) (s : State) → OnlyCuts s (front_seen l seen s)
OnlyCuts-front_seen l seen s =
    OnlyCuts-if (is_ended_by s.input.escapes seen) (OnlyCuts-made l s _ (OnlyCuts-escape_ends s)) (OnlyCuts-in_front_taken l s.input.ahead s)

-- what is half read waits, and the source answers this
pub OnlyCuts-awaited_of_source : (l : Limits) (a : Answer) (s : State) → OnlyCuts s (awaited_of_source l a s)
OnlyCuts-awaited_of_source l (Gives (OneByte b)) s = OnlyCuts-front_seen l (Some b) s
OnlyCuts-awaited_of_source l (Gives (OneNote message)) s = OnlyCuts-message s _ _ refl refl
OnlyCuts-awaited_of_source l (Ends Ended) s = OnlyCuts-front_seen l None s
OnlyCuts-awaited_of_source l (Ends Failed) s = OnlyCuts-same s _ refl refl
OnlyCuts-awaited_of_source l (Ends (Stopped limit)) s = OnlyCuts-same s _ refl refl

-- it waits, and this is seen
pub OnlyCuts-awaited : (l : Limits) (seen : Option Sighted) (s : State) → OnlyCuts s (awaited l seen s)
OnlyCuts-awaited l (Some (SeesByte b)) s = OnlyCuts-front_seen l (Some b) s
OnlyCuts-awaited l (Some SeesNothing) s = OnlyCuts-front_seen l None s
OnlyCuts-awaited l (Some (SeesNote message)) s = OnlyCuts-front_seen l None s
OnlyCuts-awaited l (Some (SeesEnding ending)) s = OnlyCuts-front_seen l None s
OnlyCuts-awaited l None s = OnlyCuts-awaited_of_source l (source_answer s) s

-- by what is read does at the next item
pub OnlyCuts-read_waiting : (l : Limits) (w : Waiting) (s : State) → OnlyCuts s (read_waiting l w s)
OnlyCuts-read_waiting l Takes s = OnlyCuts-in_front_taken l s.input.ahead s
OnlyCuts-read_waiting l Decides s = OnlyCuts-made l s _ (OnlyCuts-escape_ends s)
OnlyCuts-read_waiting l Waits s = OnlyCuts-awaited l (seen_ahead s.input.ahead) s

-- one item of the input
pub OnlyCuts-item_read : (l : Limits) (s : State) → OnlyCuts s (item_read l s)
OnlyCuts-item_read l s = OnlyCuts-read_waiting l (waiting_in s.reading s.input) s

-- what is due
pub OnlyCuts-reading_by : (l : Limits) (what : Option Due) (s : State) → OnlyCuts s (reading_by l what s)
OnlyCuts-reading_by l None s = OnlyCuts-item_read l s
OnlyCuts-reading_by l (Some (TellsText false)) s = OnlyCuts-made l s _ (OnlyCuts-message_told s)
OnlyCuts-reading_by l (Some (TellsText true)) s = OnlyCuts-same s _ refl refl
OnlyCuts-reading_by l (Some Leaves) s = OnlyCuts-made l s _ (OnlyCuts-left_in s.phase s)

-- a macro that sprang is read
pub OnlyCuts-sprung_read : (called : Called) (s : State) → OnlyCuts s (sprung_read called s)
OnlyCuts-sprung_read (ABody name) s = OnlyCuts-same s _ refl refl
OnlyCuts-sprung_read (ARequest request) s = OnlyCuts-same s _ refl refl
OnlyCuts-sprung_read Unknown s = OnlyCuts-same s _ refl refl

-- if one did
pub OnlyCuts-with_sprung : (l : Limits) (name : Option ShortName) (s : State) → OnlyCuts s (with_sprung l name s)
OnlyCuts-with_sprung l None s = OnlyCuts-reading_by l (due s.reading) s
OnlyCuts-with_sprung l (Some name) s = OnlyCuts-made l s _ (OnlyCuts-sprung_read (called_by name s.input.names) s)

-- a step of a run that hasn't ended
pub OnlyCuts-step_with : (l : Limits) (es : List PageEvent) (s : State) → OnlyCuts s (step_with l es s)
OnlyCuts-step_with l (e ∷ rest) s = OnlyCuts-performing l (next s.history e) e rest s
OnlyCuts-step_with l [] s = OnlyCuts-with_sprung l s.follows.sprung s

-- the text of a diversion changes
pub OnlyCuts-text_done : (due : TextDue) (s : State) → OnlyCuts s (text_done due s)
OnlyCuts-text_done due s = text-holds (λ (t : State). OnlyCuts s t) due s (λ names texts. OnlyCuts-same s _ refl refl)

-- if one does
OnlyCuts-step_behind : (l : Limits) (due : Option TextDue) (s : State) → OnlyCuts s (step_behind l due s)
OnlyCuts-step_behind l None s = OnlyCuts-step_with l s.to_do s
OnlyCuts-step_behind l (Some due) s = OnlyCuts-made l s _ (OnlyCuts-text_done due s)

-- a step
pub OnlyCuts-step : (l : Limits) (s : State) → OnlyCuts s (step l s)
OnlyCuts-step l s =
    elim s.ended as (λ o. OnlyCuts s (elim o [ None ↦ step_behind l s.follows.text s | Some status ↦ s ])) [
      | None ↦ OnlyCuts-step_behind l s.follows.text s
      | Some status ↦ OnlyCuts-same s s refl refl
    ]
