-- The step with nothing to do has few outcomes, where a run isn't closing. What is proved of each holds of it.
--
-- Each function f of the run has its lemma ReadsOn-f here, with a line for each of its cases.
use Rattle.std.proofs.Common.{◌≡◌, ℕ, ◌+◌, ◌≤◌, Bool, true, false, List, [], ◌∷◌, ◌++◌, Option, Some, None, refl, ap, arith, ◌⊎◌, inl, inr, nat_lt, if◌then◌else◌}
use Rattle.std.proofs.lemmas.Bool.Decides.{nat_tests}
use Rattle.roff_num.specs.declared.limit.Limit.{Limit}
use Rattle.roff_num.specs.declared.limit.Limit.TheVariants.{Bytes}
use Rattle.roff_num.specs.declared.limits.Limits.{Limits}
use Rattle.input_escapes.specs.Waiting.{decides, is_ended_by}
use Rattle.input_escapes.specs.declared.open_escape.Waiting.{Waiting}
use Rattle.input_escapes.specs.declared.open_escape.Waiting.TheVariants.{Takes, Decides, Waits}
use Rattle.input_model.specs.Input.{Ahead, cost, item_taken, counting}
use Rattle.input_source.specs.Tape.{Answer, OneByte, OneNote, Ended, Failed, Stopped, Gives, Ends, front}
use Rattle.input_model.specs.Shown.{Sighted, SeesByte, SeesNothing, SeesNote, SeesEnding, seen_ahead}
use Rattle.input_escapes.specs.OpenEscape.{OpenEscape}
use Rattle.run_model.specs.Requests.{PageEvent, called_by}
use Rattle.roff_num.specs.declared.short_name.ShortName.{ShortName}
use Rattle.run_model.specs.Reading.Ends.{due, is_unfinished}
use Rattle.run_model.specs.declared.line_state.Due.{Due}
use Rattle.run_model.specs.declared.line_state.Due.TheVariants.{Leaves, Tells as TellsText}
use Rattle.run_model.specs.declared.line_state.LineState.{LineState}
use Rattle.run_model.specs.declared.line_state.LineState.TheVariants.{LineStart, Branch, Braced, Text as InText, Control, Name, Deciding, Skipping, Dropped, Told, Exiting, TitleFront, Title as InTitle, Collecting}
use Rattle.run_model.specs.Reading.Waiting.{waiting_in}
use Rattle.page_model.specs.DueTexts.{TextDue}
use Rattle.run_model.specs.Run.{read_waiting, State, known, ending_as, ending_with, stopped_by, unless_refused, grown, made, moved, byte_taken, escape_ends, ahead_taken, taking_ahead, taking_byte, ending_input, answered, in_front_taken, front_seen, awaited_of_source, awaited, item_read, input_ended, message_told, aborted, left_in, reading_by, reading_on, phase_ended, sprung_read, text_done, with_sprung}
use Rattle.run_model.specs.Run.Counts.{passes_bytes, first_passed}
use Rattle.run_model.specs.declared.message.Message.TheVariants.{ReadFailed}
use Rattle.run_model.specs.declared.status.Status.TheVariants.{Device, Limit as Limited}
use Rattle.run_model.proofs.Waiting.{ended-deciding}

-- no count passes its limit in a state
abbrev pub IsMade : Limits → State → Type 0
IsMade l s = first_passed l (grown s) ≡ None

-- the state behind an item ahead of the source
abbrev pub behind_ahead : Ahead PageEvent → List (Ahead PageEvent) → State → State
behind_ahead item behind s = ahead_taken item (record s { input = item_taken item behind s.input })

-- behind a byte of the source
abbrev pub behind_byte : ℕ → State → State
behind_byte b s = byte_taken b (moved (record s { input = counting b s.input }))

-- behind a note of the source
abbrev pub behind_note : List ℕ → State → State
behind_note message s = moved (record s { messages = s.messages ++ message })

-- behind the end of an unfinished line with the input
abbrev pub line_ends : State → State
line_ends s = input_ended true s

-- the source has ended, or is closed
abbrev pub HasEnded : State → Type 0
HasEnded s = (s.is_closed ≡ true) ⊎ (front s.tape ≡ Ends Ended)

-- what a step came to
pub data ReadsOn (l : Limits) (s : State) : State → Type 0 where
  -- a limit stopped the run
  LimitStops : (limit : Limit) → ReadsOn l s (stopped_by l limit s)
  -- an item ahead of the source was taken
  AheadTaken : (item : Ahead PageEvent) (behind : List (Ahead PageEvent)) → s.input.ahead ≡ item ∷ behind
      → s.input.charge + cost item ≤ l.bytes → IsMade l (behind_ahead item behind s) → ReadsOn l s (behind_ahead item behind s)
  -- a byte of the source was taken
  ByteTaken : (b : ℕ) → s.input.ahead ≡ [] → s.is_closed ≡ false → front s.tape ≡ Gives (OneByte b)
      → s.input.charge + 1 ≤ l.bytes → IsMade l (behind_byte b s) → ReadsOn l s (behind_byte b s)
  -- a note of the source was taken
  NoteTaken : (message : List ℕ) → s.is_closed ≡ false → front s.tape ≡ Gives (OneNote message) → ReadsOn l s (behind_note message s)
  -- the innermost of what is half read ended
  HalfEnds : (first : OpenEscape) (others : List OpenEscape) → s.input.escapes ≡ first ∷ others → IsMade l (escape_ends s) → ReadsOn l s (escape_ends s)
  -- a phase ended, at a line's beginning, with nothing ahead or half read
  PhaseEnds : s.input.ahead ≡ [] → s.input.escapes ≡ [] → HasEnded s → is_unfinished s.phase (known s) s.reading ≡ false
      → IsMade l (phase_ended s.phase s) → ReadsOn l s (phase_ended s.phase s)
  -- an unfinished line ended first
  LineEnds : is_unfinished s.phase (known s) s.reading ≡ true → s.input.escapes ≡ [] → HasEnded s → IsMade l (line_ends s) → ReadsOn l s (line_ends s)
  -- a message was told
  MessageTold : s.reading ≡ Told false → IsMade l (message_told s) → ReadsOn l s (message_told s)
  -- a message ended the run
  RunAborts : s.reading ≡ Told true → ReadsOn l s (aborted s)
  -- the input was left, but as the run closes
  InputLeft : s.reading ≡ Exiting → IsMade l (left_in s.phase s) → ReadsOn l s (left_in s.phase s)
  -- the source failed
  SourceFails : s.is_closed ≡ false → front s.tape ≡ Ends Failed → ReadsOn l s (ending_with Device ReadFailed s)
  -- the body of a macro that sprang was put in front, if its name has one
  SprungRead : (name : ShortName) → s.follows.sprung ≡ Some name → IsMade l (sprung_read (called_by name s.input.names) s)
      → ReadsOn l s (sprung_read (called_by name s.input.names) s)
  -- the text of a diversion changed
  TextChanged : (due : TextDue) → s.follows.text ≡ Some due → IsMade l (text_done due s) → ReadsOn l s (text_done due s)
  -- a limit of the source's own stopped the run
  SourceStops : (limit : Limit) → s.is_closed ≡ false → front s.tape ≡ Ends (Stopped limit) → ReadsOn l s (ending_as (Limited limit) s)

-- what isn't above a limit is within it
pub within : (limit size : ℕ) → nat_lt limit size ≡ false → size ≤ limit
within limit size below = grind (arith, nat_tests)

-- either of two, by a test
ReadsOn-if : (l : Limits) (s : State) (b : Bool) (t u : State) → (b ≡ true → ReadsOn l s t) → (b ≡ false → ReadsOn l s u) → ReadsOn l s (if b then t else u)
ReadsOn-if l s true t u first second = first refl
ReadsOn-if l s false t u first second = second refl

-- by the limit that is passed, if one is
ReadsOn-unless_refused : (l : Limits) (s done : State) (r : Option Limit) → (r ≡ None → ReadsOn l s done) → ReadsOn l s (unless_refused l r s done)
ReadsOn-unless_refused l s done None reads = reads refl
ReadsOn-unless_refused l s done (Some limit) reads = LimitStops limit

-- a step is made, or a limit stops the run
ReadsOn-made : (l : Limits) (s done : State) → (IsMade l done → ReadsOn l s done) → ReadsOn l s (made l s done)
ReadsOn-made l s done reads = ReadsOn-unless_refused l s done (first_passed l (grown done)) reads

-- an item ahead
ReadsOn-taking_ahead : (l : Limits) (item : Ahead PageEvent) (behind : List (Ahead PageEvent)) (s : State) → s.input.ahead ≡ item ∷ behind
    → ReadsOn l s (taking_ahead l item behind s)
ReadsOn-taking_ahead l item behind s is =
    ReadsOn-if l s (nat_lt l.bytes (s.input.charge + cost item)) _ _ (λ passes. LimitStops Bytes)
    (λ goes. ReadsOn-made l s (behind_ahead item behind s) (AheadTaken item behind is (within l.bytes (s.input.charge + cost item) goes)))

-- a byte of the source
ReadsOn-taking_byte : (l : Limits) (b : ℕ) (s : State) → s.input.ahead ≡ [] → s.is_closed ≡ false → front s.tape ≡ Gives (OneByte b)
    → ReadsOn l s (taking_byte l b s)
ReadsOn-taking_byte l b s none is_open gives =
    ReadsOn-if l s (passes_bytes l s.input) _ _ (λ passes. LimitStops Bytes)
    (λ goes. ReadsOn-made l s (behind_byte b s) (ByteTaken b none is_open gives (within l.bytes (s.input.charge + 1) goes)))

-- the end of the input, with nothing half read
ReadsOn-input_ended : (l : Limits) (first : Bool) (s : State) → s.input.ahead ≡ [] → s.input.escapes ≡ [] → HasEnded s
    → is_unfinished s.phase (known s) s.reading ≡ first → ReadsOn l s (made l s (input_ended first s))
ReadsOn-input_ended l false s none half ends is = ReadsOn-made l s (phase_ended s.phase s) (PhaseEnds none half ends is)
ReadsOn-input_ended l true s none half ends is = ReadsOn-made l s (line_ends s) (LineEnds is half ends)

-- the end of the input
ReadsOn-ending_input : (l : Limits) (half : List OpenEscape) (s : State) → s.input.ahead ≡ [] → s.input.escapes ≡ half → HasEnded s
    → ReadsOn l s (ending_input l half s)
ReadsOn-ending_input l [] s none is ends = ReadsOn-input_ended l (is_unfinished s.phase (known s) s.reading) s none is ends refl
ReadsOn-ending_input l (first ∷ others) s none is ends = ReadsOn-made l s (escape_ends s) (HalfEnds first others is)

-- the source answered
ReadsOn-answered : (l : Limits) (a : Answer) (s : State) → s.input.ahead ≡ [] → s.is_closed ≡ false → front s.tape ≡ a → ReadsOn l s (answered l a s)
ReadsOn-answered l (Gives (OneByte b)) s none is_open gives = ReadsOn-taking_byte l b s none is_open gives
ReadsOn-answered l (Gives (OneNote message)) s none is_open gives = NoteTaken message is_open gives
ReadsOn-answered l (Ends Ended) s none is_open ends = ReadsOn-ending_input l s.input.escapes s none refl (inr ends)
ReadsOn-answered l (Ends Failed) s none is_open ends = SourceFails is_open ends
ReadsOn-answered l (Ends (Stopped limit)) s none is_open ends = SourceStops limit is_open ends

-- if it is asked
ReadsOn-asked : (l : Limits) (closed : Bool) (s : State) → s.input.ahead ≡ [] → s.is_closed ≡ closed
    → ReadsOn l s (answered l (if closed then Ends Ended else front s.tape) s)
ReadsOn-asked l true s none is = ReadsOn-ending_input l s.input.escapes s none refl (inl is)
ReadsOn-asked l false s none is = ReadsOn-answered l (front s.tape) s none is refl

-- the item in front
ReadsOn-in_front_taken : (l : Limits) (ahead : List (Ahead PageEvent)) (s : State) → s.input.ahead ≡ ahead → ReadsOn l s (in_front_taken l ahead s)
ReadsOn-in_front_taken l [] s is = ReadsOn-asked l s.is_closed s is refl
ReadsOn-in_front_taken l (item ∷ behind) s is = ReadsOn-taking_ahead l item behind s is

-- what stays ends something that is half read
half_ends : (l : Limits) (s : State) (half : List OpenEscape) (seen : Option ℕ) → s.input.escapes ≡ half → is_ended_by half seen ≡ true
    → IsMade l (escape_ends s) → ReadsOn l s (escape_ends s)
half_ends l s [] seen is stays = absurd (cc)
half_ends l s (first ∷ others) seen is stays = HalfEnds first others is

-- something was seen in front, or nothing
ReadsOn-front_seen : (l : Limits) (seen : Option ℕ) (s : State) → ReadsOn l s (front_seen l seen s)
ReadsOn-front_seen l seen s =
    ReadsOn-if l s (is_ended_by s.input.escapes seen) _ _
    (λ stays. ReadsOn-made l s (escape_ends s) (half_ends l s s.input.escapes seen refl stays)) (λ taken. ReadsOn-in_front_taken l s.input.ahead s refl)

-- the source was seen there
ReadsOn-awaited_of_source : (l : Limits) (a : Answer) (s : State) → s.is_closed ≡ false → front s.tape ≡ a → ReadsOn l s (awaited_of_source l a s)
ReadsOn-awaited_of_source l (Gives (OneByte b)) s is_open gives = ReadsOn-front_seen l (Some b) s
ReadsOn-awaited_of_source l (Gives (OneNote message)) s is_open gives = NoteTaken message is_open gives
ReadsOn-awaited_of_source l (Ends Ended) s is_open ends = ReadsOn-front_seen l None s
ReadsOn-awaited_of_source l (Ends Failed) s is_open ends = SourceFails is_open ends
ReadsOn-awaited_of_source l (Ends (Stopped limit)) s is_open ends = SourceStops limit is_open ends

-- if it was asked
ReadsOn-awaited_asked : (l : Limits) (closed : Bool) (s : State) → s.is_closed ≡ closed
    → ReadsOn l s (awaited_of_source l (if closed then Ends Ended else front s.tape) s)
ReadsOn-awaited_asked l true s closed = ReadsOn-front_seen l None s
ReadsOn-awaited_asked l false s is_open = ReadsOn-awaited_of_source l (front s.tape) s is_open refl

-- anything was
ReadsOn-awaited : (l : Limits) (sight : Option Sighted) (s : State) → ReadsOn l s (awaited l sight s)
ReadsOn-awaited l (Some (SeesByte b)) s = ReadsOn-front_seen l (Some b) s
ReadsOn-awaited l (Some SeesNothing) s = ReadsOn-front_seen l None s
ReadsOn-awaited l (Some (SeesNote message)) s = ReadsOn-front_seen l None s
ReadsOn-awaited l (Some (SeesEnding ending)) s = ReadsOn-front_seen l None s
ReadsOn-awaited l None s = ReadsOn-awaited_asked l s.is_closed s refl

-- by what is read does at the next item
ReadsOn-read_waiting : (l : Limits) (s : State) (w : Waiting) → waiting_in s.reading s.input ≡ w → ReadsOn l s (read_waiting l w s)
ReadsOn-read_waiting l s Takes is = ReadsOn-in_front_taken l s.input.ahead s refl
ReadsOn-read_waiting l s Decides is =
    ReadsOn-made l s (escape_ends s)
    (half_ends l s s.input.escapes None refl (ended-deciding s.reading s.input.arguments.place s.input.escapes None (ap decides is)))
ReadsOn-read_waiting l s Waits is = ReadsOn-awaited l (seen_ahead s.input.ahead) s

-- one item of the input, or how it ends
ReadsOn-item_read : (l : Limits) (s : State) → ReadsOn l s (item_read l s)
ReadsOn-item_read l s = ReadsOn-read_waiting l s (waiting_in s.reading s.input) refl

-- a message is due where its line has ended
told_where_due : (reading : LineState) (aborts : Bool) → due reading ≡ Some (TellsText aborts) → reading ≡ Told aborts
told_where_due (Told aborts) other is = cc
told_where_due LineStart aborts is = absurd (cc)
told_where_due Branch aborts is = absurd (cc)
told_where_due Braced aborts is = absurd (cc)
told_where_due (InText line) aborts is = absurd (cc)
told_where_due (Control breaks) aborts is = absurd (cc)
told_where_due (Name breaks first) aborts is = absurd (cc)
told_where_due (Collecting purpose) aborts is = absurd (cc)
told_where_due (Deciding keeping) aborts is = absurd (cc)
told_where_due (Skipping opened closed behind) aborts is = absurd (cc)
told_where_due Dropped aborts is = absurd (cc)
told_where_due Exiting aborts is = absurd (cc)
told_where_due TitleFront aborts is = absurd (cc)
told_where_due (InTitle delimiter) aborts is = absurd (cc)

-- and the input is left behind the last line
pub left_where_due : (reading : LineState) → due reading ≡ Some Leaves → reading ≡ Exiting
left_where_due Exiting is = refl
left_where_due LineStart is = absurd (cc)
left_where_due Branch is = absurd (cc)
left_where_due Braced is = absurd (cc)
left_where_due (InText line) is = absurd (cc)
left_where_due TitleFront is = absurd (cc)
left_where_due (InTitle delimiter) is = absurd (cc)
left_where_due (Control breaks) is = absurd (cc)
left_where_due (Name breaks first) is = absurd (cc)
left_where_due (Collecting purpose) is = absurd (cc)
left_where_due (Deciding keeping) is = absurd (cc)
left_where_due (Skipping opened closed behind) is = absurd (cc)
left_where_due Dropped is = absurd (cc)
left_where_due (Told aborts) is = absurd (cc)

-- what is due comes first
ReadsOn-reading_by : (l : Limits) (what : Option Due) (s : State) → due s.reading ≡ what → ReadsOn l s (reading_by l what s)
ReadsOn-reading_by l None s is = ReadsOn-item_read l s
ReadsOn-reading_by l (Some (TellsText false)) s is = ReadsOn-made l s (message_told s) (MessageTold (told_where_due s.reading false is))
ReadsOn-reading_by l (Some (TellsText true)) s is = RunAborts (told_where_due s.reading true is)
ReadsOn-reading_by l (Some Leaves) s is = ReadsOn-made l s (left_in s.phase s) (InputLeft (left_where_due s.reading is))

-- what is due, or one item of the input, or how it ends
pub ReadsOn-reading_on : (l : Limits) (s : State) → ReadsOn l s (reading_on l s)
ReadsOn-reading_on l s = ReadsOn-reading_by l (due s.reading) s refl

-- what sprang comes first
pub ReadsOn-with_sprung : (l : Limits) (name : Option ShortName) (s : State) → s.follows.sprung ≡ name → ReadsOn l s (with_sprung l name s)
ReadsOn-with_sprung l None s is = ReadsOn-reading_on l s
ReadsOn-with_sprung l (Some name) s is = ReadsOn-made l s (sprung_read (called_by name s.input.names) s) (SprungRead name is)

-- the text of a diversion changes before anything else is done
pub ReadsOn-text : (l : Limits) (due : TextDue) (s : State) → s.follows.text ≡ Some due → ReadsOn l s (made l s (text_done due s))
ReadsOn-text l due s is = ReadsOn-made l s (text_done due s) (TextChanged due is)
