-- A step tells one message at the most, and a short one, or the text of one that was read, or a note of the source.
use Rattle.std.proofs.Common.{arith, ◌≤◌, ◌≡◌, ℕ, zero, suc, Bool, true, false, List, [], ◌∷◌, ◌++◌, Option, Some, None, refl, ◌∙◌, ap, append-nil, if◌then◌else◌, ◌==◌, ◌-◌}
use Rattle.input_model.specs.Input.{Ahead, ByteAhead, FreeAhead, EndAhead, ReturnAhead, DoAhead, counting, item_taken, outermost_back}
use Rattle.roff_num.specs.declared.limit.Limit.{Limit}
use Rattle.roff_num.specs.declared.limits.Limits.{Limits}
use Rattle.roff_num.specs.declared.num.Num.{Num}
use Rattle.run_model.specs.Messages.{message_line, message_lines}
use Rattle.run_model.specs.PageEvents.{PageEvent}
use Rattle.run_model.specs.Reading.{escape_ended, byte_taking}
use Rattle.run_model.specs.Reading.Ends.{end_taking}
use Rattle.run_model.specs.Reading.Items.{Taking}
use Rattle.run_model.specs.Reading.Returns.{behind_return, gone_back_to, line_of}
use Rattle.run_model.specs.Requests.{called_by}
use Rattle.run_model.specs.Run.{State, initial, known, left_in, moved, paged_state, phase_ended, sprung_read, step, step_with, taken_as, told_after, told_step, unless_refused, with_registers, step_behind}
use Rattle.run_model.specs.Run.Counts.{first_passed, names_counted}
use Rattle.run_model.specs.Springs.{next}
use Rattle.run_model.specs.Starts.{history_given, with_given}
use Rattle.run_model.specs.declared.line_state.LineState.{LineState}
use Rattle.run_model.specs.declared.line_state.LineState.TheVariants.{LineStart, Branch, Braced, Text as InText, Control, Name, Deciding, Skipping, Dropped, Told, Exiting, TitleFront, Title as InTitle, Collecting}
use Rattle.run_model.specs.declared.message.Message.{Message}
use Rattle.run_model.specs.declared.phase.Phase.{Phase}
use Rattle.run_model.specs.declared.phase.Phase.TheVariants.{Reading, LastMacro, Closing}
use Rattle.run_model.specs.declared.request.Called.{Called}
use Rattle.run_model.specs.declared.request.Called.TheVariants.{Request as ARequest, Body as ABody, Nothing as Unknown}
use Rattle.run_model.specs.declared.start.Start.{Start}
use Rattle.input_source.specs.Tape.{Tape}
use Rattle.law_runs.specs.MessageBounds.{EachStepTellsLittle, TellsAtMost, NothingTold, LineTold, TextTold, NoteTold}
use Rattle.law_runs.proofs.PerformedOrStopped.{PerformedOrStopped, Performed, Sprang, EndsOver, StoppedAt, first_of, left_behind, performed_or_stopped}
use Rattle.law_runs.proofs.Told.{told_step-holds}
use Rattle.run_model.proofs.HeldBytes.{held-interrupted, held-last_called, held_of}
use Rattle.run_model.proofs.OneMessage.{Brief-more, most_held, Brief, NamesRequest, TellsOne, length-line, length-short}
use Rattle.run_model.proofs.OneMessageRead.{Brief-end_taking, Brief-escape_ended, Brief-taking}
use Rattle.run_model.proofs.Readings.{ReadsOn, LimitStops, AheadTaken, ByteTaken, NoteTaken, HalfEnds, InputLeft, LineEnds, PhaseEnds, MessageTold, RunAborts, SourceFails, SourceStops, SprungRead, ReadsOn-with_sprung, behind_ahead, TextChanged, ReadsOn-text}
use Rattle.page_model.specs.DueTexts.{TextDue}
use Rattle.law_runs.proofs.TextsChanged.{text-holds}

-- a step tells little, what is read behind it names a request of the table, if it names one, and two bytes more are held at the most
abbrev pub TellsLittle : State → State → Type 0
TellsLittle s t = TellsAtMost s t × NamesRequest t.reading × (held_of t.input ≤ most_held s.input)

-- messages of one item
lines-told : (s t : State) (messages : List Message) → TellsOne messages → t.messages ≡ s.messages ++ message_lines t.input.line messages → TellsAtMost s t
lines-told s t [] one told = NothingTold (told ∙ append-nil s.messages)
lines-told s t (m ∷ []) one told =
    LineTold m (length-line t.input.line m (length-short m one)) (told ∙ ap (λ (text : List ℕ). s.messages ++ text) (append-nil (message_line t.input.line m)))
lines-told s t (m ∷ n ∷ others) one told = absurd one

-- what is done with an item
TellsLittle-taken_as : (t : Taking) (s before : State) → before.messages ≡ s.messages → Brief (most_held s.input) t → TellsLittle s (taken_as t before)
TellsLittle-taken_as t s before same brief =
    let lines : List ℕ = message_lines t.input.line t.effect.messages in
    (lines-told s (taken_as t before) t.effect.messages brief.0 (ap (λ (told : List ℕ). told ++ lines) same), brief.1, brief.2)

-- a byte, and an item ahead
TellsLittle-byte : (b : ℕ) (s before : State) → before.messages ≡ s.messages → most_held before.input ≤ most_held s.input → NamesRequest before.reading
    → TellsLittle s (taken_as (byte_taking (known before) before.reading before.input b) before)
TellsLittle-byte b s before same held named =
    let t : Taking = byte_taking (known before) before.reading before.input b in
    TellsLittle-taken_as t s before same (Brief-more t held (Brief-taking (known before) before.reading before.input b named))

-- what is gone back to names no request
named-gone_back_to : (back : ℕ) → NamesRequest (gone_back_to back)
named-gone_back_to back = by_tests (back == 0) (back == 1) (back == 2)
  where
    by_tests : (start branch brace : Bool)
        → NamesRequest (if start then LineStart else if branch then Branch else if brace then Braced else InText (line_of (back - 3)))
    by_tests true branch brace = tt
    by_tests false true brace = tt
    by_tests false false true = tt
    by_tests false false false = tt

named-behind_return : (back : ℕ) (reading : LineState) → NamesRequest reading → NamesRequest (behind_return back reading)
named-behind_return back LineStart named = named-gone_back_to back
named-behind_return back Branch named = named-gone_back_to back
named-behind_return back Braced named = named-gone_back_to back
named-behind_return back (InText line) named = named-gone_back_to back
named-behind_return back (Control breaks) named = tt
named-behind_return back (Name breaks first) named = tt
named-behind_return back (Collecting purpose) named = named
named-behind_return back (Deciding keeps) named = tt
named-behind_return back (Skipping opened closed behind) named = tt
named-behind_return back Dropped named = tt
named-behind_return back (Told aborts) named = tt
named-behind_return back Exiting named = tt
named-behind_return back TitleFront named = tt
named-behind_return back (InTitle delimiter) named = tt

TellsLittle-ahead : (item : Ahead PageEvent) (behind : List (Ahead PageEvent)) (s : State) → NamesRequest s.reading → TellsLittle s (behind_ahead item behind s)
TellsLittle-ahead (ByteAhead b) behind s named = TellsLittle-byte b s (record s { input = item_taken (ByteAhead b) behind s.input }) refl (omega arith) named
TellsLittle-ahead (FreeAhead b) behind s named = TellsLittle-byte b s (record s { input = item_taken (FreeAhead b) behind s.input }) refl (omega arith) named
TellsLittle-ahead EndAhead behind s named = (NothingTold refl, named, omega arith)
TellsLittle-ahead (ReturnAhead back) behind s named = (NothingTold refl, named-behind_return back s.reading named, omega arith)
TellsLittle-ahead (DoAhead e) behind s named =
    (NothingTold refl, named, omega (arith, held-interrupted s.reading (item_taken (DoAhead e) behind s.input)))

-- the end of a phase, and of the input that is left
TellsLittle-phase_ended : (phase : Phase) (s : State) → NamesRequest s.reading → TellsLittle s (phase_ended phase s)
TellsLittle-phase_ended Reading s named =
    (NothingTold (append-nil s.messages), tt, omega (arith, held-last_called s.registers.last_macro s.input))
TellsLittle-phase_ended LastMacro s named = (NothingTold (append-nil s.messages), tt, omega arith)
TellsLittle-phase_ended Closing s named = (NothingTold refl, named, omega arith)

TellsLittle-left_in : (phase : Phase) (s : State) → TellsLittle s (left_in phase s)
TellsLittle-left_in Reading s = (NothingTold refl, named-gone_back_to (outermost_back 0 s.input.ahead), omega arith)
TellsLittle-left_in LastMacro s = (NothingTold refl, named-gone_back_to (outermost_back 0 s.input.ahead), omega arith)
TellsLittle-left_in Closing s = (NothingTold refl, tt, omega arith)

-- a macro that sprang
TellsLittle-sprung_read : (called : Called) (s : State) → NamesRequest s.reading → TellsLittle s (sprung_read called s)
TellsLittle-sprung_read (ABody name) s named = (NothingTold refl, named-behind_return 0 s.reading named, omega arith)
TellsLittle-sprung_read (ARequest request) s named = (NothingTold refl, named, omega arith)
TellsLittle-sprung_read Unknown s named = (NothingTold refl, named, omega arith)

-- what was read, or how the run ended
TellsLittle-read : (l : Limits) (s t : State) → ReadsOn l s t → NamesRequest s.reading → TellsLittle s t
TellsLittle-read l s t (LimitStops limit) named = (NothingTold refl, named, omega arith)
TellsLittle-read l s t (AheadTaken item behind ahead charge is_made) named = TellsLittle-ahead item behind s named
TellsLittle-read l s t (ByteTaken b none is_open gives charge is_made) named = TellsLittle-byte b s (moved (record s { input = counting b s.input })) refl (omega arith) named
TellsLittle-read l s t (NoteTaken message is_open gives) named = (NoteTold message gives refl refl, named, omega arith)
TellsLittle-read l s t (HalfEnds first others half is_made) named =
    TellsLittle-taken_as (escape_ended (known s) s.reading s.input) s s refl (Brief-escape_ended (known s) s.reading s.input named)
TellsLittle-read l s t (PhaseEnds none half ends over is_made) named = TellsLittle-phase_ended s.phase s named
TellsLittle-read l s t (LineEnds unfinished none ends is_made) named =
    TellsLittle-taken_as (end_taking (known s) s.reading s.input) s s refl (Brief-end_taking (known s) s.reading s.input named)
TellsLittle-read l s t (MessageTold told is_made) named = (TextTold refl refl, tt, omega arith)
TellsLittle-read l s t (RunAborts told) named = (NothingTold refl, named, omega arith)
TellsLittle-read l s t (InputLeft leaves is_made) named = TellsLittle-left_in s.phase s
TellsLittle-read l s t (SprungRead name sprung is_made) named = TellsLittle-sprung_read (called_by name s.input.names) s named
TellsLittle-read l s t (TextChanged due text is_made) named =
    text-holds (λ (u : State). TellsLittle s u) due s (λ names texts. (NothingTold refl, named, omega arith))
TellsLittle-read l s t (SourceFails is_open fails) named = (NothingTold refl, named, omega arith)
TellsLittle-read l s t (SourceStops limit is_open stops) named = (NothingTold refl, named, omega arith)

-- an event tells nothing
TellsLittle-event : (l : Limits) (e : PageEvent) (es : List PageEvent) (s t : State) → PerformedOrStopped l e es s t → NamesRequest s.reading
    → TellsLittle s t
TellsLittle-event l e es s t (Performed allowed on none) named = (NothingTold refl, named, omega arith)
TellsLittle-event l e es s t (Sprang name allowed on some) named = (NothingTold refl, named, omega arith)
TellsLittle-event l e es s t (EndsOver allowed over) named = (NothingTold refl, named, omega arith)
TellsLittle-event l e es s t (StoppedAt limit) named = (NothingTold refl, named, omega arith)

-- a step of a run that hasn't ended
TellsLittle-step_with : (l : Limits) (es : List PageEvent) (s : State) → NamesRequest s.reading → TellsLittle s (step_with l es s)
TellsLittle-step_with l (e ∷ es) s named =
    let own : Option PageEvent = next s.history e in
    TellsLittle-event l (first_of own e) (left_behind own e es s) s _ (performed_or_stopped l own e es s) named
TellsLittle-step_with l [] s named = TellsLittle-read l s _ (ReadsOn-with_sprung l s.follows.sprung s refl) named

-- the text of a diversion changes first, if one does
TellsLittle-step_behind : (l : Limits) (due : Option TextDue) (s : State) → s.follows.text ≡ due → NamesRequest s.reading
    → TellsLittle s (step_behind l due s)
TellsLittle-step_behind l None s none named = TellsLittle-step_with l s.to_do s named
TellsLittle-step_behind l (Some due) s some named = TellsLittle-read l s _ (ReadsOn-text l due s some) named

-- a step
pub TellsLittle-step : (l : Limits) (s : State) → NamesRequest s.reading → TellsLittle s (step l s)
TellsLittle-step l s named =
    elim s.ended as (λ o. TellsLittle s (elim o [ None ↦ step_behind l s.follows.text s | Some status ↦ s ])) [
      | None ↦ TellsLittle-step_behind l s.follows.text s refl named
      | Some status ↦ (NothingTold refl, named, omega arith)
    ]

pub TellsLittle-told_step : (l : Limits) (s : State) → NamesRequest s.reading → TellsLittle s (told_step l s)
TellsLittle-told_step l s named =
    told_step-holds (λ (t : State). TellsLittle s t) l s (TellsLittle-step l s named) (λ going. (NothingTold refl, named, omega arith))

-- so many steps name no other request
named-told_after : (l : Limits) (n : ℕ) (s : State) → NamesRequest s.reading → NamesRequest (told_after l n s).reading
named-told_after l zero s named = named
named-told_after l (suc n) s named = named-told_after l n (told_step l s) (TellsLittle-told_step l s named).1

-- nor does a run that begins
named-unless_refused : (l : Limits) (r : Option Limit) (s done : State) → NamesRequest s.reading → NamesRequest done.reading
    → NamesRequest (unless_refused l r s done).reading
named-unless_refused l None s done named others = others
named-unless_refused l (Some limit) s done named others = named

named-with_registers : (l : Limits) (given : List (ℕ × Num)) (s : State) → NamesRequest s.reading → NamesRequest (with_registers l given s).reading
named-with_registers l [] s named = named
named-with_registers l (first ∷ others) s named =
    let behind : State = record s { registers = with_given first s.registers; history = history_given first s.history } in
    named-unless_refused l (first_passed l (names_counted behind.registers)) s _ named (named-with_registers l others behind named)

pub named-run : (l : Limits) (start : Start) (tape : Tape) (n : ℕ) → NamesRequest (told_after l n (initial l start tape)).reading
named-run l start tape n =
    named-told_after l n (initial l start tape) (named-with_registers l start.registers.items (paged_state start tape) tt)

-- each step of a run tells little
pub each_step_tells_little : EachStepTellsLittle
each_step_tells_little l start tape n =
    (TellsLittle-told_step l (told_after l n (initial l start tape)) (named-run l start tape n)).0
