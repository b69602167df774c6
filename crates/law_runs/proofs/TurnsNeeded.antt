-- How many turns of a run are enough, and that what is read leaves fewer.
use Rattle.std.proofs.Common.{◌≡◌, ◌⊎◌, inl, inr, ◌≤◌, ◌+◌, ◌-◌, ◌*◌, ℕ, suc, true, false, List, [], ◌∷◌, ◌++◌, length, refl, ap, arith, IsSome}
use Rattle.roff_num.specs.declared.limits.Limits.{Limits}
use Rattle.run_model.specs.PageEvents.{PageEvent}
use Rattle.run_model.specs.Events.Lines.{closing_events}
use Rattle.run_model.specs.Run.{State, nothing_follows, input_left, known, left_in, moved, phase_ended}
use Rattle.run_model.specs.Reading.Returns.{gone_back_to, in_sprung}
use Rattle.input_model.specs.Input.{Ahead, ByteAhead, FreeAhead, EndAhead, ReturnAhead, DoAhead, cost, item_taken, counting, outermost_back}
use Rattle.input_source.specs.Tape.{Tape, Item, Gives, OneByte, OneNote, front, behind_front}
use Rattle.run_model.specs.TurnsToCome.{begun, endings_of, free_ahead, lines_left, most_left, phases_left, turns_of, unended}
use Rattle.run_model.specs.Environments.{interrupted_line}
use Rattle.run_model.specs.Reading.Ends.{is_unfinished}
use Rattle.run_model.specs.declared.line_state.LineState.{LineState}
use Rattle.run_model.specs.declared.line_state.LineState.TheVariants.{LineStart, Braced, Told, Exiting, Branch, Text as InText, Control, Name, Deciding, Skipping, Dropped, TitleFront, Title as InTitle, Collecting}
use Rattle.run_model.specs.declared.phase.Phase.{Phase}
use Rattle.run_model.specs.declared.phase.Phase.TheVariants.{Reading, LastMacro, Closing}
use Rattle.run_model.proofs.EscapeCounts.{some_ending}
use Rattle.run_model.proofs.LinesLeft.{left-few, left_behind}
use Rattle.run_model.proofs.Keeping.{Keeps-end_taking, Keeps-last_called}
use Rattle.run_model.proofs.LinesEnded.{AtBrace, AtStart, LineEnded, Within, line_ended, unended-few}
use Rattle.run_model.proofs.Behind.{Behind-byte_taken, Behind-ahead_taken, Behind-escape_ends, begun-behind_return}
use Rattle.run_model.proofs.Readings.{ReadsOn, LimitStops, AheadTaken, ByteTaken, NoteTaken, HalfEnds, InputLeft, LineEnds, PhaseEnds, MessageTold, RunAborts, SourceFails, SourceStops, SprungRead, line_ends, TextChanged}
use Rattle.law_runs.proofs.TextsChanged.{no_text, none_sprung}

-- How many turns are enough. What is still to be charged may begin something that ends, and a line that ends behind that, and so
-- may a free byte; an item of the source takes one. A condition takes two endings, and the escape that begins it one more: the
-- first byte of its request's name begins nothing, and some are kept for it. Each of these may leave a line unfinished, and one
-- interrupted; and each phase ends.
abbrev pub turns_needed : Limits → State → ℕ
turns_needed l s =
    4 * (5 * (l.bytes - s.input.charge) + 5 * free_ahead s.input.ahead + length s.tape.items)
    + turns_of (endings_of s.input.escapes) s.reading + most_left s.to_do (lines_left (interrupted_line s.history)) + phases_left s.phase

-- a run has ended, or so many turns are enough
abbrev pub EndsWithin : Limits → ℕ → State → Type 0
EndsWithin l n s = IsSome s.ended ⊎ (turns_needed l s ≤ n)

-- an item ahead is charged, or a free byte goes
charged_or_free : (item : Ahead PageEvent) (behind : List (Ahead PageEvent)) → cost item + free_ahead (item ∷ behind) ≡ free_ahead behind + 1
charged_or_free (ByteAhead b) behind = omega arith
charged_or_free (FreeAhead b) behind = omega arith
charged_or_free EndAhead behind = omega arith
charged_or_free (ReturnAhead back) behind = omega arith
charged_or_free (DoAhead event) behind = omega arith

-- what a tape gives goes from its items
pub items-behind_front : (tape : Tape) (item : Item) → front tape ≡ Gives item → length tape.items ≡ length (behind_front tape).items + 1
items-behind_front tape item gives =
    elim tape.items as (λ items. let t : Tape = record tape { items = items } in front t ≡ Gives item → length items ≡ length (behind_front t).items + 1) [
      | [] ↦ λ none. absurd (cc)
      | first ∷ others ↦ λ some. omega arith
    ] gives

-- so many turns are enough behind a state that needs fewer
fewer_needed : (l : Limits) (n : ℕ) (s t : State) → turns_needed l s ≤ suc n → turns_needed l t + 1 ≤ turns_needed l s → EndsWithin l n t
fewer_needed l n s t enough fewer = inr (omega (arith, enough, fewer))

-- where an unfinished line ends a turn fewer is needed
LineEnds-fewer : (l : Limits) (s : State) (reading : LineState) → LineEnded (known s) s.input reading → s.to_do ≡ []
    → is_unfinished s.phase (known s) reading ≡ true
    → turns_needed l (line_ends (record s { reading = reading })) + 1 ≤ turns_needed l (record s { reading = reading })
LineEnds-fewer l s LineStart AtStart none unfinished =
    let fewer = left_behind s.phase s.history s.to_do none unfinished in omega (arith, fewer)
LineEnds-fewer l s Braced AtBrace none unfinished =
    let fewer = left_behind s.phase s.history s.to_do none unfinished in omega (arith, fewer)
LineEnds-fewer l s reading (Within same fewer) none unfinished =
    let keeps = Keeps-end_taking (known s) reading s.input in
    let behind : State = line_ends (record s { reading = reading }) in
    let few = left-few behind.to_do s.history in
    omega (arith, fewer, few, keeps.charge, keeps.free)

-- what is read behind fewer than so many endings, and a line that ends, needs few turns
turns_of-few : (endings most : ℕ) (reading : LineState) → 2 * endings + begun reading ≤ most → turns_of endings reading ≤ 4 * most + 2
turns_of-few endings most reading few = omega (arith, few, unended-few reading)

-- a phase ends
PhaseEnds-fewer : (l : Limits) (n : ℕ) (phase : Phase) (s : State) → s.phase ≡ phase → is_unfinished phase (known s) s.reading ≡ false
    → turns_needed l s ≤ suc n → EndsWithin l n (phase_ended phase s)
PhaseEnds-fewer l n Reading s is unfinished enough =
    let keeps = Keeps-last_called s.registers.last_macro s.input in
    let phases : phases_left s.phase ≡ 5 = ap phases_left is in
    inr (omega (arith, enough, keeps.charge, keeps.free, keeps.escapes, phases))
PhaseEnds-fewer l n LastMacro s is unfinished enough =
    let phases : phases_left s.phase ≡ 3 = ap phases_left is in
    let few = left-few (closing_events ++ s.to_do) s.history in
    inr (omega (arith, enough, few, phases))
PhaseEnds-fewer l n Closing s is unfinished enough = inl refl

-- what is gone back to may be a line that is unfinished
behind_left : (l : Limits) (s : State) → s.reading ≡ Exiting → turns_needed l (input_left s) + 1 ≤ turns_needed l s
behind_left l s leaves =
    let back : ℕ = outermost_back 0 s.input.ahead in
    let turns : turns_of (endings_of s.input.escapes) s.reading ≡ turns_of (endings_of s.input.escapes) Exiting = ap (turns_of (endings_of s.input.escapes)) leaves in
    let none = begun-behind_return back LineStart in
    let few = left-few (input_left s).to_do s.history in
    omega (arith, turns, none, few, unended-few (gone_back_to back))

-- the input is left
InputLeft-fewer : (l : Limits) (phase : Phase) (s : State) → s.reading ≡ Exiting → turns_needed l (left_in phase s) + 1 ≤ turns_needed l s
InputLeft-fewer l Reading s leaves = behind_left l s leaves
InputLeft-fewer l LastMacro s leaves = behind_left l s leaves
InputLeft-fewer l Closing s leaves =
    let turns : turns_of (endings_of s.input.escapes) s.reading ≡ turns_of (endings_of s.input.escapes) Exiting = ap (turns_of (endings_of s.input.escapes)) leaves in
    omega (arith, turns)

-- what was read, or how the run ended
pub EndsWithin-read : (l : Limits) (n : ℕ) (s t : State) → ReadsOn l s t → s.to_do ≡ [] → s.follows ≡ nothing_follows → turns_needed l s ≤ suc n → EndsWithin l n t
EndsWithin-read l n s t (LimitStops limit) idle unsprung enough = inl refl
EndsWithin-read l n s t (AheadTaken item behind ahead charge is_made) idle unsprung enough =
    let read = Behind-ahead_taken item (record s { input = item_taken item behind s.input }) in
    let items : length t.tape.items ≡ length s.tape.items = ap (λ (tape : Tape). length tape.items) read.tape in
    let phase : phases_left t.phase ≡ phases_left s.phase = ap phases_left read.phase in
    let free : free_ahead s.input.ahead ≡ free_ahead (item ∷ behind) = ap free_ahead ahead in
    let few = left-few t.to_do t.history in
    let turns = turns_of-few (endings_of t.input.escapes) (2 * endings_of s.input.escapes + begun s.reading + 4) t.reading read.input.escapes in
    fewer_needed l n s t enough (omega (arith, read.input.charge, read.input.free, turns, items, phase, few, free, charge, charged_or_free item behind))
EndsWithin-read l n s t (ByteTaken b none is_open gives charge is_made) idle unsprung enough =
    let read = Behind-byte_taken b (moved (record s { input = counting b s.input })) in
    let items = items-behind_front s.tape (OneByte b) gives in
    let few = left-few t.to_do t.history in
    let turns = turns_of-few (endings_of t.input.escapes) (2 * endings_of s.input.escapes + begun s.reading + 4) t.reading read.input.escapes in
    fewer_needed l n s t enough (omega (arith, read.input.charge, read.input.free, turns, items, few, charge))
EndsWithin-read l n s t (NoteTaken message is_open gives) idle unsprung enough =
    let items = items-behind_front s.tape (OneNote message) gives in fewer_needed l n s t enough (omega (arith, items))
EndsWithin-read l n s t (HalfEnds first others half is_made) idle unsprung enough =
    let read = Behind-escape_ends s first others half in
    let some : 1 ≤ endings_of s.input.escapes = rw half (omega (arith, some_ending first others)) in
    let few = left-few t.to_do t.history in
    let turns = turns_of-few (endings_of t.input.escapes) (2 * endings_of s.input.escapes + begun s.reading - 1) t.reading read.input.escapes in
    fewer_needed l n s t enough (omega (arith, read.input.charge, read.input.free, turns, few, some))
EndsWithin-read l n s t (PhaseEnds none half ends unfinished is_made) idle unsprung enough = PhaseEnds-fewer l n s.phase s refl unfinished enough
EndsWithin-read l n s t (LineEnds unfinished none ends is_made) idle unsprung enough =
    fewer_needed l n s t enough (LineEnds-fewer l s s.reading (line_ended (known s) s.reading s.input none) idle unfinished)
EndsWithin-read l n s t (MessageTold told is_made) idle unsprung enough =
    let turns : turns_of (endings_of s.input.escapes) s.reading ≡ turns_of (endings_of s.input.escapes) (Told false) = ap (turns_of (endings_of s.input.escapes)) told in
    fewer_needed l n s t enough (omega (arith, turns))
EndsWithin-read l n s t (RunAborts told) idle unsprung enough = inl refl
EndsWithin-read l n s t (InputLeft leaves is_made) idle unsprung enough = fewer_needed l n s t enough (InputLeft-fewer l s.phase s leaves)
EndsWithin-read l n s t (SprungRead name sprung is_made) idle unsprung enough = absurd (none_sprung s.follows name unsprung sprung)
EndsWithin-read l n s t (TextChanged due text is_made) idle unsprung enough = absurd (no_text s.follows due unsprung text)
EndsWithin-read l n s t (SourceFails is_open fails) idle unsprung enough = inl refl
EndsWithin-read l n s t (SourceStops limit is_open stops) idle unsprung enough = inl refl

-- what is read of a macro is no line yet
pub unended-in_sprung : (reading : LineState) → unended (in_sprung reading) ≤ unended reading
unended-in_sprung LineStart = omega arith
unended-in_sprung Branch = omega arith
unended-in_sprung Braced = omega arith
unended-in_sprung (InText line) = omega arith
unended-in_sprung (Control breaks) = omega arith
unended-in_sprung (Name breaks first) = omega arith
unended-in_sprung (Collecting purpose) = omega arith
unended-in_sprung (Deciding keeping) = omega arith
unended-in_sprung (Skipping opened closed behind) = omega arith
unended-in_sprung Dropped = omega arith
unended-in_sprung (Told aborts) = omega arith
unended-in_sprung Exiting = omega arith
unended-in_sprung TitleFront = omega arith
unended-in_sprung (InTitle delimiter) = omega arith
