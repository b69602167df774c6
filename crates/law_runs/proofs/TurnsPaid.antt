-- What a run tells is paid for by its turns: only a step that takes one tells anything, and what it takes leaves fewer.
use Rattle.std.proofs.Common.{◌≡◌, ◌⊎◌, inl, inr, ◌≤◌, ◌+◌, ◌-◌, ◌*◌, ℕ, zero, suc, List, [], ◌∷◌, length, Option, Some, None, refl, sym, ap, subst, arith, IsSome}
use Rattle.std.proofs.Math.Nat.{suc-mul}
use Rattle.input_model.specs.Input.{counting, item_taken}
use Rattle.roff_num.specs.declared.limit.Limit.{Limit}
use Rattle.roff_num.specs.declared.limits.Limits.{Limits}
use Rattle.roff_num.specs.declared.num.Num.{Num}
use Rattle.roff_num.specs.declared.short_name.ShortName.{ShortName}
use Rattle.run_model.specs.PageEvents.{PageEvent}
use Rattle.run_model.specs.Requests.{called_by}
use Rattle.run_model.specs.Run.{State, nothing_follows, grown, moved, sprung_read, step, step_with, unless_refused, with_registers, with_sprung, step_behind, text_done}
use Rattle.run_model.specs.Run.Counts.{first_passed, names_counted}
use Rattle.run_model.specs.Springs.{next}
use Rattle.run_model.specs.Starts.{history_given, with_given}
use Rattle.run_model.specs.declared.request.Called.{Called}
use Rattle.run_model.specs.declared.request.Called.TheVariants.{Request as ARequest, Body as ABody, Nothing as Unknown}
use Rattle.input_source.specs.Tape.{Tape, Item, Ending, OneByte, OneNote, behind_front}
use Rattle.input_model.specs.Arguments.{total_length}
use Rattle.law_runs.specs.MessageBounds.{notes_of}
use Rattle.law_runs.proofs.Endings.{EndsWithin-step, some_phase}
use Rattle.law_runs.proofs.Ended.{ended_or_not, not-ended, step-ended, step-going}
use Rattle.law_runs.proofs.InputLeaving.{IsLeft-left_in}
use Rattle.law_runs.proofs.PerformedOrStopped.{PerformedOrStopped, Performed, Sprang, EndsOver, StoppedAt, first_of, left_behind, performed_or_stopped}
use Rattle.law_runs.proofs.TurnsNeeded.{EndsWithin, EndsWithin-read, items-behind_front, turns_needed}
use Rattle.run_model.proofs.Behind.{Behind-ahead_taken, Behind-byte_taken, Behind-escape_ends, Behind-line_ends, Behind-sprung_read, Passed-phase_ended}
use Rattle.run_model.proofs.HeldBytes.{held_of}
use Rattle.run_model.proofs.Readings.{ReadsOn, LimitStops, AheadTaken, ByteTaken, NoteTaken, HalfEnds, InputLeft, LineEnds, PhaseEnds, MessageTold, RunAborts, SourceFails, SourceStops, SprungRead, ReadsOn-reading_on, TextChanged}
use Rattle.law_runs.proofs.TextsChanged.{text-holds, follows-nothing}
use Rattle.page_model.specs.DueTexts.{TextDue}

-- four turns for all that may still be charged, and for each item of the source
abbrev pub bytes_left : Limits → State → ℕ
bytes_left l s = 4 * (5 * (l.bytes - s.input.charge) + length s.tape.items)

-- some are needed beside these
pub bytes-fewer : (l : Limits) (s : State) → bytes_left l s + 1 ≤ turns_needed l s
bytes-fewer l s = omega (arith, some_phase s.phase)

-- the bytes of the notes that are still to come
abbrev pub notes_left : Tape → ℕ
notes_left tape = total_length (notes_of tape.items)

-- what counts of a state: what it has told, and what it holds of a text that it may tell, and notes that are still to come
abbrev pub weight : State → ℕ
weight s = length s.messages + held_of s.input + notes_left s.tape

-- What a state has told is paid for by turns, so many bytes for each, but for the notes. So many more turns are enough, or the run
-- has ended.
pub record IsPaid (l : Limits) (notes most all : ℕ) (s : State) : Type 0 where
  pub turns : ℕ
  pub told : weight s ≤ notes + turns * most
  pub left : (IsSome s.ended × (turns + bytes_left l s ≤ all)) ⊎ (turns + turns_needed l s ≤ all)

-- nothing is told and nothing is taken
record Waits (l : Limits) (s t : State) : Type 0 where
  told : weight t ≡ weight s
  left : bytes_left l t ≡ bytes_left l s

-- what a step does: it waits, or reads on
data StepReads (l : Limits) (s t : State) : Type 0 where
  ReadsNothing : Waits l s t → StepReads l s t
  Reads : s.to_do ≡ [] → s.follows ≡ nothing_follows → ReadsOn l s t → StepReads l s t

Waits-event : (l : Limits) (e : PageEvent) (es : List PageEvent) (s t : State) → PerformedOrStopped l e es s t → Waits l s t
Waits-event l e es s t (Performed allowed on none) = record { told = refl; left = refl }
Waits-event l e es s t (Sprang name allowed on some) = record { told = refl; left = refl }
Waits-event l e es s t (EndsOver allowed over) = record { told = refl; left = refl }
Waits-event l e es s t (StoppedAt limit) = record { told = refl; left = refl }

Waits-unless_refused : (l : Limits) (r : Option Limit) (s done : State) → Waits l s done → Waits l s (unless_refused l r s done)
Waits-unless_refused l None s done waits = waits
Waits-unless_refused l (Some limit) s done waits = record { told = refl; left = refl }

Waits-sprung_read : (l : Limits) (called : Called) (s : State) → Waits l s (sprung_read called s)
Waits-sprung_read l (ABody name) s = record { told = refl; left = refl }
Waits-sprung_read l (ARequest request) s = record { told = refl; left = refl }
Waits-sprung_read l Unknown s = record { told = refl; left = refl }

reads-with_sprung : (l : Limits) (s : State) (sprung : Option ShortName) → s.to_do ≡ [] → s.follows.text ≡ None → s.follows.sprung ≡ sprung
    → StepReads l s (with_sprung l sprung s)
reads-with_sprung l s None idle none is = Reads idle (follows-nothing s.follows none is) (ReadsOn-reading_on l s)
reads-with_sprung l s (Some name) idle none is =
    let called : Called = called_by name s.input.names in
    ReadsNothing (Waits-unless_refused l (first_passed l (grown (sprung_read called s))) s _ (Waits-sprung_read l called s))

reads-step_with : (l : Limits) (es : List PageEvent) (s : State) → s.to_do ≡ es → s.follows.text ≡ None → StepReads l s (step_with l es s)
reads-step_with l (e ∷ es) s to_do none =
    let own : Option PageEvent = next s.history e in
    ReadsNothing (Waits-event l (first_of own e) (left_behind own e es s) s _ (performed_or_stopped l own e es s))
reads-step_with l [] s to_do none = reads-with_sprung l s s.follows.sprung to_do none refl

-- a change of the text of a diversion
Waits-text_done : (l : Limits) (due : TextDue) (s : State) → Waits l s (text_done due s)
Waits-text_done l due s = text-holds (λ (t : State). Waits l s t) due s (λ names texts. record { told = refl; left = refl })

reads-step_behind : (l : Limits) (due : Option TextDue) (s : State) → s.follows.text ≡ due → StepReads l s (step_behind l due s)
reads-step_behind l None s none = reads-step_with l s.to_do s refl none
reads-step_behind l (Some due) s some =
    ReadsNothing (Waits-unless_refused l (first_passed l (grown (text_done due s))) s _ (Waits-text_done l due s))

reads-step : (l : Limits) (s : State) → s.ended ≡ None → StepReads l s (step l s)
reads-step l s going = subst (λ (t : State). StepReads l s t) (sym (step-going l s going)) (reads-step_behind l s.follows.text s refl)

-- what is read leaves no more
fewer-left : (l : Limits) (s t : State) → ReadsOn l s t → bytes_left l t ≤ bytes_left l s
fewer-left l s t (LimitStops limit) = omega arith
fewer-left l s t (AheadTaken item behind ahead charge is_made) =
    let read = Behind-ahead_taken item (record s { input = item_taken item behind s.input }) in
    let items : length t.tape.items ≡ length s.tape.items = ap (λ (tape : Tape). length tape.items) read.tape in
    omega (arith, read.input.charge, items)
fewer-left l s t (ByteTaken b none is_open gives charge is_made) =
    let read = Behind-byte_taken b (moved (record s { input = counting b s.input })) in
    omega (arith, read.input.charge, items-behind_front s.tape (OneByte b) gives, ap (λ (tape : Tape). length tape.items) read.tape)
fewer-left l s t (NoteTaken message is_open gives) = omega (arith, items-behind_front s.tape (OneNote message) gives)
fewer-left l s t (HalfEnds first others half is_made) =
    let read = Behind-escape_ends s first others half in
    omega (arith, read.input.charge, ap (λ (tape : Tape). length tape.items) read.tape)
fewer-left l s t (PhaseEnds none half ends over is_made) =
    let passed = Passed-phase_ended s.phase s in omega (arith, passed.input.charge, ap (λ (tape : Tape). length tape.items) passed.tape)
fewer-left l s t (LineEnds unfinished none ends is_made) =
    let read = Behind-line_ends s in omega (arith, read.input.charge, ap (λ (tape : Tape). length tape.items) read.tape)
fewer-left l s t (MessageTold told is_made) = omega arith
fewer-left l s t (RunAborts told) = omega arith
fewer-left l s t (InputLeft leaves is_made) =
    let left = IsLeft-left_in s.phase s in omega (arith, left.charge, ap (λ (tape : Tape). length tape.items) left.tape)
fewer-left l s t (SprungRead name sprung is_made) = omega (arith, (Waits-sprung_read l (called_by name s.input.names) s).left)
fewer-left l s t (TextChanged due text is_made) = omega (arith, (Waits-text_done l due s).left)
fewer-left l s t (SourceFails is_open fails) = omega arith
fewer-left l s t (SourceStops limit is_open stops) = omega arith

-- and no more notes
behind-fewer : (items : List Item) (ending : Ending) → let tape : Tape = record { items = items; ending = ending } in
    notes_left (behind_front tape) ≤ notes_left tape
behind-fewer [] ending = omega arith
behind-fewer (OneByte b ∷ items) ending = omega arith
behind-fewer (OneNote message ∷ items) ending = omega arith

pub fewer-notes : (l : Limits) (s t : State) → ReadsOn l s t → notes_left t.tape ≤ notes_left s.tape
fewer-notes l s t (LimitStops limit) = omega arith
fewer-notes l s t (AheadTaken item behind ahead charge is_made) =
    let read = Behind-ahead_taken item (record s { input = item_taken item behind s.input }) in omega (arith, ap notes_left read.tape)
fewer-notes l s t (ByteTaken b none is_open gives charge is_made) =
    let read = Behind-byte_taken b (moved (record s { input = counting b s.input })) in
    omega (arith, ap notes_left read.tape, behind-fewer s.tape.items s.tape.ending)
fewer-notes l s t (NoteTaken message is_open gives) = behind-fewer s.tape.items s.tape.ending
fewer-notes l s t (HalfEnds first others half is_made) =
    let read = Behind-escape_ends s first others half in omega (arith, ap notes_left read.tape)
fewer-notes l s t (PhaseEnds none half ends over is_made) =
    let passed = Passed-phase_ended s.phase s in omega (arith, ap notes_left passed.tape)
fewer-notes l s t (LineEnds unfinished none ends is_made) = let read = Behind-line_ends s in omega (arith, ap notes_left read.tape)
fewer-notes l s t (MessageTold told is_made) = omega arith
fewer-notes l s t (RunAborts told) = omega arith
fewer-notes l s t (InputLeft leaves is_made) = let left = IsLeft-left_in s.phase s in omega (arith, ap notes_left left.tape)
fewer-notes l s t (SprungRead name sprung is_made) =
    let read = Behind-sprung_read (called_by name s.input.names) s in omega (arith, ap notes_left read.tape)
fewer-notes l s t (TextChanged due text is_made) =
    text-holds (λ (u : State). notes_left u.tape ≤ notes_left s.tape) due s (λ names texts. omega arith)
fewer-notes l s t (SourceFails is_open fails) = omega arith
fewer-notes l s t (SourceStops limit is_open stops) = omega arith

-- a step that waits takes no turn
IsPaid-waits : (l : Limits) (notes most all n turns : ℕ) (s t : State) → weight s ≤ notes + turns * most → turns + suc n ≤ all → turns_needed l s ≤ suc n
    → Waits l s t → EndsWithin l (suc n) t → IsPaid l notes most all t
IsPaid-waits l notes most all n turns s t told room enough waits (inl ended) =
    record { turns = turns; told = omega (arith, told, waits.told); left = inl (ended, omega (arith, room, enough, bytes-fewer l s, waits.left)) }
IsPaid-waits l notes most all n turns s t told room enough waits (inr few) =
    record { turns = turns; told = omega (arith, told, waits.told); left = inr (omega (arith, room, few)) }

-- one that reads on takes one
one_more : (notes most turns before behind : ℕ) → before ≤ notes + turns * most → behind ≤ before + most → behind ≤ notes + suc turns * most
one_more notes most turns before behind told more = omega (arith, told, more, suc-mul turns most)

IsPaid-reads : (l : Limits) (notes most all n turns : ℕ) (s t : State) → weight s ≤ notes + turns * most → turns + suc n ≤ all → turns_needed l s ≤ suc n
    → weight t ≤ weight s + most → bytes_left l t ≤ bytes_left l s → EndsWithin l n t → IsPaid l notes most all t
IsPaid-reads l notes most all n turns s t told room enough more fewer (inl ended) = record {
  turns = suc turns;
  told = one_more notes most turns (weight s) (weight t) told more;
  left = inl (ended, omega (arith, room, enough, fewer, bytes-fewer l s));
}
IsPaid-reads l notes most all n turns s t told room enough more fewer (inr few) = record {
  turns = suc turns;
  told = one_more notes most turns (weight s) (weight t) told more;
  left = inr (omega (arith, room, few));
}

-- a step of a run that goes on
IsPaid-going : (l : Limits) (notes most all n turns : ℕ) (s t : State) → weight s ≤ notes + turns * most → turns + suc n ≤ all → turns_needed l s ≤ suc n
    → (ReadsOn l s t → weight t ≤ weight s + most) → StepReads l s t → EndsWithin l (suc n) t → IsPaid l notes most all t
IsPaid-going l notes most all n turns s t told room enough more (ReadsNothing waits) ends = IsPaid-waits l notes most all n turns s t told room enough waits ends
IsPaid-going l notes most all n turns s t told room enough more (Reads idle unsprung reads) ends =
    IsPaid-reads l notes most all n turns s t told room enough (more reads) (fewer-left l s t reads) (EndsWithin-read l n s t reads idle unsprung enough)

-- by how many turns are enough
IsPaid-enough : (l : Limits) (notes most all n turns : ℕ) (s : State) → weight s ≤ notes + turns * most → turns + n ≤ all → turns_needed l s ≤ n → s.ended ≡ None
    → (ReadsOn l s (step l s) → weight (step l s) ≤ weight s + most) → IsPaid l notes most all (step l s)
IsPaid-enough l notes most all zero turns s told room enough going more = absurd (omega (arith, enough, some_phase s.phase))
IsPaid-enough l notes most all (suc n) turns s told room enough going more =
    IsPaid-going l notes most all n turns s (step l s) told room enough more (reads-step l s going) (EndsWithin-step l n s enough)

IsPaid-left : (l : Limits) (notes most all : ℕ) (s : State) → IsPaid l notes most all s → s.ended ≡ None
    → (ReadsOn l s (step l s) → weight (step l s) ≤ weight s + most) → IsPaid l notes most all (step l s)
IsPaid-left l notes most all s paid going more =
    elim paid.left [
      | inl ended ↦ absurd (not-ended s.ended going ended.0)
      | inr room ↦ IsPaid-enough l notes most all (turns_needed l s) paid.turns s paid.told room (omega arith) going more
    ]

-- a step, where one that reads on tells no more than that
pub IsPaid-step : (l : Limits) (notes most all : ℕ) (s : State) → IsPaid l notes most all s
    → (ReadsOn l s (step l s) → weight (step l s) ≤ weight s + most) → IsPaid l notes most all (step l s)
IsPaid-step l notes most all s paid more =
    elim (ended_or_not s.ended) [
      | inl ended ↦ subst (λ (t : State). IsPaid l notes most all t) (sym (step-ended l s ended)) paid
      | inr going ↦ IsPaid-left l notes most all s paid going more
    ]

-- registers that are given are set before the first turn
Waits-with_registers : (l : Limits) (given : List (ℕ × Num)) (s : State) → Waits l s (with_registers l given s)
Waits-with_registers l [] s = record { told = refl; left = refl }
Waits-with_registers l (first ∷ others) s =
    let behind : State = record s { registers = with_given first s.registers; history = history_given first s.history } in
    let waits = Waits-with_registers l others behind in
    Waits-unless_refused l (first_passed l (names_counted behind.registers)) s _ (record { told = waits.told; left = waits.left })

-- so none is needed for what stands before
pub IsPaid-with_registers : (l : Limits) (notes most all : ℕ) (given : List (ℕ × Num)) (s : State) → weight s ≤ notes → bytes_left l s ≤ all
    → EndsWithin l all (with_registers l given s) → IsPaid l notes most all (with_registers l given s)
IsPaid-with_registers l notes most all given s few room (inl ended) =
    let waits = Waits-with_registers l given s in
    record { turns = 0; told = omega (arith, few, waits.told); left = inl (ended, omega (arith, room, waits.left)) }
IsPaid-with_registers l notes most all given s few room (inr enough) =
    let waits = Waits-with_registers l given s in
    record { turns = 0; told = omega (arith, few, waits.told); left = inr (omega (arith, enough)) }
