-- What a run takes of its tape is in front of what it leaves.
--
-- Each function f of the run has its lemma Takes-f here, with a line for each of its cases.
use Rattle.std.proofs.Common.{◌≡◌, ℕ, ◌+◌, ◌≤◌, zero, suc, Bool, true, false, List, [], ◌∷◌, ◌++◌, length, Option, Some, None, refl, ◌∙◌, sym, ap, append_assoc, length-append, add-zero, arith, take, ◌-◌, if◌then◌else◌, ◌==◌, append-nil}
use Rattle.std.proofs.lemmas.List.Sums.{sum_by-append}
use Rattle.std.proofs.Math.Seq.{take-append_seam}
use Rattle.roff_num.specs.declared.limits.Limits.{Limits}
use Rattle.roff_num.specs.declared.limit.Limit.{Limit}
use Rattle.roff_num.specs.declared.limit.Limit.TheVariants.{Messages}
use Rattle.roff_num.specs.declared.num.Num.{Num}
use Rattle.run_model.specs.Run.Counts.{first_passed, names_counted}
use Rattle.run_model.specs.Requests.{called_by}
use Rattle.run_model.specs.Springs.{next}
use Rattle.run_model.specs.Starts.{history_given, with_given}
use Rattle.run_model.specs.Within.{IsWithin}
use Rattle.run_model.specs.Reading.Items.{PageInput}
use Rattle.run_model.specs.PageEvents.{PageEvent}
use Rattle.run_model.specs.Results.{last_state}
use Rattle.run_model.specs.Run.{State, initial, moved, paged_state, stopped_by, unless_refused, with_registers, step_with, step, told_after, told_step, step_behind}
use Rattle.law_runs.specs.Taken.{bytes_of, newlines_in, line_of_last, Takes, EachItemIsTakenOnce, EachRunLeavesItsRest}
use Rattle.input_source.specs.Bytes.{newline}
use Rattle.input_model.specs.Input.{Ahead, counting, item_taken}
use Rattle.input_source.specs.Tape.{Tape, Item, Ending, OneByte, OneNote, Gives, front, behind_front}
use Rattle.law_runs.proofs.Endings.{at_last_state}
use Rattle.law_runs.proofs.InputLeaving.{IsLeft-left_in}
use Rattle.law_runs.proofs.PerformedOrStopped.{PerformedOrStopped, Performed, Sprang, EndsOver, StoppedAt, first_of, left_behind, performed_or_stopped}
use Rattle.run_model.proofs.Readings.{ReadsOn, LimitStops, AheadTaken, ByteTaken, NoteTaken, HalfEnds, InputLeft, LineEnds, PhaseEnds, MessageTold, RunAborts, SourceFails, SourceStops, SprungRead, ReadsOn-with_sprung, behind_note, TextChanged, ReadsOn-text}
use Rattle.run_model.proofs.Behind.{Behind, Behind-sprung_read, Behind-byte_taken, Behind-ahead_taken, Behind-escape_ends, Behind-line_ends, Passed-phase_ended}
use Rattle.law_runs.proofs.RunsStayWithin.{no_limit_is_passed}
use Rattle.law_runs.proofs.Told.{told_step-holds}
use Rattle.page_model.specs.DueTexts.{TextDue}
use Rattle.law_runs.proofs.TextsChanged.{text-holds}

-- the bytes of two lists of items
bytes_of-append : (xs ys : List Item) → bytes_of (xs ++ ys) ≡ bytes_of xs ++ bytes_of ys
bytes_of-append [] ys = refl
bytes_of-append (OneByte b ∷ xs) ys = ap (λ bs. b ∷ bs) (bytes_of-append xs ys)
bytes_of-append (OneNote message ∷ xs) ys = bytes_of-append xs ys

-- what a tape gives stands in front of what is behind it
items-front : (items : List Item) (ending : Ending) (item : Item) → let tape : Tape = record { items = items; ending = ending } in
    front tape ≡ Gives item → items ≡ item ∷ (behind_front tape).items
items-front [] ending item gives = cc
items-front (x ∷ items) ending item gives = cc

-- and changes nothing in how the items end
ending-behind_front : (items : List Item) (ending : Ending) → (behind_front (record { items = items; ending = ending })).ending ≡ ending
ending-behind_front [] ending = refl
ending-behind_front (x ∷ items) ending = refl

-- one more, by a test
add-if : (n : ℕ) (b : Bool) → n + (0 + (if b then 1 else 0)) ≡ (if b then n + 1 else n)
add-if n true = refl
add-if n false = add-zero n

-- the newlines among some bytes and one more
newlines_in-byte : (bytes : List ℕ) (b : ℕ) → newlines_in (bytes ++ b ∷ []) ≡ (if b == newline then newlines_in bytes + 1 else newlines_in bytes)
newlines_in-byte bytes b = sum_by-append (λ c. if c == newline then 1 else 0) bytes (b ∷ []) ∙ add-if (newlines_in bytes) (b == newline)

-- that one's line
line_of_last-byte : (bytes : List ℕ) (b : ℕ) → line_of_last (bytes ++ b ∷ []) ≡ newlines_in bytes + 1
line_of_last-byte bytes b =
    let all : length (bytes ++ b ∷ []) - 1 ≡ length bytes = rw length-append (omega arith) in
    ap (λ (front : List ℕ). newlines_in front + 1) (ap (λ (n : ℕ). take n (bytes ++ b ∷ [])) all ∙ take-append_seam bytes (b ∷ []))

-- a state of the same tape and counts of the source, and of no smaller charge
Takes-same : (tape : Tape) (s t : State) → t.tape ≡ s.tape → s.input.charge ≤ t.input.charge → t.input.newlines ≡ s.input.newlines
    → t.input.line ≡ s.input.line → Takes tape s → Takes tape t
Takes-same tape s t rest charge newlines line takes = record {
  taken = takes.taken;
  items = rw rest takes.items;
  ending = rw rest takes.ending;
  charge = omega (arith, charge, takes.charge);
  newlines = newlines ∙ takes.newlines;
  line = line ∙ takes.line;
}

-- a state of the same tape and input
Takes-unread : (tape : Tape) (s t : State) → t.tape ≡ s.tape → t.input ≡ s.input → Takes tape s → Takes tape t
Takes-unread tape s t rest input takes =
    Takes-same tape s t rest (rw input (omega arith)) (ap (λ (i : PageInput). i.newlines) input) (ap (λ (i : PageInput). i.line) input) takes

-- a state behind what was read
Takes-behind : (tape : Tape) (most : ℕ) (s t : State) → Behind most s t → Takes tape s → Takes tape t
Takes-behind tape most s t read takes =
    Takes-same tape s t read.tape (rw read.input.charge (omega arith)) read.input.newlines read.input.line takes

-- one item more is in front of the rest
items-taken : (tape rest : Tape) (item : Item) (taken : List Item) → front rest ≡ Gives item → tape.items ≡ taken ++ rest.items
    → tape.items ≡ (taken ++ item ∷ []) ++ (behind_front rest).items
items-taken tape rest item taken gives items =
    rw append_assoc (items ∙ ap (λ (others : List Item). taken ++ others) (items-front rest.items rest.ending item gives))

-- a byte of the source is counted
Takes-byte : (tape : Tape) (b : ℕ) (s : State) → front s.tape ≡ Gives (OneByte b) → Takes tape s → Takes tape (moved (record s { input = counting b s.input }))
Takes-byte tape b s gives takes =
    let bytes : List ℕ = bytes_of takes.taken in
    let more : bytes_of (takes.taken ++ OneByte b ∷ []) ≡ bytes ++ b ∷ [] = bytes_of-append takes.taken (OneByte b ∷ []) in record {
      taken = takes.taken ++ OneByte b ∷ [];
      items = items-taken tape s.tape (OneByte b) takes.taken gives takes.items;
      ending = ending-behind_front s.tape.items s.tape.ending ∙ takes.ending;
      charge = rw (more, length-append) (omega (arith, takes.charge));
      newlines = rw (takes.newlines, more) (sym (newlines_in-byte bytes b));
      line = rw (takes.newlines, more) (sym (line_of_last-byte bytes b));
    }

-- a note is taken
Takes-note : (tape : Tape) (message : List ℕ) (s : State) → front s.tape ≡ Gives (OneNote message) → Takes tape s → Takes tape (behind_note message s)
Takes-note tape message s gives takes =
    let same : bytes_of (takes.taken ++ OneNote message ∷ []) ≡ bytes_of takes.taken =
    bytes_of-append takes.taken (OneNote message ∷ []) ∙ append-nil (bytes_of takes.taken) in record {
      taken = takes.taken ++ OneNote message ∷ [];
      items = items-taken tape s.tape (OneNote message) takes.taken gives takes.items;
      ending = ending-behind_front s.tape.items s.tape.ending ∙ takes.ending;
      charge = rw same takes.charge;
      newlines = rw same takes.newlines;
      line = rw same takes.line;
    }

-- an item ahead of the source is charged
Takes-charged : (tape : Tape) (item : Ahead PageEvent) (behind : List (Ahead PageEvent)) (s : State) → Takes tape s
    → Takes tape (record s { input = item_taken item behind s.input })
Takes-charged tape item behind s takes =
    Takes-same tape s (record s { input = item_taken item behind s.input }) refl (omega arith) refl refl takes

-- an event is performed, or the run ends at it
Takes-event : (tape : Tape) (l : Limits) (e : PageEvent) (es : List PageEvent) (s t : State) → PerformedOrStopped l e es s t → Takes tape s → Takes tape t
Takes-event tape l e es s t (Performed allowed on none) takes = Takes-unread tape s t refl refl takes
Takes-event tape l e es s t (Sprang name allowed on some) takes = Takes-same tape s t refl (omega arith) refl refl takes
Takes-event tape l e es s t (EndsOver allowed over) takes = Takes-unread tape s t refl refl takes
Takes-event tape l e es s t (StoppedAt limit) takes = Takes-unread tape s t refl refl takes

-- what was read, or how the run ended
Takes-read : (tape : Tape) (l : Limits) (s t : State) → ReadsOn l s t → Takes tape s → Takes tape t
Takes-read tape l s t (LimitStops limit) takes = Takes-unread tape s t refl refl takes
Takes-read tape l s t (AheadTaken item behind ahead charge is_made) takes =
    Takes-behind tape _ _ t (Behind-ahead_taken item (record s { input = item_taken item behind s.input })) (Takes-charged tape item behind s takes)
Takes-read tape l s t (ByteTaken b none is_open gives charge is_made) takes =
    Takes-behind tape _ _ t (Behind-byte_taken b (moved (record s { input = counting b s.input }))) (Takes-byte tape b s gives takes)
Takes-read tape l s t (NoteTaken message is_open gives) takes = Takes-note tape message s gives takes
Takes-read tape l s t (HalfEnds first others half is_made) takes = Takes-behind tape _ s t (Behind-escape_ends s first others half) takes
Takes-read tape l s t (PhaseEnds none half ends over is_made) takes =
    let passed = Passed-phase_ended s.phase s in
    Takes-same tape s t passed.tape (rw passed.input.charge (omega arith)) passed.input.newlines passed.input.line takes
Takes-read tape l s t (LineEnds unfinished none ends is_made) takes = Takes-behind tape _ s t (Behind-line_ends s) takes
Takes-read tape l s t (MessageTold told is_made) takes = Takes-same tape s t refl (omega arith) refl refl takes
Takes-read tape l s t (RunAborts told) takes = Takes-unread tape s t refl refl takes
Takes-read tape l s t (InputLeft leaves is_made) takes =
    let left = IsLeft-left_in s.phase s in Takes-same tape s t left.tape (rw left.charge (omega arith)) left.newlines left.line takes
Takes-read tape l s t (SprungRead name sprung is_made) takes =
    Takes-behind tape _ s t (Behind-sprung_read (called_by name s.input.names) s) takes
Takes-read tape l s t (TextChanged due text is_made) takes =
    text-holds (λ (u : State). Takes tape u) due s (λ names texts. Takes-same tape s _ refl (omega arith) refl refl takes)
Takes-read tape l s t (SourceFails is_open fails) takes = Takes-unread tape s t refl refl takes
Takes-read tape l s t (SourceStops limit is_open stops) takes = Takes-unread tape s t refl refl takes

-- a step of a run that hasn't ended
Takes-step_with : (tape : Tape) (l : Limits) (es : List PageEvent) (s : State) → Takes tape s → Takes tape (step_with l es s)
Takes-step_with tape l (e ∷ es) s takes =
    let own : Option PageEvent = next s.history e in
    Takes-event tape l (first_of own e) (left_behind own e es s) s _ (performed_or_stopped l own e es s) takes
Takes-step_with tape l [] s takes = Takes-read tape l s _ (ReadsOn-with_sprung l s.follows.sprung s refl) takes

-- the text of a diversion changes first, if one does
Takes-step_behind : (tape : Tape) (l : Limits) (due : Option TextDue) (s : State) → s.follows.text ≡ due → Takes tape s
    → Takes tape (step_behind l due s)
Takes-step_behind tape l None s none takes = Takes-step_with tape l s.to_do s takes
Takes-step_behind tape l (Some due) s some takes = Takes-read tape l s _ (ReadsOn-text l due s some) takes

-- a step
pub Takes-step : (tape : Tape) (l : Limits) (s : State) → Takes tape s → Takes tape (step l s)
Takes-step tape l s takes =
    elim s.ended as (λ o. Takes tape (elim o [ None ↦ step_behind l s.follows.text s | Some status ↦ s ])) [
      | None ↦ Takes-step_behind tape l s.follows.text s refl takes
      | Some status ↦ takes
    ]

Takes-told_step : (tape : Tape) (l : Limits) (s : State) → Takes tape s → Takes tape (told_step l s)
Takes-told_step tape l s takes =
    told_step-holds (Takes tape) l s (Takes-step tape l s takes) (λ going. Takes-unread tape s (stopped_by l Messages s) refl refl takes)

-- so many steps
Takes-told_after : (tape : Tape) (l : Limits) (n : ℕ) (s : State) → Takes tape s → Takes tape (told_after l n s)
Takes-told_after tape l zero s takes = takes
Takes-told_after tape l (suc n) s takes = Takes-told_after tape l n (told_step l s) (Takes-told_step tape l s takes)

-- nothing is taken where registers are set that are given
Takes-unless_refused : (tape : Tape) (l : Limits) (r : Option Limit) (s done : State) → Takes tape s → Takes tape done → Takes tape (unless_refused l r s done)
Takes-unless_refused tape l None s done takes takes_done = takes_done
Takes-unless_refused tape l (Some limit) s done takes takes_done = Takes-unread tape s (stopped_by l limit s) refl refl takes

Takes-with_registers : (tape : Tape) (l : Limits) (given : List (ℕ × Num)) (s : State) → Takes tape s → Takes tape (with_registers l given s)
Takes-with_registers tape l [] s takes = takes
Takes-with_registers tape l (first ∷ others) s takes =
    let behind : State = record s { registers = with_given first s.registers; history = history_given first s.history } in
    Takes-unless_refused tape l (first_passed l (names_counted behind.registers)) s _ takes
    (Takes-with_registers tape l others behind (Takes-unread tape s behind refl refl takes))

-- no step skips an item or takes one twice
pub each_item_is_taken_once : EachItemIsTakenOnce
each_item_is_taken_once l start tape n =
    Takes-told_after tape l n (initial l start tape)
    (Takes-with_registers tape l start.registers.items (paged_state start tape) (record { taken = []; items = refl; ending = refl; charge = omega arith; newlines = refl; line = refl }))

-- what a whole run takes, and its rest
pub each_run_leaves_its_rest : EachRunLeavesItsRest
each_run_leaves_its_rest l start tape =
    let takes : Takes tape (last_state l start tape) = at_last_state (Takes tape) l start tape (each_item_is_taken_once l start tape) in
    let is : IsWithin l (last_state l start tape) = at_last_state (IsWithin l) l start tape (no_limit_is_passed l start tape) in record {
      taken = takes.taken;
      items = takes.items;
      ending = takes.ending;
      charge = takes.charge;
      within = is.bytes;
    }
