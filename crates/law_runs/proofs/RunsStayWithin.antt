-- No step passes a limit.
--
-- Each function f of the run has its lemma IsWithin-f here, with a line for each of its cases.
use Rattle.std.proofs.Common.{◌≡◌, ◌≤◌, ◌+◌, ℕ, zero, suc, Bool, true, false, not, ◌||◌, List, [], ◌∷◌, ◌++◌, Option, Some, None, refl, sym, ap, subst, ◌∙◌, arith, append-nil, length-append, map, length, if◌then◌else◌}
use Rattle.roff_num.specs.declared.limit.Limit.{Limit}
use Rattle.roff_num.specs.declared.limit.Limit.TheVariants.{Messages}
use Rattle.roff_num.specs.declared.limits.Limits.{Limits}
use Rattle.run_model.specs.Environments.{PageHistory, Environments, environments, first_environments, gone_back, is_same, ring_turned, turned_to, ring_turned_unless}
use Rattle.run_model.specs.declared.environment_number.EnvironmentNumber.{EnvironmentNumber}
use Rattle.law_runs.specs.Laws.{NoLimitIsPassed}
use Rattle.run_model.specs.Within.{EnvironmentsWithin, IsWithin}
use Rattle.run_model.specs.PageEvents.{PageEvent, PastEvent}
use Rattle.run_model.specs.Titles.{put_back, told}
use Rattle.run_model.specs.declared.event.PageEvent.TheVariants.{Text, Page, Interrupt, Environment, Back, InputTrap as SetsTrap, Title}
use Rattle.run_model.specs.Run.{State, initial, paged_state, grown, moved, stopped_by, unless_refused, with_registers, step_with, step, told_after, told_step, step_behind}
use Rattle.run_model.specs.Layouts.{placed}
use Rattle.run_model.specs.Output.{happens, layout_of, text_laid, text_of, written}
use Rattle.run_model.specs.Run.Counts.{counts, first_passed, names_counted, placed_counted, refusal, written_counted}
use Rattle.law_runs.proofs.TrapsPlanted.{length-with_first, length-without_first, traps-placed, traps-put}
use Rattle.law_runs.proofs.CountsWithin.{AllWithin, counts_within, last_within}
use Rattle.law_runs.proofs.InputLeaving.{IsLeft-left_in}
use Rattle.law_runs.proofs.InterruptedLengths.{pending_length-interrupted}
use Rattle.law_runs.proofs.Told.{told_step-holds}
use Rattle.law_runs.proofs.PerformedOrStopped.{PerformedOrStopped, Performed, Sprang, EndsOver, StoppedAt, first_of, left_behind, performed_or_stopped}
use Rattle.run_model.proofs.Readings.{IsMade, ReadsOn, LimitStops, AheadTaken, ByteTaken, NoteTaken, HalfEnds, InputLeft, LineEnds, PhaseEnds, MessageTold, RunAborts, SourceFails, SourceStops, SprungRead, ReadsOn-with_sprung, TextChanged, ReadsOn-text}
use Rattle.run_model.proofs.Behind.{Behind-byte_taken, Behind-sprung_read, Behind-ahead_taken, Behind-escape_ends, Behind-line_ends, Passed-phase_ended}
use Rattle.input_model.specs.Input.{counting, item_taken}
use Rattle.roff_num.specs.declared.num.Num.{Num}
use Rattle.page_model.specs.DeviceText.{device_lines}
use Rattle.page_model.specs.Happenings.{Happening, Does, Titles}
use Rattle.page_model.specs.Behind.{finished, length_reached, pending_length}
use Rattle.page_model.specs.Puts.{appended, puts}
use Rattle.page_model.specs.Turning.{is_given, is_named, moved_to, unput}
use Rattle.page_model.specs.declared.layout_event.LayoutEvent.{LayoutEvent}
use Rattle.page_model.specs.declared.trap.Trap.{Trap}
use Rattle.page_model.specs.declared.layout_event.LayoutEvent.TheVariants.{ListPages, Begin, Close, Space, Need, Eject, EjectTo, EjectOn, EjectLast, Length, Offset, Next, Number, NoSpace, Plant, Uproot, MoveTrap, RemoveTrap, DiversionTrap, NoDiversionTrap, Divert, EndDivert}
use Rattle.page_model.specs.Layout.{Layout}
use Rattle.page_model.specs.Stops.{is_diverted}
use Rattle.run_model.specs.Requests.{called_by}
use Rattle.run_model.specs.Springs.{next}
use Rattle.run_model.specs.Requests.Effects.{page_numbered}
use Rattle.run_model.specs.Requests.Numbering.{number_of_page}
use Rattle.run_model.specs.Starts.{history_given, pages_given, with_given}
use Rattle.run_model.specs.declared.start.Start.{Start}
use Rattle.run_model.proofs.GivenPages.{environments-given_pages, keeps-given, written-given_pages}
use Rattle.run_model.proofs.LengthsReached.{pending_length-reached}
use Rattle.run_model.proofs.PutBack.{bytes_ahead-back, ends_ahead-back}
use Rattle.input_source.specs.Tape.{Tape}
use Rattle.page_model.specs.DueTexts.{TextDue}
use Rattle.law_runs.proofs.TextsChanged.{text-holds}
pub use Rattle.law_runs.proofs.KeptTitles.{named-keeping, title-given, title-keeping}

-- a state of the same input, registers and history
IsWithin-same : (l : Limits) (s t : State) → t.input ≡ s.input → t.registers ≡ s.registers → t.history ≡ s.history → IsWithin l s → IsWithin l t
IsWithin-same l s t input registers history is = record {
  bytes = rw input is.bytes;
  stack = rw input is.stack;
  depth = rw input is.depth;
  store = rw input is.store;
  texts = rw input is.texts;
  making = rw input is.making;
  conditions = rw input is.conditions;
  names = rw registers is.names;
  title = rw registers is.title;
  environments = rw history is.environments;
  output = rw history is.output;
  traps = rw history is.traps;
}

-- turning the ring of environments makes no line longer, and leaves none of them
within-turned : (l : Limits) (es : Environments) → EnvironmentsWithin l es → EnvironmentsWithin l (ring_turned es)
within-turned l es is = record { in_force = is.next; next = is.last; last = is.in_force; left = is.left }

within-turned_unless : (l : Limits) (is_there : Bool) (es : Environments) → EnvironmentsWithin l es → EnvironmentsWithin l (ring_turned_unless is_there es)
within-turned_unless l true es is = is
within-turned_unless l false es is = within-turned l es is

within-turned_to : (l : Limits) (number : EnvironmentNumber) (es : Environments) → EnvironmentsWithin l es → EnvironmentsWithin l (turned_to number es)
within-turned_to l number es is =
    let once : Environments = ring_turned_unless (is_same es.number number) es in
    within-turned_unless l (is_same once.number number) once (within-turned_unless l (is_same es.number number) es is)

-- these are left, and no others
within-left : (l : Limits) (left : List EnvironmentNumber) (es : Environments) → EnvironmentsWithin l es → length left ≤ l.environments
    → EnvironmentsWithin l (record es { left = left })
within-left l left es is few = record { in_force = is.in_force; next = is.next; last = is.last; left = few }

-- the newest of those that were left is gone back to
within-gone_back : (l : Limits) (left : List EnvironmentNumber) (es : Environments) → EnvironmentsWithin l es → length left ≤ l.environments
    → EnvironmentsWithin l (gone_back left es)
within-gone_back l [] es is few = is
within-gone_back l (number ∷ left) es is few = within-turned_to l number _ (within-left l left es is (omega (arith, few)))

-- the environments behind an event that no limit refuses
environments_within : (l : Limits) (h : PageHistory) (e : PastEvent) → EnvironmentsWithin l (environments h) → refusal l h e ≡ None
    → EnvironmentsWithin l (environments (e ∷ h))
environments_within l h (Text e) is allowed =
    let few : length_reached e (text_of h) ≤ l.line = (counts_within l (counts h (Text e)) allowed).0 in
    let in_force : pending_length (e ∷ text_of h) ≤ l.line = omega (arith, few, pending_length-reached e (text_of h)) in
    record { in_force = in_force; next = is.next; last = is.last; left = is.left }
environments_within l h (Page e) is allowed = is
environments_within l h (Title t) is allowed = is
environments_within l h (Interrupt untold) is allowed =
    let same = pending_length-interrupted (environments h).in_force.text in
    record { in_force = omega (arith, same, is.in_force); next = is.next; last = is.last; left = is.left }
environments_within l h (Environment number) is allowed =
    let es : Environments = environments h in
    let few : length es.left + 1 ≤ l.environments = (counts_within l (counts h (Environment number)) allowed).0 in
    within-turned_to l number _ (within-left l (es.number ∷ es.left) es is (omega (arith, few)))
environments_within l h Back is allowed = within-gone_back l (environments h).left (environments h) is is.left
environments_within l h (SetsTrap trap) is allowed = record { in_force = is.in_force; next = is.next; last = is.last; left = is.left }

-- what is written behind what happens to the layout, if something does
laid_within : (l : Limits) (h : PageHistory) (x : Option Happening) → length (written h) ≤ l.output → AllWithin l (written_counted h x)
    → length (written h ++ text_laid x (layout_of h)) ≤ l.output
laid_within l h None is all = rw append-nil is
laid_within l h (Some x) is all = rw length-append all.0

-- what is written behind an event that no limit refuses
written_within : (l : Limits) (h : PageHistory) (e : PastEvent) → length (written h) ≤ l.output → refusal l h e ≡ None
    → length (written (e ∷ h)) ≤ l.output
written_within l h (Text e) is allowed = laid_within l h (happens h (Text e)) is (counts_within l (counts h (Text e)) allowed).1
written_within l h (Page e) is allowed =
    laid_within l h (Some (Does e)) is
    (last_within l (placed_counted e (layout_of h)) (written_counted h (Some (Does e))) (counts_within l (counts h (Page e)) allowed))
written_within l h (Interrupt untold) is allowed = laid_within l h None is tt
written_within l h (Environment number) is allowed = laid_within l h None is tt
written_within l h Back is allowed = laid_within l h None is tt
written_within l h (SetsTrap trap) is allowed = laid_within l h None is tt
written_within l h (Title t) is allowed = laid_within l h (happens h (Title t)) is (counts_within l (counts h (Title t)) allowed)

-- the traps behind an event of pages
paged_traps_within : (l : Limits) (h : PageHistory) (e : LayoutEvent) → length (layout_of h).traps ≤ l.traps → refusal l h (Page e) ≡ None
    → length (unput (Does e) (layout_of h)).traps ≤ l.traps
paged_traps_within l h (Plant trap) is allowed = (counts_within l (counts h (Page (Plant trap))) allowed).0
paged_traps_within l h (Uproot place) is allowed = omega (arith, is, length-without_first (is_given place) (layout_of h).traps)
paged_traps_within l h (MoveTrap name place) is allowed = omega (arith, is, length-with_first (is_named name) (moved_to place) (layout_of h).traps)
paged_traps_within l h (RemoveTrap name) is allowed = omega (arith, is, length-without_first (is_named name) (layout_of h).traps)
paged_traps_within l h (ListPages first last) is allowed = is
paged_traps_within l h Begin is allowed = is
paged_traps_within l h Close is allowed = is
paged_traps_within l h (Space k) is allowed = is
paged_traps_within l h (Need k) is allowed = is
paged_traps_within l h (Eject asked) is allowed = is
paged_traps_within l h (EjectTo asked number) is allowed = is
paged_traps_within l h (EjectOn asked) is allowed = is
paged_traps_within l h EjectLast is allowed = is
paged_traps_within l h (Length k) is allowed = is
paged_traps_within l h (Offset k) is allowed = is
paged_traps_within l h (Next n) is allowed = is
paged_traps_within l h (Number n) is allowed = is
paged_traps_within l h (NoSpace on) is allowed = is
paged_traps_within l h (DiversionTrap trap) is allowed = is
paged_traps_within l h NoDiversionTrap is allowed = is
paged_traps_within l h (Divert name appends) is allowed = is
paged_traps_within l h EndDivert is allowed = is

-- and any that no limit refuses
traps_within : (l : Limits) (h : PageHistory) (e : PastEvent) → length (layout_of h).traps ≤ l.traps → refusal l h e ≡ None
    → length (layout_of (e ∷ h)).traps ≤ l.traps
traps_within l h (Text e) is allowed =
    subst (λ (traps : List Trap). length traps ≤ l.traps) (sym (traps-placed (finished (text_of h) e) (layout_of h))) is
traps_within l h (Page e) is allowed =
    let L : Layout = layout_of h in
    let x : Happening = Does e in
    traps-put l.traps x (puts x L) (appended x L) L is (paged_traps_within l h e is allowed)
traps_within l h (Title t) is allowed =
    let L : Layout = layout_of h in
    let x : Happening = Titles (placed t (text_of h) L) in
    traps-put l.traps x (puts x L) (appended x L) L is is
traps_within l h (Interrupt untold) is allowed = is
traps_within l h (Environment number) is allowed = is
traps_within l h Back is allowed = is
traps_within l h (SetsTrap trap) is allowed = is

-- an event happened
IsWithin-happened : (l : Limits) (e : PastEvent) (s : State) → refusal l s.history e ≡ None → IsWithin l s → IsWithin l (record s { history = e ∷ s.history })
IsWithin-happened l e s allowed is = record {
  bytes = is.bytes;
  stack = is.stack;
  depth = is.depth;
  store = is.store;
  texts = is.texts;
  making = is.making;
  conditions = is.conditions;
  names = is.names;
  title = is.title;
  environments = environments_within l s.history e is.environments allowed;
  output = written_within l s.history e is.output allowed;
  traps = traps_within l s.history e is.traps allowed;
}

-- an event is performed, or the run ends at it
IsWithin-event : (l : Limits) (e : PageEvent) (left : List PageEvent) (s t : State) → PerformedOrStopped l e left s t → IsWithin l s → IsWithin l t
IsWithin-event l e left s t (Performed allowed on none) is =
    IsWithin-same l (record s { history = told s.registers e ∷ s.history }) t refl refl refl (IsWithin-happened l (told s.registers e) s allowed is)
IsWithin-event l e left s t (EndsOver allowed over) is =
    IsWithin-same l (record s { history = told s.registers e ∷ s.history }) t refl refl refl (IsWithin-happened l (told s.registers e) s allowed is)
IsWithin-event l e left s t (Sprang name allowed on some) is = record {
  bytes = is.bytes;
  stack = omega (arith, is.stack, bytes_ahead-back (map put_back left) s.input.ahead);
  depth = omega (arith, is.depth, ends_ahead-back (map put_back left) s.input.ahead);
  store = is.store;
  texts = is.texts;
  making = is.making;
  conditions = is.conditions;
  names = rw (named-keeping left s.registers) is.names;
  title = title-keeping l left s.registers is.title;
  environments = environments_within l s.history (told s.registers e) is.environments allowed;
  output = written_within l s.history (told s.registers e) is.output allowed;
  traps = traps_within l s.history (told s.registers e) is.traps allowed;
}
IsWithin-event l e left s t (StoppedAt limit) is = IsWithin-same l s t refl refl refl is

-- a step that is made, and takes no more than the limit says
IsWithin-made : (l : Limits) (s t : State) → t.input.charge ≤ l.bytes → t.history ≡ s.history → IsMade l t → IsWithin l s → IsWithin l t
IsWithin-made l s t charge history is_made is =
    let others : AllWithin l (grown t) = counts_within l (grown t) is_made in
    let input = others.1.1 in
    let ahead = input.1.1.1 in
    record {
      bytes = charge;
      stack = ahead.0;
      depth = ahead.1.0;
      store = input.0;
      texts = input.1.0;
      making = omega (arith, input.1.1.0);
      conditions = ahead.1.1.0;
      names = others.0;
      title = others.1.0;
      environments = rw history is.environments;
      output = rw history is.output;
      traps = rw history is.traps;
    }

-- what was read, or how the run ended
IsWithin-read : (l : Limits) (s t : State) → ReadsOn l s t → IsWithin l s → IsWithin l t
IsWithin-read l s t (LimitStops limit) is = IsWithin-same l s t refl refl refl is
IsWithin-read l s t (AheadTaken item behind ahead charge is_made) is =
    let read = Behind-ahead_taken item (record s { input = item_taken item behind s.input }) in
    IsWithin-made l s t (rw read.input.charge charge) read.history is_made is
IsWithin-read l s t (ByteTaken b none is_open gives charge is_made) is =
    let read = Behind-byte_taken b (moved (record s { input = counting b s.input })) in
    IsWithin-made l s t (rw read.input.charge charge) refl is_made is
IsWithin-read l s t (NoteTaken message is_open gives) is = IsWithin-same l s t refl refl refl is
IsWithin-read l s t (HalfEnds first others half is_made) is =
    IsWithin-made l s t (rw (Behind-escape_ends s first others half).input.charge is.bytes) refl is_made is
IsWithin-read l s t (PhaseEnds none half ends over is_made) is =
    let passed = Passed-phase_ended s.phase s in
    IsWithin-made l s t (rw passed.input.charge is.bytes) passed.history is_made is
IsWithin-read l s t (LineEnds unfinished none ends is_made) is =
    IsWithin-made l s t (rw (Behind-line_ends s).input.charge is.bytes) refl is_made is
IsWithin-read l s t (MessageTold told is_made) is = IsWithin-made l s t is.bytes refl is_made is
IsWithin-read l s t (RunAborts told) is = IsWithin-same l s t refl refl refl is
IsWithin-read l s t (InputLeft leaves is_made) is =
    let left = IsLeft-left_in s.phase s in IsWithin-made l s t (rw left.charge is.bytes) left.history is_made is
IsWithin-read l s t (SprungRead name sprung is_made) is =
    let read = Behind-sprung_read (called_by name s.input.names) s in
    IsWithin-made l s t (rw read.input.charge is.bytes) read.history is_made is
IsWithin-read l s t (TextChanged due text is_made) is =
    let bytes : t.input.charge ≤ l.bytes = text-holds (λ (u : State). u.input.charge ≤ l.bytes) due s (λ names texts. is.bytes) in
    IsWithin-made l s t bytes (text-holds (λ (u : State). u.history ≡ s.history) due s (λ names texts. refl)) is_made is
IsWithin-read l s t (SourceFails is_open fails) is = IsWithin-same l s t refl refl refl is
IsWithin-read l s t (SourceStops limit is_open stops) is = IsWithin-same l s t refl refl refl is

-- a step of a run that hasn't ended
IsWithin-step_with : (l : Limits) (es : List PageEvent) (s : State) → IsWithin l s → IsWithin l (step_with l es s)
IsWithin-step_with l (e ∷ rest) s is =
    let own : Option PageEvent = next s.history e in
    IsWithin-event l (first_of own e) (left_behind own e rest s) s _ (performed_or_stopped l own e rest s) is
IsWithin-step_with l [] s is = IsWithin-read l s _ (ReadsOn-with_sprung l s.follows.sprung s refl) is

-- the text of a diversion changes first, if one does
IsWithin-step_behind : (l : Limits) (due : Option TextDue) (s : State) → s.follows.text ≡ due → IsWithin l s
    → IsWithin l (step_behind l due s)
IsWithin-step_behind l None s none is = IsWithin-step_with l s.to_do s is
IsWithin-step_behind l (Some due) s some is = IsWithin-read l s _ (ReadsOn-text l due s some) is

-- a step
pub IsWithin-step : (l : Limits) (s : State) → IsWithin l s → IsWithin l (step l s)
IsWithin-step l s is =
    elim s.ended as (λ o. IsWithin l (elim o [ None ↦ step_behind l s.follows.text s | Some status ↦ s ])) [
      | None ↦ IsWithin-step_behind l s.follows.text s refl is
      | Some status ↦ is
    ]

pub IsWithin-told_step : (l : Limits) (s : State) → IsWithin l s → IsWithin l (told_step l s)
IsWithin-told_step l s is =
    told_step-holds (IsWithin l) l s (IsWithin-step l s is) (λ going. IsWithin-same l s (stopped_by l Messages s) refl refl refl is)

-- so many steps
IsWithin-told_after : (l : Limits) (n : ℕ) (s : State) → IsWithin l s → IsWithin l (told_after l n s)
IsWithin-told_after l zero s is = is
IsWithin-told_after l (suc n) s is = IsWithin-told_after l n (told_step l s) (IsWithin-told_step l s is)

-- behind what is given of the pages no count is above its limit
IsWithin-paged : (l : Limits) (start : Start) (tape : Tape) → IsWithin l (paged_state start tape)
IsWithin-paged l start tape =
    let first : EnvironmentsWithin l first_environments = record { in_force = omega arith; next = omega arith; last = omega arith; left = omega arith } in
    let untrapped : (layout_of (pages_given start)).traps ≡ [] = keeps-given (λ h. (layout_of h).traps ≡ []) (λ first last h is. is) (λ n h is. is) start refl in
    let none : length (written (pages_given start)) ≡ 0 = ap (λ (text : List ℕ). length text) (written-given_pages start) in record {
      bytes = omega arith;
      stack = omega arith;
      depth = omega arith;
      store = omega arith;
      texts = omega arith;
      making = omega arith;
      conditions = omega arith;
      names = omega arith;
      title = omega arith;
      environments = subst (λ (es : Environments). EnvironmentsWithin l es) (sym (environments-given_pages start)) first;
      output = omega (arith, none);
      traps = omega (arith, ap (λ (traps : List Trap). length traps) untrapped);
    }

-- the page's number changes no environment, and nothing is written of it
within_numbered : (l : Limits) (n : Option Num) (h : PageHistory) → EnvironmentsWithin l (environments h) → EnvironmentsWithin l (environments (page_numbered n ++ h))
within_numbered l None h is = is
within_numbered l (Some n) h is = is

-- what puts nothing writes nothing
pub nothing_by_test : (silent : Bool) (offset : ℕ) → (if silent then [] else device_lines offset []) ≡ []
nothing_by_test true offset = refl
nothing_by_test false offset = refl

pub written-numbered : (n : Option Num) (h : PageHistory) → written (page_numbered n ++ h) ≡ written h
written-numbered None h = refl
written-numbered (Some n) h =
    let L : Layout = layout_of h in
    ap (λ (text : List ℕ). written h ++ text) (nothing_by_test (is_diverted (Does (Number n)) L || not L.is_listed) L.offset)
    ∙ append-nil (written h)

traps-numbered : (n : Option Num) (h : PageHistory) → (layout_of (page_numbered n ++ h)).traps ≡ (layout_of h).traps
traps-numbered None h = refl
traps-numbered (Some n) h = refl

-- a register that is given is set, or the limit on names refuses it
IsWithin-given : (l : Limits) (given : ℕ × Num) (s done : State) (r : Option Limit)
    → let behind : State = record s { registers = with_given given s.registers; history = history_given given s.history } in
    first_passed l (names_counted behind.registers) ≡ r → IsWithin l s → (IsWithin l behind → IsWithin l done) → IsWithin l (unless_refused l r s done)
IsWithin-given l given s done None none is others =
    let n : Option Num = number_of_page (given.0 ∷ []) given.1 in
    others (record {
      bytes = is.bytes;
      stack = is.stack;
      depth = is.depth;
      store = is.store;
      texts = is.texts;
      making = is.making;
      conditions = is.conditions;
      names = (counts_within l (names_counted (with_given given s.registers)) none).0;
      title = rw (title-given given s.registers) is.title;
      environments = within_numbered l n s.history is.environments;
      output = rw (written-numbered n s.history) is.output;
      traps = rw (traps-numbered n s.history) is.traps;
    })
IsWithin-given l given s done (Some limit) some is others = IsWithin-same l s (stopped_by l limit s) refl refl refl is

-- and so the others
IsWithin-with_registers : (l : Limits) (given : List (ℕ × Num)) (s : State) → IsWithin l s → IsWithin l (with_registers l given s)
IsWithin-with_registers l [] s is = is
IsWithin-with_registers l (first ∷ others) s is =
    let behind : State = record s { registers = with_given first s.registers; history = history_given first s.history } in
    IsWithin-given l first s (with_registers l others behind) (first_passed l (names_counted behind.registers)) refl is (IsWithin-with_registers l others behind)

-- no run passes a limit
pub IsWithin-initial : (l : Limits) (start : Start) (tape : Tape) → IsWithin l (initial l start tape)
IsWithin-initial l start tape =
    IsWithin-with_registers l start.registers.items (paged_state start tape) (IsWithin-paged l start tape)

pub no_limit_is_passed : NoLimitIsPassed
no_limit_is_passed l start tape n = IsWithin-told_after l n (initial l start tape) (IsWithin-initial l start tape)
