-- Every run comes to an end, and to one alone.
use Rattle.std.proofs.Common.{◌≡◌, inl, inr, ◌≤◌, ◌+◌, ◌*◌, ℕ, zero, suc, Bool, true, false, not, List, [], ◌∷◌, ◌++◌, length, Option, Some, None, refl, sym, ◌∙◌, ap, subst, add_comm, arith, IsSome, map, ◌&&◌}
use Rattle.roff_num.specs.declared.limits.Limits.{Limits}
use Rattle.run_model.specs.declared.status.Status.{Status}
use Rattle.run_model.specs.PageEvents.{PageEvent}
use Rattle.run_model.specs.Results.{turn, turns, last_state}
use Rattle.law_runs.specs.ResultLaws.{EveryRunEnds, StepsLeadToTheLastState, NoOtherStateIsLast}
use Rattle.run_model.specs.Run.{Following, State, ToldLeads, grown, initial, paged_state, performing, sprung_read, text_done, unless_refused, with_registers, with_sprung, step_behind, step_with, step, after, told_after}
use Rattle.input_source.specs.Tape.{Tape}
use Rattle.run_model.specs.TurnsToCome.{left_by, lines_left, most_left, phases_left}
use Rattle.page_model.specs.declared.event.Event.TheVariants.{Print, Tab, FieldEnd, WordEnd, Gap, LineEnd, Count, Break as PageBreak, Interrupt as Interrupted, Resume, Set}
use Rattle.page_model.specs.declared.layout_event.LayoutEvent.TheVariants.{Begin}
use Rattle.roff_num.specs.declared.limit.Limit.{Limit}
use Rattle.roff_num.specs.declared.num.Num.{Num}
use Rattle.run_model.specs.Environments.{Environments, PageHistory, interrupted_line, line_to_go_on}
use Rattle.run_model.specs.declared.event.PageEvent.TheVariants.{Text, Page, Interrupt, Environment, Back, InputTrap as SetsTrap, Title}
use Rattle.run_model.specs.Requests.Effects.{page_numbered}
use Rattle.run_model.specs.Requests.Numbering.{number_of_page}
use Rattle.run_model.specs.Reading.Returns.{back_of}
use Rattle.run_model.specs.Requests.{called_by}
use Rattle.run_model.specs.Springs.{left_of, next, page_begin_or, springs}
use Rattle.run_model.specs.Layouts.{layout_of}
use Rattle.page_model.specs.Queries.{takes_text}
use Rattle.run_model.specs.Titles.{put_back, told}
use Rattle.run_model.specs.declared.request.Called.{Called}
use Rattle.run_model.specs.declared.request.Called.TheVariants.{Request as ARequest, Body as ABody, Nothing as Unknown}
use Rattle.input_model.specs.Input.Calls.{called_text}
use Rattle.input_model.specs.Input.Names.{body_named}
use Rattle.roff_num.specs.ShortNames.{name_bytes}
use Rattle.roff_num.specs.declared.short_name.ShortName.{ShortName}
use Rattle.run_model.specs.Run.Counts.{first_passed, names_counted}
use Rattle.run_model.specs.Starts.{history_given, pages_given, with_given}
use Rattle.run_model.specs.declared.phase.Phase.{Phase}
use Rattle.run_model.specs.declared.phase.Phase.TheVariants.{Reading, LastMacro, Closing}
use Rattle.run_model.specs.declared.start.Start.{Start}
use Rattle.run_model.proofs.GivenPages.{environments-given_pages}
use Rattle.run_model.proofs.KeepingText.{free_ahead-called}
use Rattle.run_model.proofs.Behind.{begun-behind_return}
use Rattle.run_model.proofs.LinesLeft.{lines_left-event, lines_left-few, most_left-fewer}
use Rattle.run_model.proofs.PutBack.{free_ahead-back}
use Rattle.law_runs.proofs.PerformedOrStopped.{left_of-none, PerformedOrStopped, Performed, Sprang, EndsOver, StoppedAt, performed_or_stopped}
use Rattle.run_model.proofs.Readings.{ReadsOn-reading_on}
use Rattle.law_runs.proofs.ComesBefore.{ComesBefore, NothingComes, FieldEndComes, PageComes, WordEndComes, comes_before, steps_in_front}
use Rattle.law_runs.proofs.Told.{ToldOrStopped, AllTold, StopsBefore, nothing_told, told_or_stopped, within-told}
use Rattle.run_model.proofs.Leads.{ToldLeads-refl, ToldLeads-trans, told_after-add}
use Rattle.law_runs.proofs.TurnsNeeded.{EndsWithin, EndsWithin-read, turns_needed, unended-in_sprung}
use Rattle.page_model.specs.DueTexts.{TextDue}
use Rattle.law_runs.proofs.TextsChanged.{text-holds, follows-nothing}
use Rattle.run_model.specs.Following.{following}
use Rattle.law_runs.proofs.StepsBefore.{sprung_steps-few, steps_before-few, steps_of, steps_of-few, text_steps, text_steps-few}
pub use Rattle.law_runs.proofs.Ended.{after-ended, ended_or_not, not-ended, step-ended, step-going, told_after-ended}

-- a step that read nothing leaves fewer before one that does, and as many turns are enough
record IsNearer (l : Limits) (s t : State) : Type 0 where
  steps : steps_of t + 1 ≤ steps_of s
  turns : turns_needed l t ≤ turns_needed l s

-- what a step came to: the run ended, or what was read left so many turns, or nothing was read
data Stepped (l : Limits) (n : ℕ) (s t : State) : Type 0 where
  HasEnded : IsSome t.ended → Stepped l n s t
  HasRead : turns_needed l t ≤ n → Stepped l n s t
  HasNeared : IsNearer l s t → Stepped l n s t

-- an event is performed, and nothing comes before it
event-nearer : (l : Limits) (n : ℕ) (e : PageEvent) (es left : List PageEvent) (s t : State) → s.to_do ≡ e ∷ es
    → (springs s.history (told s.registers e) ≡ None → left ≡ es) → PerformedOrStopped l e left s t → Stepped l n s t
event-nearer l n e es left s t to_do same (Performed allowed on none) =
    let others : left ≡ es = same none in
    let h : PageHistory = told s.registers e ∷ s.history in
    let lines = lines_left-event s.registers e s.history in
    let before : ℕ = lines_left (interrupted_line s.history) in
    let fewer = most_left-fewer es (lines_left (interrupted_line h)) (left_by e before) lines in
    let f : Following = following s.history (told s.registers e) in
    HasNeared (record {
      steps = rw (to_do, others) (omega (arith, text_steps-few f.text, steps_before-few es f.sprung h));
      turns = rw (to_do, others) (omega (arith, fewer));
    })
event-nearer l n e es left s t to_do same (Sprang name allowed on some) =
    let lines = lines_left-event s.registers e s.history in
    let f : Following = following s.history (told s.registers e) in
    HasNeared (record {
      steps = rw to_do (omega (arith, text_steps-few f.text, sprung_steps-few f.sprung));
      turns = rw to_do (omega (arith, lines, free_ahead-back (map put_back left) s.input.ahead));
    })
event-nearer l n e es left s t to_do same (EndsOver allowed over) = HasEnded refl
event-nearer l n e es left s t to_do same (StoppedAt limit) = HasEnded refl

-- nothing comes before the event with which a line goes on
none-resumes : (takes : Bool) (own : PageEvent) → page_begin_or (not takes && false) None ≡ Some own → ⊥
none-resumes true own is = absurd (cc)
none-resumes false own is = absurd (cc)

-- so no event before which something comes ends an interrupted line
lines-stay : (h : PageHistory) (e own : PageEvent) (lines : ℕ) → next h e ≡ Some own → lines ≤ 1 → lines ≤ left_by e lines
lines-stay h (Text Resume) own lines is few = absurd (none-resumes (takes_text (layout_of h)) own is)
lines-stay h (Text (Print glyph)) own lines is few = omega arith
lines-stay h (Text Tab) own lines is few = omega arith
lines-stay h (Text FieldEnd) own lines is few = omega arith
lines-stay h (Text WordEnd) own lines is few = omega arith
lines-stay h (Text (Gap columns)) own lines is few = omega arith
lines-stay h (Text LineEnd) own lines is few = omega arith
lines-stay h (Text Count) own lines is few = omega arith
lines-stay h (Text PageBreak) own lines is few = omega arith
lines-stay h (Text Interrupted) own lines is few = few
lines-stay h (Text (Set param)) own lines is few = omega arith
lines-stay h (Page e) own lines is few = omega arith
lines-stay h (Interrupt untold) own lines is few = few
lines-stay h (Environment number) own lines is few = few
lines-stay h Back own lines is few = few
lines-stay h (SetsTrap trap) own lines is few = omega arith
lines-stay h (Title which) own lines is few = omega arith

-- something is performed that comes before it
own-nearer : (l : Limits) (n : ℕ) (own e : PageEvent) (es : List PageEvent) (s t : State) → s.to_do ≡ e ∷ es
    → lines_left (interrupted_line (told s.registers own ∷ s.history)) ≤ lines_left (interrupted_line s.history)
    → lines_left (interrupted_line s.history) ≤ left_by e (lines_left (interrupted_line s.history))
    → text_steps (following s.history (told s.registers own)).text + steps_in_front
    (told s.registers own ∷ s.history) e + 1 ≤ steps_in_front s.history e
    → PerformedOrStopped l own (e ∷ es) s t → Stepped l n s t
own-nearer l n own e es s t to_do lines stay near (Performed allowed on unsprung) =
    let h : PageHistory = told s.registers own ∷ s.history in
    let fewer = most_left-fewer (e ∷ es) (lines_left (interrupted_line h)) (lines_left (interrupted_line s.history)) lines in
    HasNeared (record {
      steps = rw to_do (omega (arith, near));
      turns = rw to_do (omega (arith, fewer));
    })
own-nearer l n own e es s t to_do lines stay near (Sprang name allowed on some) =
    let f : Following = following s.history (told s.registers own) in
    HasNeared (record {
      steps = rw to_do (omega (arith, text_steps-few f.text, sprung_steps-few f.sprung));
      turns = rw to_do (omega (arith, lines, stay, free_ahead-back (map put_back (e ∷ es)) s.input.ahead));
    })
own-nearer l n own e es s t to_do lines stay near (EndsOver allowed over) = HasEnded refl
own-nearer l n own e es s t to_do lines stay near (StoppedAt limit) = HasEnded refl

-- by what comes before it
performing-nearer : (l : Limits) (n : ℕ) (e : PageEvent) (es : List PageEvent) (s : State) (own : Option PageEvent) → s.to_do ≡ e ∷ es
    → next s.history e ≡ own → ComesBefore s.history e own → Stepped l n s (performing l own e es s)
performing-nearer l n e es s own to_do is (NothingComes none_begins) =
    event-nearer l n e es (left_of s.history (told s.registers e) ++ es) s _ to_do
    (λ none. ap (λ (front : List PageEvent). front ++ es) (left_of-none s.registers e s.history none)) (performed_or_stopped l None e es s)
performing-nearer l n e es s own to_do is (FieldEndComes ends none_begins near) =
    let none : text_steps (following s.history (told s.registers (Text FieldEnd))).text ≡ 0 = refl in
    own-nearer l n (Text FieldEnd) e es s _ to_do (lines_left-event s.registers (Text FieldEnd) s.history)
    (lines-stay s.history e (Text FieldEnd) (lines_left (interrupted_line s.history)) is (lines_left-few (interrupted_line s.history)))
    (omega (arith, near, none))
    (performed_or_stopped l (Some (Text FieldEnd)) e es s)
performing-nearer l n e es s own to_do is (WordEndComes none_begins near) =
    own-nearer l n (Text WordEnd) e es s _ to_do (lines_left-event s.registers (Text WordEnd) s.history)
    (lines-stay s.history e (Text WordEnd) (lines_left (interrupted_line s.history)) is (lines_left-few (interrupted_line s.history)))
    (omega (arith, near, text_steps-few (following s.history (told s.registers (Text WordEnd))).text))
    (performed_or_stopped l (Some (Text WordEnd)) e es s)
performing-nearer l n e es s own to_do is (PageComes none_begun near) =
    let none : text_steps (following s.history (told s.registers (Page Begin))).text ≡ 0 = refl in
    own-nearer l n (Page Begin) e es s _ to_do (lines_left-event s.registers (Page Begin) s.history)
    (lines-stay s.history e (Page Begin) (lines_left (interrupted_line s.history)) is (lines_left-few (interrupted_line s.history)))
    (omega (arith, near, none))
    (performed_or_stopped l (Some (Page Begin)) e es s)

-- a macro that sprang is put in front
sprung-nearer : (l : Limits) (called : Called) (name : ShortName) (s : State) → s.to_do ≡ [] → s.follows.sprung ≡ Some name
    → IsNearer l s (sprung_read called s)
sprung-nearer l (ABody body) name s to_do sprung =
    let text : List ℕ = called_text (body_named (name_bytes body) s.input) in record {
      steps = rw (to_do, sprung) (omega arith);
      turns = omega (arith, free_ahead-called text (back_of s.reading) s.input.ahead, begun-behind_return 0 s.reading, unended-in_sprung s.reading);
    }
sprung-nearer l (ARequest request) name s to_do sprung = record { steps = rw (to_do, sprung) (omega arith); turns = omega arith }
sprung-nearer l Unknown name s to_do sprung = record { steps = rw (to_do, sprung) (omega arith); turns = omega arith }

-- unless a limit refuses it
Stepped-unless_refused : (l : Limits) (n : ℕ) (r : Option Limit) (s done : State) → Stepped l n s done → Stepped l n s (unless_refused l r s done)
Stepped-unless_refused l n None s done stepped = stepped
Stepped-unless_refused l n (Some limit) s done stepped = HasEnded refl

-- what was read, or how the run ended
Stepped-within : (l : Limits) (n : ℕ) (s t : State) → EndsWithin l n t → Stepped l n s t
Stepped-within l n s t (inl ended) = HasEnded ended
Stepped-within l n s t (inr enough) = HasRead enough

-- one with nothing to do
Stepped-with_sprung : (l : Limits) (n : ℕ) (s : State) (sprung : Option ShortName) → s.to_do ≡ [] → s.follows.text ≡ None
    → s.follows.sprung ≡ sprung
    → turns_needed l s ≤ suc n
    → Stepped l n s (with_sprung l sprung s)
Stepped-with_sprung l n s None to_do none is enough =
    Stepped-within l n s _ (EndsWithin-read l n s _ (ReadsOn-reading_on l s) to_do (follows-nothing s.follows none is) enough)
Stepped-with_sprung l n s (Some name) to_do none is enough =
    let called : Called = called_by name s.input.names in
    Stepped-unless_refused l n (first_passed l (grown (sprung_read called s))) s _ (HasNeared (sprung-nearer l called name s to_do is))

-- one of a run that hasn't ended
Stepped-step_with : (l : Limits) (n : ℕ) (s : State) (es : List PageEvent) → s.to_do ≡ es → s.follows.text ≡ None → turns_needed l s ≤ suc n
    → Stepped l n s (step_with l es s)
Stepped-step_with l n s [] to_do none enough = Stepped-with_sprung l n s s.follows.sprung to_do none refl enough
Stepped-step_with l n s (e ∷ es) to_do none enough =
    performing-nearer l n e es s (next s.history e) to_do refl (comes_before s.history e)

-- a text that has changed is nearer
text-nearer : (l : Limits) (due : TextDue) (s : State) → s.follows.text ≡ Some due → IsNearer l s (text_done due s)
text-nearer l due s is =
    text-holds (λ (t : State). IsNearer l s t) due s (λ names texts. record { steps = rw is (omega arith); turns = omega arith })

Stepped-step_behind : (l : Limits) (n : ℕ) (s : State) (text : Option TextDue) → s.follows.text ≡ text → turns_needed l s ≤ suc n
    → Stepped l n s (step_behind l text s)
Stepped-step_behind l n s None none enough = Stepped-step_with l n s s.to_do refl none enough
Stepped-step_behind l n s (Some due) is enough =
    Stepped-unless_refused l n (first_passed l (grown (text_done due s))) s _ (HasNeared (text-nearer l due s is))

-- a step
Stepped-step : (l : Limits) (n : ℕ) (s : State) → turns_needed l s ≤ suc n → Stepped l n s (step l s)
Stepped-step l n s enough =
    elim (ended_or_not s.ended) [
      | inl ended ↦ HasEnded (rw (step-ended l s ended) ended)
      | inr going ↦ subst (λ (t : State). Stepped l n s t) (sym (step-going l s going))
          (Stepped-step_behind l n s s.follows.text refl enough)
    ]

-- some phase is left
pub some_phase : (phase : Phase) → 1 ≤ phases_left phase
some_phase Reading = omega arith
some_phase LastMacro = omega arith
some_phase Closing = omega arith

-- so many turns are enough behind a step
still_within : (l : Limits) (n : ℕ) (s t : State) → turns_needed l s ≤ suc n → Stepped l n s t → EndsWithin l (suc n) t
still_within l n s t enough (HasEnded ended) = inl ended
still_within l n s t enough (HasRead few) = inr (omega (arith, few))
still_within l n s t enough (HasNeared near) = inr (omega (arith, near.turns, enough))

pub EndsWithin-step : (l : Limits) (n : ℕ) (s : State) → turns_needed l s ≤ suc n → EndsWithin l (suc n) (step l s)
EndsWithin-step l n s enough = still_within l n s (step l s) enough (Stepped-step l n s enough)

-- and behind several
EndsWithin-after : (l : Limits) (m n : ℕ) (s : State) → EndsWithin l n s → EndsWithin l n (after l m s)
EndsWithin-after l zero n s ends = ends
EndsWithin-after l (suc m) n s (inl ended) = inl (rw (after-ended l (suc m) s ended) ended)
EndsWithin-after l (suc m) zero s (inr enough) = let some = some_phase s.phase in absurd (omega (arith, enough, some))
EndsWithin-after l (suc m) (suc n) s (inr enough) =
    EndsWithin-after l m (suc n) (step l s) (EndsWithin-step l n s enough)

-- behind a step that read something, or with which the run ended, one turn fewer is enough; behind another one there are fewer steps
-- before that
steps_on : (l : Limits) (k n : ℕ) (s t : State) → steps_of s ≤ suc k → turns_needed l s ≤ suc n → Stepped l n s t
    → (steps_of t ≤ k → turns_needed l t ≤ suc n → EndsWithin l n (after l (suc k) t)) → EndsWithin l n (after l (suc k) t)
steps_on l k n s t few enough (HasEnded ended) others = EndsWithin-after l (suc k) n t (inl ended)
steps_on l k n s t few enough (HasRead read) others = EndsWithin-after l (suc k) n t (inr read)
steps_on l k n s t few enough (HasNeared near) others = others (omega (arith, near.steps, few)) (omega (arith, near.turns, enough))

-- with no step before that it is this one
last_step : (l : Limits) (n : ℕ) (s t : State) → steps_of s ≤ 0 → Stepped l n s t → EndsWithin l n t
last_step l n s t none (HasEnded ended) = inl ended
last_step l n s t none (HasRead read) = inr read
last_step l n s t none (HasNeared near) = absurd (omega (arith, near.steps, none))

-- in as many steps as there are before something is read, and one more, a turn is taken
EndsWithin-steps : (l : Limits) (k n : ℕ) (s : State) → steps_of s ≤ k → turns_needed l s ≤ suc n → EndsWithin l n (after l (suc k) s)
EndsWithin-steps l zero n s few enough = last_step l n s (step l s) few (Stepped-step l n s enough)
EndsWithin-steps l (suc k) n s few enough =
    steps_on l k n s (step l s) few enough (Stepped-step l n s enough) (EndsWithin-steps l k n (step l s))

-- a turn is so many steps whose messages are bounded
turn-told_after : (l : Limits) (s : State) → turn l s ≡ told_after l (suc (6 * length s.to_do + 2)) s
turn-told_after l s =
    let k : ℕ = 6 * length s.to_do + 2 in
    let more : k + 1 ≡ suc k = omega arith in
    sym (told_after-add l k 1 s) ∙ ap (λ (n : ℕ). told_after l n s) more

-- so many turns are enough behind these, if they are without the bound
EndsWithin-told : (l : Limits) (n k : ℕ) (s t : State) → ToldOrStopped l k s t → EndsWithin l n (after l k s) → EndsWithin l n t
EndsWithin-told l n k s t (AllTold within) ends = ends
EndsWithin-told l n k s t (StopsBefore m few going within beyond) ends = inl refl

-- a turn leaves one fewer
EndsWithin-turn : (l : Limits) (n : ℕ) (s : State) → length s.messages ≤ l.messages → EndsWithin l (suc n) s → EndsWithin l n (turn l s)
EndsWithin-turn l n s within (inl ended) =
    let stays : turn l s ≡ s = turn-told_after l s ∙ told_after-ended l (suc (6 * length s.to_do + 2)) s ended in
    inl (subst (λ (t : State). IsSome t.ended) (sym stays) ended)
EndsWithin-turn l n s within (inr enough) =
    let k : ℕ = 6 * length s.to_do + 2 in
    let few : steps_of s ≤ k = steps_of-few s in
    subst (λ (t : State). EndsWithin l n t) (sym (turn-told_after l s))
    (EndsWithin-told l n (suc k) s _ (told_or_stopped l (suc k) s within) (EndsWithin-steps l k n s few enough))

-- and its messages stay within the limit
messages-turn : (l : Limits) (s : State) → length s.messages ≤ l.messages → length (turn l s).messages ≤ l.messages
messages-turn l s within =
    let k : ℕ = suc (6 * length s.to_do + 2) in
    subst (λ (t : State). length t.messages ≤ l.messages) (sym (turn-told_after l s)) (within-told l k s _ (told_or_stopped l k s within))

-- turns of a run that has ended
turns-ended : (l : Limits) (n : ℕ) (s : State) → IsSome s.ended → turns l n s ≡ s
turns-ended l zero s ended = refl
turns-ended l (suc n) s ended =
    elim s.ended as (λ o. IsSome o → elim o [ None ↦ turns l n (turn l s) | Some status ↦ s ] ≡ s) [
      | None ↦ λ none. absurd (cc)
      | Some status ↦ λ some. refl
    ] ended

-- and of one that hasn't
turns-going : (l : Limits) (n : ℕ) (s : State) → s.ended ≡ None → turns l (suc n) s ≡ turns l n (turn l s)
turns-going l n s going = ap (λ (o : Option Status). elim o as (λ _. State) [ None ↦ turns l n (turn l s) | Some status ↦ s ]) going

-- with none left the run has ended
ended-turns : (l : Limits) (n : ℕ) (s : State) → length s.messages ≤ l.messages → EndsWithin l n s → IsSome (turns l n s).ended
ended-turns l zero s within (inl ended) = ended
ended-turns l zero s within (inr enough) = let some = some_phase s.phase in absurd (omega (arith, enough, some))
ended-turns l (suc n) s within ends =
    let Goal : State → Type 0 = λ t. IsSome t.ended in
    elim (ended_or_not s.ended) [
      | inl ended ↦ subst Goal (sym (turns-ended l (suc n) s ended)) ended
      | inr going ↦
          subst Goal (sym (turns-going l n s going)) (ended-turns l n (turn l s) (messages-turn l s within) (EndsWithin-turn l n s within ends))
    ]

-- registers that are given take no turn
EndsWithin-unless_refused : (l : Limits) (n : ℕ) (r : Option Limit) (s done : State) → EndsWithin l n done → EndsWithin l n (unless_refused l r s done)
EndsWithin-unless_refused l n None s done ends = ends
EndsWithin-unless_refused l n (Some limit) s done ends = inl refl

-- the page's number leaves an interrupted line
lines-numbered : (n : Option Num) (h : PageHistory) → interrupted_line (page_numbered n ++ h) ≡ interrupted_line h
lines-numbered None h = refl
lines-numbered (Some n) h = refl

EndsWithin-with_registers : (l : Limits) (given : List (ℕ × Num)) (n : ℕ) (s : State) → turns_needed l s ≤ n → EndsWithin l n (with_registers l given s)
EndsWithin-with_registers l [] n s enough = inr enough
EndsWithin-with_registers l (first ∷ others) n s enough =
    let behind : State = record s { registers = with_given first s.registers; history = history_given first s.history } in
    let same = ap (λ left. most_left s.to_do (lines_left left)) (lines-numbered (number_of_page (first.0 ∷ []) first.1) s.history) in
    EndsWithin-unless_refused l n (first_passed l (names_counted behind.registers)) s _
    (EndsWithin-with_registers l others n behind (omega (arith, enough, same)))

-- so many turns are enough for a run that begins
pub EndsWithin-initial : (l : Limits) (start : Start) (tape : Tape) → EndsWithin l (4 * (5 * l.bytes + length tape.items) + 5) (initial l start tape)
EndsWithin-initial l start tape =
    let none : lines_left (interrupted_line (pages_given start)) ≡ 0 =
    ap (λ (es : Environments). lines_left (line_to_go_on es.in_force)) (environments-given_pages start) in
    EndsWithin-with_registers l start.registers.items (4 * (5 * l.bytes + length tape.items) + 5) (paged_state start tape) (omega (arith, none))

-- every run ends
pub every_run_ends : EveryRunEnds
every_run_ends l start tape =
    ended-turns l (4 * (5 * l.bytes + length tape.items) + 5) (initial l start tape) (nothing_told l start tape) (EndsWithin-initial l start tape)

-- turns are steps
ToldLeads-turns : (l : Limits) (n : ℕ) (s : State) → ToldLeads l s (turns l n s)
ToldLeads-turns l zero s = ToldLeads-refl l s
ToldLeads-turns l (suc n) s =
    let Goal : State → Type 0 = λ t. ToldLeads l s t in
    let to_turn : ToldLeads l s (turn l s) = record { steps = suc (6 * length s.to_do + 2); there = sym (turn-told_after l s) } in
    elim (ended_or_not s.ended) [
      | inl ended ↦ subst Goal (sym (turns-ended l (suc n) s ended)) (ToldLeads-refl l s)
      | inr going ↦
          subst Goal (sym (turns-going l n s going)) (ToldLeads-trans l s (turn l s) (turns l n (turn l s)) to_turn (ToldLeads-turns l n (turn l s)))
    ]

-- steps lead to the last state
pub steps_lead_to_the_last_state : StepsLeadToTheLastState
steps_lead_to_the_last_state l start tape = ToldLeads-turns l (4 * (5 * l.bytes + length tape.items) + 5) (initial l start tape)

-- what holds behind each number of steps holds of the last state
pub at_last_state : (P : State → Type 0) (l : Limits) (start : Start) (tape : Tape) → ((n : ℕ) → P (told_after l n (initial l start tape))) → P (last_state l start tape)
at_last_state P l start tape holds =
    let leads = steps_lead_to_the_last_state l start tape in
    subst P leads.there (holds leads.steps)

-- a run has ended behind more steps than it takes
pub told_after-more : (l : Limits) (start : Start) (t : Tape) (more : ℕ)
    → told_after l ((steps_lead_to_the_last_state l start t).steps + more) (initial l start t) ≡ last_state l start t
told_after-more l start t more =
    let leads = steps_lead_to_the_last_state l start t in
    told_after-add l leads.steps more (initial l start t) ∙ ap (told_after l more) leads.there
    ∙ told_after-ended l more (last_state l start t) (every_run_ends l start t)

-- of two states that have ended, to which steps lead, the second is the first
same_end : (l : Limits) (s t u : State) → ToldLeads l s t → ToldLeads l s u → IsSome t.ended → IsSome u.ended → t ≡ u
same_end l s t u to_t to_u t_ended u_ended =
    let through_t : told_after l (to_t.steps + to_u.steps) s ≡ t =
    told_after-add l to_t.steps to_u.steps s ∙ ap (told_after l to_u.steps) to_t.there ∙ told_after-ended l to_u.steps t t_ended in
    let through_u : told_after l (to_u.steps + to_t.steps) s ≡ u =
    told_after-add l to_u.steps to_t.steps s ∙ ap (told_after l to_t.steps) to_u.there ∙ told_after-ended l to_t.steps u u_ended in
    sym through_t ∙ ap (λ n. told_after l n s) (add_comm to_t.steps to_u.steps) ∙ through_u

-- they lead to no other one that has ended
pub no_other_state_is_last : NoOtherStateIsLast
no_other_state_is_last l start tape s leads ended =
    same_end l (initial l start tape) s (last_state l start tape) leads (steps_lead_to_the_last_state l start tape) ended (every_run_ends l start tape)
