-- A macro that sprang is read up to its end.
use Rattle.std.proofs.Common.{◌≡◌, ◌⊎◌, inl, inr, ℕ, zero, suc, List, [], ◌∷◌, ◌++◌, Option, Some, None, refl, sym, ◌∙◌, ap, subst, map, IsSome}
use Rattle.roff_num.specs.ShortNames.{name_bytes}
use Rattle.roff_num.specs.declared.limits.Limits.{Limits}
use Rattle.roff_num.specs.declared.limit.Limit.{Limit}
use Rattle.roff_num.specs.declared.short_name.ShortName.{ShortName}
use Rattle.page_model.specs.DueTexts.{TextDue}
use Rattle.input_model.specs.Input.{Ahead, ReturnAhead, ByteAhead}
use Rattle.input_model.specs.Input.Calls.{called_text}
use Rattle.input_model.specs.Input.Names.{body_named}
use Rattle.run_model.specs.PageEvents.{PageEvent}
use Rattle.run_model.specs.Reading.Returns.{back_of, behind_return, gone_back_to}
use Rattle.run_model.specs.Requests.{called_by}
use Rattle.run_model.specs.Run.{Leads, State, only_sprung, after, made, step, step_behind, step_with, stopped_by, grown, sprung_read, text_done, unless_refused}
use Rattle.run_model.specs.Springs.{next}
use Rattle.run_model.specs.declared.line_state.LineState.{LineState}
use Rattle.run_model.specs.declared.line_state.LineState.TheVariants.{LineStart, Branch, Braced, Text as InText, Control, Name, Deciding, Skipping, Dropped, Told, Exiting, TitleFront, Title as InTitle, Collecting}
use Rattle.run_model.specs.declared.request.Called.TheVariants.{Body as ABody}
use Rattle.run_model.specs.Run.Counts.{first_passed}
use Rattle.run_model.proofs.Leads.{Leads-refl, Leads-step, Leads-to, after-add}
use Rattle.run_model.proofs.Readings.{ReadsOn-text, ReadsOn-with_sprung}
use Rattle.law_runs.specs.SpringLaws.{IsAllowedText, Springs, before_macro, input_with, steps_to_macro, text_with, with_rest_back}
use Rattle.law_runs.proofs.Endings.{ended_or_not, step-ended, step-going}
use Rattle.law_runs.proofs.PerformedOrStopped.{first_of, left_behind, performed_or_stopped}
use Rattle.law_runs.proofs.SpringLaws.{gone_back, macros_are_read_first, springing, springing-step}
use Rattle.law_runs.proofs.TextsChanged.{text-holds}
use Rattle.law_escapes.specs.MacroEnds.{EndTaken, HasBeenRead, InputLeft, IsRead, MacrosAreReadToTheirEnd, MacrosBeginALine, ReadsNoControlLine, RunEnded}
use Rattle.law_escapes.proofs.StandsAhead.{EndWith, Ends, IsLost, IsTaken, Stands, StandsOrTaken, stands-performed, stands-read}

-- where no control line is being read, what the end leads back to is read
back_there : (code : ℕ) (reading : LineState) → ReadsNoControlLine reading → behind_return code reading ≡ gone_back_to code
back_there code LineStart none = refl
back_there code Branch none = refl
back_there code Braced none = refl
back_there code (InText line) none = refl
back_there code (Control breaks) none = absurd none
back_there code (Name breaks first) none = absurd none
back_there code (Collecting purpose) none = absurd none
back_there code (Deciding keeps) none = absurd none
back_there code (Skipping opened closed behind) none = absurd none
back_there code Dropped none = absurd none
back_there code (Told aborts) none = absurd none
back_there code Exiting none = absurd none
back_there code TitleFront none = absurd none
back_there code (InTitle delimiter) none = absurd none

-- something is read while the end stands ahead
read-on : (l : Limits) (from : State) (reading : LineState) (behind : List (Ahead PageEvent)) (s t : State) → Leads l from s → step l s ≡ t
    → StandsOrTaken (ReturnAhead (back_of reading)) behind s t → HasBeenRead l from reading behind t
read-on l from reading behind s t leads goes (Stands ends) = IsRead ends.front ends.is
read-on l from reading behind s t leads goes (IsTaken ahead is) =
    let there = goes ∙ is in
    EndTaken s leads (record {
      stands = ahead;
      input = ap (λ (u : State). u.input) there;
      goes_on = λ may none. ap (λ (u : State). u.reading) there ∙ (back_there (back_of reading) s.reading none ∙ gone_back reading may);
    }) (subst (λ (u : State). Leads l u t) (sym goes) (Leads-refl l t))
read-on l from reading behind s t leads goes (Ends ended) = RunEnded ended
read-on l from reading behind s t leads goes (IsLost leaves reads) =
    InputLeft s leads (record { read = leaves; reads = reads }) (Leads-to l s s t (Leads-refl l s) goes)

-- and something is done
read-step_with : (l : Limits) (from : State) (reading : LineState) (behind : List (Ahead PageEvent)) (es : List PageEvent) (s : State)
    → Leads l from s → step l s ≡ step_with l es s → EndWith (ReturnAhead (back_of reading)) behind s.input.ahead
    → HasBeenRead l from reading behind (step_with l es s)
read-step_with l from reading behind (x ∷ es) s leads goes ends =
    let own : Option PageEvent = next s.history x in
    let done = performed_or_stopped l own x es s in
    elim (stands-performed (ReturnAhead (back_of reading)) behind l (first_of own x) (left_behind own x es s) s _ done ends) [
      | inl ended ↦ RunEnded ended
      | inr still ↦ IsRead still.front still.is
    ]
read-step_with l from reading behind [] s leads goes ends =
    read-on l from reading behind s _ leads goes (stands-read (ReturnAhead (back_of reading)) behind l s _ (ReadsOn-with_sprung l s.follows.sprung s refl) ends)

-- or the text of a diversion changes
read-step_behind : (l : Limits) (from : State) (reading : LineState) (behind : List (Ahead PageEvent)) (due : Option TextDue) (s : State)
    → Leads l from s → s.follows.text ≡ due → step l s ≡ step_behind l due s → EndWith (ReturnAhead (back_of reading)) behind s.input.ahead
    → HasBeenRead l from reading behind (step_behind l due s)
read-step_behind l from reading behind None s leads is goes ends = read-step_with l from reading behind s.to_do s leads goes ends
read-step_behind l from reading behind (Some due) s leads is goes ends =
    read-on l from reading behind s _ leads goes (stands-read (ReturnAhead (back_of reading)) behind l s _ (ReadsOn-text l due s is) ends)

read-step : (l : Limits) (from : State) (reading : LineState) (behind : List (Ahead PageEvent)) (s : State) → Leads l from s
    → HasBeenRead l from reading behind s → HasBeenRead l from reading behind (step l s)
read-step l from reading behind s leads (IsRead front is) = elim (ended_or_not s.ended) [
  | inl ended ↦ subst (HasBeenRead l from reading behind) (sym (step-ended l s ended)) (RunEnded ended)
  | inr going ↦
      subst (HasBeenRead l from reading behind) (sym (step-going l s going))
      (read-step_behind l from reading behind s.follows.text s leads refl (step-going l s going) (record { front = front; is = is }))
]
read-step l from reading behind s leads (EndTaken at to_it takes behind_it) = EndTaken at to_it takes (Leads-step l (step l at) s behind_it)
read-step l from reading behind s leads (RunEnded ended) = subst (HasBeenRead l from reading behind) (sym (step-ended l s ended)) (RunEnded ended)
read-step l from reading behind s leads (InputLeft at to_it leaves behind_it) = InputLeft at to_it leaves (Leads-step l at s behind_it)

read-after : (l : Limits) (from : State) (reading : LineState) (behind : List (Ahead PageEvent)) (n : ℕ) (s : State) → Leads l from s
    → HasBeenRead l from reading behind s → HasBeenRead l from reading behind (after l n s)
read-after l from reading behind zero s leads read = read
read-after l from reading behind (suc n) s leads read =
    read-after l from reading behind n (step l s) (Leads-step l from s leads) (read-step l from reading behind s leads read)

-- it begins so, unless a limit stops the run
begun : (l : Limits) (from : State) (reading : LineState) (behind : List (Ahead PageEvent)) (r : Option Limit) (before done : State)
    → HasBeenRead l from reading behind done → HasBeenRead l from reading behind (unless_refused l r before done)
begun l from reading behind None before done read = read
begun l from reading behind (Some limit) before done read = RunEnded refl

-- the texts of diversions change nothing that stands ahead
ahead-with : (text : Option TextDue) (s : State) → (input_with text s.input).ahead ≡ s.input.ahead
ahead-with None s = refl
ahead-with (Some due) s = text-holds (λ (u : State). u.input.ahead ≡ s.input.ahead) due s (λ names texts. refl)

-- no limit refuses the change of a text behind the event, or the run has ended where the macro would be read
allowed_or_ended : (l : Limits) (text : Option TextDue) (name : ShortName) (s : State) → s.ended ≡ None
    → IsAllowedText l text (record s { follows = only_sprung (Some name); input = input_with text s.input })
    ⊎ IsSome (after l (steps_to_macro text) (springing text name s)).ended
allowed_or_ended l None name s going = inl tt
allowed_or_ended l (Some due) name s going =
    let first : State = springing (Some due) name s in
    let done : State = text_done due first in
    let goes : step l first ≡ made l first done = step-going l first going in
    by_refusal first done (first_passed l (grown done)) refl goes
  where
    by_refusal : (first done : State) (r : Option Limit) → first_passed l (grown done) ≡ r
        → step l first ≡ unless_refused l (first_passed l (grown done)) first done
        → (first_passed l (grown done) ≡ None) ⊎ IsSome (step l (step l first)).ended
    by_refusal first done None is goes = inl is
    by_refusal first done (Some limit) is goes =
        let stopped : State = stopped_by l limit first in
        let there : step l first ≡ stopped = goes ∙ ap (λ (r : Option Limit). unless_refused l r first done) is in
        inr (subst (λ (t : State). IsSome (step l t).ended) (sym there)
        (subst (λ (t : State). IsSome t.ended) (sym (step-ended l stopped refl)) refl))

-- so it is of the run from the event
reads_or_ended : (l : Limits) (s : State) (e : PageEvent) (rest : List PageEvent) (name : ShortName) → Springs l s e rest name
    → IsAllowedText l (text_with e s) (before_macro e rest name s) ⊎ IsSome (after l (suc (steps_to_macro (text_with e s))) s).ended
reads_or_ended l s e rest name springs =
    elim (allowed_or_ended l (text_with e s) name (with_rest_back e rest s) springs.going) [
      | inl allowed ↦ inl allowed
      | inr ended ↦
          inr (subst (λ (t : State). IsSome (after l (steps_to_macro (text_with e s)) t).ended)
          (sym (springing-step l s e rest name springs)) ended)
    ]

-- the state in which its first byte is read next
abbrev body_first : PageEvent → List PageEvent → ShortName → State → State
body_first e rest name s = sprung_read (ABody name) (before_macro e rest name s)

-- where it was put in front
put_in_front : (l : Limits) (s : State) (e : PageEvent) (rest : List PageEvent) (name : ShortName) → Springs l s e rest name
    → called_by name (before_macro e rest name s).input.names ≡ ABody name
    → HasBeenRead l s s.reading (with_rest_back e rest s).input.ahead (after l (suc (steps_to_macro (text_with e s))) s)
put_in_front l s e rest name springs is =
    let items : List (Ahead PageEvent) = (with_rest_back e rest s).input.ahead in
    let before : State = before_macro e rest name s in
    let done : State = body_first e rest name s in
    let body : List (Ahead PageEvent) = map ByteAhead (called_text (body_named (name_bytes name) before.input)) in
    let same : before.input.ahead ≡ items = ahead-with (text_with e s) (with_rest_back e rest s) in
    elim (reads_or_ended l s e rest name springs) [
      | inl allowed ↦
          subst (HasBeenRead l s s.reading items) (sym (macros_are_read_first l s e rest name springs allowed is))
          (begun l s s.reading items (first_passed l (grown done)) before done
          (IsRead body (ap (λ (xs : List (Ahead PageEvent)). body ++ ReturnAhead (back_of s.reading) ∷ xs) same)))
      | inr ended ↦ RunEnded ended
    ]

pub macros_are_read_to_their_end : MacrosAreReadToTheirEnd
macros_are_read_to_their_end l s e rest name n springs is =
    let steps : ℕ = suc (steps_to_macro (text_with e s)) in
    let items : List (Ahead PageEvent) = (with_rest_back e rest s).input.ahead in
    subst (HasBeenRead l s s.reading items) (sym (after-add l steps n s))
    (read-after l s s.reading items n (after l steps s) (record { steps = steps; there = refl }) (put_in_front l s e rest name springs is))

-- so a line begins
begins_line : (l : Limits) (r : Option Limit) (before done : State) → done.reading ≡ LineStart
    → IsSome (unless_refused l r before done).ended ⊎ ((unless_refused l r before done).reading ≡ LineStart)
begins_line l None before done is = inr is
begins_line l (Some limit) before done is = inl refl

pub macros_begin_a_line : MacrosBeginALine
macros_begin_a_line l s e rest name springs is none =
    let before : State = before_macro e rest name s in
    let done : State = body_first e rest name s in
    elim (reads_or_ended l s e rest name springs) [
      | inl allowed ↦
          subst (λ (t : State). IsSome t.ended ⊎ (t.reading ≡ LineStart)) (sym (macros_are_read_first l s e rest name springs allowed is))
          (begins_line l (first_passed l (grown done)) before done (back_there 0 s.reading none))
      | inr ended ↦ inl ended
    ]
