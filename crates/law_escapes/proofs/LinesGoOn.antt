-- A line that a macro interrupted between two words goes on with another word.
use Rattle.std.proofs.Common.{◌≡◌, inl, inr, ℕ, zero, suc, false, List, [], ◌∷◌, Option, Some, None, refl, sym, ◌∙◌, ap, subst}
use Rattle.roff_num.specs.declared.limit.Limit.{Limit}
use Rattle.roff_num.specs.declared.limits.Limits.{Limits}
use Rattle.input_model.specs.Input.{Ahead, DoAhead, item_taken}
use Rattle.page_model.specs.Behind.{has_open_word as has_word_to_end}
use Rattle.page_model.specs.DueTexts.{TextDue}
use Rattle.page_model.specs.Events.{History}
use Rattle.page_model.specs.Fields.{is_in_field, plain}
use Rattle.page_model.specs.Words.{has_open_word}
use Rattle.page_model.specs.declared.event.Event.TheVariants.{Print, Tab, FieldEnd, WordEnd, Gap, LineEnd, Count, Break, Interrupt as Interrupted, Resume, Set}
use Rattle.page_model.specs.declared.layout_event.LayoutEvent.TheVariants.{Begin}
use Rattle.run_model.specs.Environments.{environments, text_of}
use Rattle.run_model.specs.PageEvents.{PageEvent, PageHistory}
use Rattle.run_model.specs.Run.{Leads, State, after, grown, performing, step, step_behind, step_with, text_done, unless_refused}
use Rattle.run_model.specs.Run.Counts.{first_passed}
use Rattle.run_model.specs.Springs.{next, own_word_end, word_end_of}
use Rattle.run_model.specs.Titles.{put_back}
use Rattle.run_model.specs.declared.environment_number.EnvironmentNumber.{EnvironmentNumber}
use Rattle.run_model.specs.declared.event.PageEvent.TheVariants.{Text, Page, Interrupt, Environment, Back, InputTrap as SetsTrap, Title}
use Rattle.run_model.proofs.Leads.{Leads-refl, Leads-step, Leads-to}
use Rattle.run_model.proofs.Readings.{ReadsOn-text, ReadsOn-with_sprung}
use Rattle.law_runs.specs.EnvironmentLaws.{text_in}
use Rattle.law_runs.specs.SpringLaws.{text_with, with_rest_back}
use Rattle.law_runs.proofs.ComesBefore.{ComesBefore, NothingComes, FieldEndComes, PageComes, WordEndComes, comes_before}
use Rattle.law_runs.proofs.Endings.{ended_or_not, step-ended, step-going}
use Rattle.run_model.proofs.GrowingAhead.{ahead-interrupted}
use Rattle.law_runs.proofs.PerformedOrStopped.{PerformedOrStopped, Performed, Sprang, EndsOver, StoppedAt, first_of, left_behind, performed_or_stopped}
use Rattle.law_runs.proofs.SpringLaws.{springing, springing-step}
use Rattle.law_runs.proofs.TextsChanged.{text-holds}
use Rattle.law_escapes.specs.WordsApart.{EndsOpenWord, HasGoneOn, InputLeft, IsNext, LinesGoOnWithAnotherWord, RunEnded, StandsThere, Waits, WaitsInFront, WentOn}
use Rattle.law_escapes.proofs.StandsAhead.{EndWith, Ends, IsLost, IsTaken, Stands, StandsOrTaken, stands-performed, stands-read}
use Rattle.law_escapes.proofs.OwnWords.{own-same}
use Rattle.law_escapes.proofs.WordsApart.{no_field_in_front, no_word_in_front, none_at_all, own-step, text_in-force}

-- such an event is put back as it is, and has a word's end of its own
pub back_same : (e : PageEvent) → EndsOpenWord e → put_back e ≡ e
back_same (Text (Gap n)) ends = refl
back_same (Text LineEnd) ends = refl
back_same (Text Break) ends = refl
back_same (Text (Print g)) ends = absurd ends
back_same (Text Tab) ends = absurd ends
back_same (Text FieldEnd) ends = absurd ends
back_same (Text WordEnd) ends = absurd ends
back_same (Text Count) ends = absurd ends
back_same (Text Interrupted) ends = absurd ends
back_same (Text Resume) ends = absurd ends
back_same (Text (Set p)) ends = absurd ends
back_same (Page e) ends = absurd ends
back_same (Title which) ends = absurd ends
back_same (Interrupt untold) ends = absurd ends
back_same (Environment number) ends = absurd ends
back_same Back ends = absurd ends
back_same (SetsTrap trap) ends = absurd ends

own_end : (h : PageHistory) (e : PageEvent) → EndsOpenWord e → word_end_of h e ≡ own_word_end (has_word_to_end (text_of h))
own_end h (Text (Gap n)) ends = refl
own_end h (Text LineEnd) ends = refl
own_end h (Text Break) ends = refl
own_end h (Text (Print g)) ends = absurd ends
own_end h (Text Tab) ends = absurd ends
own_end h (Text FieldEnd) ends = absurd ends
own_end h (Text WordEnd) ends = absurd ends
own_end h (Text Count) ends = absurd ends
own_end h (Text Interrupted) ends = absurd ends
own_end h (Text Resume) ends = absurd ends
own_end h (Text (Set p)) ends = absurd ends
own_end h (Page e) ends = absurd ends
own_end h (Title which) ends = absurd ends
own_end h (Interrupt untold) ends = absurd ends
own_end h (Environment number) ends = absurd ends
own_end h Back ends = absurd ends
own_end h (SetsTrap trap) ends = absurd ends

-- it stands there
stands_there : (e : PageEvent) (behind : List (Ahead PageEvent)) (s : State) → EndWith (DoAhead e) behind s.input.ahead → WaitsInFront e behind s
stands_there e behind s ends = StandsThere ends.front ends.is

-- what comes before it was performed: it is next still, or was put back
next-performed : (l : Limits) (from : State) (x e : PageEvent) (behind : List (Ahead PageEvent)) (s t : State) → EndsOpenWord e
    → s.input.ahead ≡ behind → PerformedOrStopped l x (e ∷ []) s t → HasGoneOn l from e behind t
next-performed l from x e behind s t ends others (Performed allowed on none) = Waits (IsNext refl others)
next-performed l from x e behind s t ends others (Sprang name allowed on some) =
    Waits (StandsThere []
    (ap (λ (first : PageEvent). DoAhead first ∷ s.input.ahead) (back_same e ends) ∙ ap (λ (items : List (Ahead PageEvent)). DoAhead e ∷ items) others))
next-performed l from x e behind s t ends others (EndsOver allowed over) = RunEnded refl
next-performed l from x e behind s t ends others (StoppedAt limit) = RunEnded refl

-- where it is next
next-step : (l : Limits) (from : State) (e : PageEvent) (behind : List (Ahead PageEvent)) (s : State) (own : Option PageEvent) → EndsOpenWord e
    → Leads l from s → s.follows.text ≡ None → s.to_do ≡ e ∷ [] → s.input.ahead ≡ behind → next s.history e ≡ own
    → ComesBefore s.history e own
    → step l s ≡ performing l own e [] s → HasGoneOn l from e behind (step l s)
next-step l from e behind s own ends leads no_text first others is (NothingComes none_begins) there =
    let none : has_word_to_end (text_of s.history) ≡ false = no_word_in_front s.history e (own_end s.history e ends) is in
    let number : EnvironmentNumber = (environments s.history).number in
    WentOn s leads (record { first = first; no_text = no_text; others = others; none_before = is; no_word = none; no_field = no_field_in_front s.history e is })
    (Leads-step l s s (Leads-refl l s))
    (λ (no_field : is_in_field (text_of s.history) ≡ false). own-step number (plain (text_in number s.history)) l s
    (own-same (text_in number s.history)
    (ap (λ (T : History). has_open_word (plain T)) (text_in-force s.history) ∙ none_at_all (text_of s.history) no_field none)))
next-step l from e behind s own ends leads no_text first others is (FieldEndComes closes none_begins fewer) there =
    subst (HasGoneOn l from e behind) (sym there)
    (next-performed l from (Text FieldEnd) e behind s _ ends others (performed_or_stopped l (Some (Text FieldEnd)) e [] s))
next-step l from e behind s own ends leads no_text first others is (WordEndComes none_begins fewer) there =
    subst (HasGoneOn l from e behind) (sym there)
    (next-performed l from (Text WordEnd) e behind s _ ends others (performed_or_stopped l (Some (Text WordEnd)) e [] s))
next-step l from e behind s own ends leads no_text first others is (PageComes none_begun fewer) there =
    subst (HasGoneOn l from e behind) (sym there)
    (next-performed l from (Page Begin) e behind s _ ends others (performed_or_stopped l (Some (Page Begin)) e [] s))

-- something is read while it stands there
stands-read_on : (l : Limits) (from : State) (e : PageEvent) (behind : List (Ahead PageEvent)) (s t : State) → Leads l from s → Leads l s t
    → StandsOrTaken (DoAhead e) behind s t → HasGoneOn l from e behind t
stands-read_on l from e behind s t leads goes (Stands ends) = Waits (stands_there e behind t ends)
stands-read_on l from e behind s t leads goes (IsTaken ahead is) =
    Waits (IsNext (ap (λ (u : State). u.to_do) is)
    (ap (λ (u : State). u.input.ahead) is ∙ ahead-interrupted s.reading (item_taken (DoAhead e) behind s.input)))
stands-read_on l from e behind s t leads goes (Ends ended) = RunEnded ended
stands-read_on l from e behind s t leads goes (IsLost leaves reads) = InputLeft s leads (record { read = leaves; reads = reads }) goes

-- something is done then
stands-step_with : (l : Limits) (from : State) (e : PageEvent) (behind : List (Ahead PageEvent)) (es : List PageEvent) (s : State) → Leads l from s
    → Leads l s (step_with l es s) → EndWith (DoAhead e) behind s.input.ahead → HasGoneOn l from e behind (step_with l es s)
stands-step_with l from e behind (x ∷ es) s leads goes ends =
    let own : Option PageEvent = next s.history x in
    elim (stands-performed (DoAhead e) behind l (first_of own x) (left_behind own x es s) s _ (performed_or_stopped l own x es s) ends) [
      | inl ended ↦ RunEnded ended
      | inr still ↦ Waits (stands_there e behind _ still)
    ]
stands-step_with l from e behind [] s leads goes ends =
    stands-read_on l from e behind s _ leads goes (stands-read (DoAhead e) behind l s _ (ReadsOn-with_sprung l s.follows.sprung s refl) ends)

-- or the text of a diversion changes
stands-step_behind : (l : Limits) (from : State) (e : PageEvent) (behind : List (Ahead PageEvent)) (due : Option TextDue) (s : State)
    → Leads l from s → s.follows.text ≡ due → Leads l s (step_behind l due s) → EndWith (DoAhead e) behind s.input.ahead
    → HasGoneOn l from e behind (step_behind l due s)
stands-step_behind l from e behind None s leads is goes ends = stands-step_with l from e behind s.to_do s leads goes ends
stands-step_behind l from e behind (Some due) s leads is goes ends =
    stands-read_on l from e behind s _ leads goes (stands-read (DoAhead e) behind l s _ (ReadsOn-text l due s is) ends)

-- where it is next it is so behind a change of that text, unless a limit refuses it
next-text : (l : Limits) (from : State) (e : PageEvent) (behind : List (Ahead PageEvent)) (due : TextDue) (s : State) (r : Option Limit)
    → s.to_do ≡ e ∷ [] → s.input.ahead ≡ behind → HasGoneOn l from e behind (unless_refused l r s (text_done due s))
next-text l from e behind due s None first others = Waits (text-holds (WaitsInFront e behind) due s (λ names texts. IsNext first others))
next-text l from e behind due s (Some limit) first others = RunEnded refl

next-step_behind : (l : Limits) (from : State) (e : PageEvent) (behind : List (Ahead PageEvent)) (due : Option TextDue) (s : State)
    → EndsOpenWord e → Leads l from s → s.follows.text ≡ due → s.to_do ≡ e ∷ [] → s.input.ahead ≡ behind → step l s ≡ step_behind l due s
    → HasGoneOn l from e behind (step l s)
next-step_behind l from e behind None s ends leads is first others goes =
    next-step l from e behind s (next s.history e) ends leads is first others refl (comes_before s.history e)
    (goes ∙ ap (λ (es : List PageEvent). step_with l es s) first)
next-step_behind l from e behind (Some due) s ends leads is first others goes =
    subst (HasGoneOn l from e behind) (sym goes) (next-text l from e behind due s (first_passed l (grown (text_done due s))) first others)

-- a step where it waits
waits-step : (l : Limits) (from : State) (e : PageEvent) (behind : List (Ahead PageEvent)) (s : State) → EndsOpenWord e → Leads l from s
    → s.ended ≡ None → WaitsInFront e behind s → HasGoneOn l from e behind (step l s)
waits-step l from e behind s ends leads going (StandsThere front is) =
    subst (HasGoneOn l from e behind) (sym (step-going l s going))
    (stands-step_behind l from e behind s.follows.text s leads refl
    (Leads-to l s s (step_behind l s.follows.text s) (Leads-refl l s) (step-going l s going)) (record { front = front; is = is }))
waits-step l from e behind s ends leads going (IsNext first others) =
    next-step_behind l from e behind s.follows.text s ends leads refl first others (step-going l s going)

-- and any step
gone-step : (l : Limits) (from : State) (e : PageEvent) (behind : List (Ahead PageEvent)) (s : State) → EndsOpenWord e → Leads l from s
    → HasGoneOn l from e behind s → HasGoneOn l from e behind (step l s)
gone-step l from e behind s ends leads (Waits waits) = elim (ended_or_not s.ended) [
  | inl ended ↦ subst (HasGoneOn l from e behind) (sym (step-ended l s ended)) (RunEnded ended)
  | inr going ↦ waits-step l from e behind s ends leads going waits
]
gone-step l from e behind s ends leads (WentOn at to_it goes_on behind_it own) =
    let number : EnvironmentNumber = (environments at.history).number in
    WentOn at to_it goes_on (Leads-step l at s behind_it) (λ no_field. own-step number (plain (text_in number at.history)) l s (own no_field))
gone-step l from e behind s ends leads (RunEnded ended) = subst (HasGoneOn l from e behind) (sym (step-ended l s ended)) (RunEnded ended)
gone-step l from e behind s ends leads (InputLeft at to_it leaves behind_it) = InputLeft at to_it leaves (Leads-step l at s behind_it)

gone-after : (l : Limits) (from : State) (e : PageEvent) (behind : List (Ahead PageEvent)) (n : ℕ) (s : State) → EndsOpenWord e → Leads l from s
    → HasGoneOn l from e behind s → HasGoneOn l from e behind (after l n s)
gone-after l from e behind zero s ends leads gone = gone
gone-after l from e behind (suc n) s ends leads gone =
    gone-after l from e behind n (step l s) ends (Leads-step l from s leads) (gone-step l from e behind s ends leads gone)

pub lines_go_on_with_another_word : LinesGoOnWithAnotherWord
lines_go_on_with_another_word l s e rest name first behind n springs ends is =
    let there : step l s ≡ springing (text_with e s) name (with_rest_back e rest s) = springing-step l s e rest name springs in
    gone-after l s first behind n (step l s) ends (Leads-step l s s (Leads-refl l s))
    (subst (HasGoneOn l s first behind) (sym there) (Waits (StandsThere [] is)))
