-- The law of ejects: each ends the page that it was asked on, or the run ends.
use Rattle.std.proofs.Common.{◌≡◌, ◌⊎◌, inl, inr, ◌<◌, ◌≤◌, ℕ, zero, suc, Bool, true, false, not, ◌&&◌, List, [], ◌∷◌, Option, Some, None, refl, sym, ◌∙◌, ap, subst, arith, is_some, nat_le, if◌then◌else◌, ◌==◌, eq-eqb, eqb-true}
use Rattle.std.proofs.lemmas.Bool.{cases_lt}
use Rattle.page_model.specs.declared.event.Event.TheVariants.{FieldEnd, WordEnd}
use Rattle.roff_num.specs.declared.limits.Limits.{Limits}
use Rattle.page_model.specs.Happenings.{Happening, Does, is_eject, is_eject_event}
use Rattle.page_model.specs.Layout.{Box, Layout, page_place}
use Rattle.page_model.specs.Puts.{Put, appended, ejected_if, puts}
use Rattle.page_model.specs.Springs.{goes_on}
use Rattle.page_model.specs.Stops.{Target, page_target, is_diverted}
use Rattle.page_model.specs.Turning.{behind_put, next_behind, page_begun, with_boxes, with_event}
use Rattle.page_model.specs.declared.layout_event.LayoutEvent.{LayoutEvent}
use Rattle.page_model.specs.declared.layout_event.LayoutEvent.TheVariants.{ListPages, Begin, Close, Space, Need, Eject, EjectTo, EjectOn, EjectLast, Length, Offset, Next, Number, NoSpace, Plant, Uproot, MoveTrap, RemoveTrap, DiversionTrap, NoDiversionTrap, Divert, EndDivert}
use Rattle.run_model.specs.Layouts.{layout_of}
use Rattle.run_model.specs.PageEvents.{PageEvent, PageHistory}
use Rattle.run_model.specs.Run.{Leads, State, after, step, step_behind, step_with}
use Rattle.run_model.specs.Springs.{eject_going_on, left_if, left_of, next, page_begin_or}
use Rattle.run_model.specs.Titles.{told}
use Rattle.run_model.specs.declared.event.PageEvent.TheVariants.{Text, Page}
use Rattle.run_model.proofs.Leads.{Leads-refl, Leads-step, Leads-to, Leads-trans}
use Rattle.run_model.proofs.Readings.{ReadsOn-with_sprung, ReadsOn-text}
use Rattle.law_runs.specs.TrapLaws.{EjectsEndTheirPage, GoesOn, HasCome, InputLeft, IsAmong, IsPutBack, PageEnded, RunEnded, Waits}
use Rattle.law_runs.proofs.ComesBefore.{ComesBefore, NothingComes, FieldEndComes, PageComes, WordEndComes, comes_before}
use Rattle.law_runs.proofs.Endings.{ended_or_not, not-ended, step-ended, step-going}
use Rattle.law_runs.proofs.PagesBegun.{begun-event}
use Rattle.law_runs.proofs.PerformedOrStopped.{PerformedOrStopped, Performed, Sprang, EndsOver, StoppedAt, first_of, left_behind, performed_or_stopped}
use Rattle.law_runs.proofs.Stages.{history-read}
use Rattle.law_runs.proofs.WaitingEvents.{IsLost, RunEnds, StillWaits, WaitsStill, among-behind, among-front, waits-performed, waits-read, waits-text}
use Rattle.law_runs.proofs.PutHolds.{put-holds}
use Rattle.page_model.specs.DueTexts.{TextDue}

-- what is put by an eject that doesn't go on ended its page, or the layout is over
ends-turned : (full closing : Bool) (begun : ℕ) (N : Layout) → N.begun ≡ begun
    → let M : Layout = if full then (if closing then record N { is_over = true } else page_begun N) else N in
    ((M.begun == begun) && not M.is_over) ≡ false → (begun < M.begun) ⊎ (M.is_over ≡ true)
ends-turned true true begun N same stops = inr refl
ends-turned true false begun N same stops = inl (omega (arith, same))
ends-turned false closing begun N same stops = inr (by_test N.is_over (ap (λ (c : Bool). c && not N.is_over) (sym (eq-eqb N.begun begun same)) ∙ stops))
  where
    by_test : (over : Bool) → (true && not over) ≡ false → over ≡ true
    by_test true stops = refl
    by_test false stops = absurd (cc)

ends-put : (x : Happening) (p : Option Put) (boxes : List Box) (L : Layout) → is_some p ≡ true
    → let M : Layout = behind_put x p boxes L in
    (is_some p && ((M.begun == L.begun) && not M.is_over)) ≡ false → (L.begun < M.begun) ⊎ (M.is_over ≡ true)
ends-put x None boxes L some stops = absurd (cc)
ends-put x (Some p) boxes L some stops =
    let N : Layout = with_boxes x boxes (record L { next = next_behind x L.next }) in
    put-holds (λ (M : Layout). ((M.begun == L.begun) && not M.is_over) ≡ false → (L.begun < M.begun) ⊎ (M.is_over ≡ true))
    (is_diverted x L) N
    (ends-turned false N.is_closing L.begun N refl) (ends-turned (nat_le N.length (page_place N)) N.is_closing L.begun N refl) stops

ends-eject : (x : Happening) (L : Layout) → is_eject x ≡ true → is_some (puts x L) ≡ true → goes_on x L ≡ false
    → (L.begun < (with_event x L).begun) ⊎ ((with_event x L).is_over ≡ true)
ends-eject x L eject some stops =
    let M : Layout = with_event x L in
    let rest : Bool = is_some (puts x L) && ((M.begun == L.begun) && not M.is_over) in
    ends-put x (puts x L) (appended x L) L some (sym (ap (λ (c : Bool). c && rest) eject) ∙ stops)

-- an eject that goes on is left
left_goes : (e : LayoutEvent) (goes : Bool) → goes ≡ true → IsAmong (Page (eject_going_on e)) (left_if goes e)
left_goes e true is = inl refl
left_goes e false is = absurd (cc)

-- so behind one that puts something: its page has ended, or it is among what is left
left_or_ended_by : (e : LayoutEvent) (h : PageHistory) (goes : Bool) → goes_on (Does e) (layout_of h) ≡ goes
    → is_eject_event e ≡ true
    → is_some (puts (Does e) (layout_of h)) ≡ true → (layout_of (Page e ∷ h)).is_over ≡ false
    → ((layout_of h).begun < (layout_of (Page e ∷ h)).begun) ⊎ IsAmong (Page (eject_going_on e)) (left_of h (Page e))
left_or_ended_by e h true is eject some on = inr (left_goes e (goes_on (Does e) (layout_of h)) is)
left_or_ended_by e h false is eject some on = elim (ends-eject (Does e) (layout_of h) eject some is) [
  | inl more ↦ inl more
  | inr over ↦ let wrong : true ≡ false = sym over ∙ on in absurd (cc)
]

left_or_ended : (e : LayoutEvent) (h : PageHistory) → is_eject_event e ≡ true → is_some (puts (Does e) (layout_of h)) ≡ true
    → (layout_of (Page e ∷ h)).is_over ≡ false
    → ((layout_of h).begun < (layout_of (Page e ∷ h)).begun) ⊎ IsAmong (Page (eject_going_on e)) (left_of h (Page e))
left_or_ended e h eject some on = left_or_ended_by e h (goes_on (Does e) (layout_of h)) refl eject some on

-- how an eject goes on, for the page of this count
abbrev GoesOnFor : LayoutEvent → ℕ → Type 0
GoesOnFor (EjectOn asked) count = asked ≡ count
GoesOnFor EjectLast count = Unit {0}
GoesOnFor (_) count = ⊥

-- behind one: the page has ended, or it goes on yet
again : (e : LayoutEvent) (count : ℕ) (h : PageHistory) → GoesOnFor e count → (layout_of h).begun ≡ count
    → (layout_of (Page e ∷ h)).is_over ≡ false
    → (count < (layout_of (Page e ∷ h)).begun) ⊎ IsAmong (Page e) (left_of h (Page e))
again (EjectOn asked) count h asks begun on =
    let t : Target = page_target (layout_of h) in
    let some : is_some (puts (Does (EjectOn asked)) (layout_of h)) ≡ true =
    ap (λ (c : Bool). is_some (ejected_if c t)) (eq-eqb (layout_of h).begun asked (begun ∙ sym asks)) in
    subst (λ (n : ℕ). (n < (layout_of (Page (EjectOn asked) ∷ h)).begun) ⊎ IsAmong (Page (EjectOn asked)) (left_of h (Page (EjectOn asked)))) begun
    (left_or_ended (EjectOn asked) h refl some on)
again EjectLast count h asks begun on =
    subst (λ (n : ℕ). (n < (layout_of (Page EjectLast ∷ h)).begun) ⊎ IsAmong (Page EjectLast) (left_of h (Page EjectLast))) begun
    (left_or_ended EjectLast h refl (some_put (puts (Does EjectLast) (layout_of h)) refl) on)
  where
    over_by : (p : Option Put) → puts (Does EjectLast) (layout_of h) ≡ p → is_some p ≡ false → (layout_of (Page EjectLast ∷ h)).is_over ≡ true
    over_by None is none = ap (λ (p : Option Put). (behind_put (Does EjectLast) p (appended (Does EjectLast) (layout_of h)) (layout_of h)).is_over) is
    over_by (Some p) is none = absurd (cc)

    some_put : (p : Option Put) → puts (Does EjectLast) (layout_of h) ≡ p → is_some p ≡ true
    some_put None is = let wrong : true ≡ false = sym (over_by None is refl) ∙ on in absurd (cc)
    some_put (Some p) is = refl
again (ListPages first last) count h asks begun on = absurd asks
again Begin count h asks begun on = absurd asks
again Close count h asks begun on = absurd asks
again (Space k) count h asks begun on = absurd asks
again (Need k) count h asks begun on = absurd asks
again (Eject asked) count h asks begun on = absurd asks
again (EjectTo asked number) count h asks begun on = absurd asks
again (Length k) count h asks begun on = absurd asks
again (Offset k) count h asks begun on = absurd asks
again (Next n) count h asks begun on = absurd asks
again (Number n) count h asks begun on = absurd asks
again (NoSpace on_) count h asks begun on = absurd asks
again (Plant trap) count h asks begun on = absurd asks
again (Uproot place) count h asks begun on = absurd asks
again (MoveTrap name place) count h asks begun on = absurd asks
again (RemoveTrap name) count h asks begun on = absurd asks
again (DiversionTrap trap) count h asks begun on = absurd asks
again NoDiversionTrap count h asks begun on = absurd asks
again (Divert name appends) count h asks begun on = absurd asks
again EndDivert count h asks begun on = absurd asks

-- a page of no smaller count: it has ended, or it is in force
ended_or_on : (l : Limits) (from : State) (e : LayoutEvent) (count : ℕ) (t : State) → count ≤ (layout_of t.history).begun
    → Waits (Page (eject_going_on e)) t
    → HasCome l from e count t
ended_or_on l from e count t more waits = elim (cases_lt count (layout_of t.history).begun) [
  | inl less ↦ PageEnded less
  | inr same ↦ GoesOn (omega (arith, more, same)) waits
]

-- an event was performed, behind which it waits, if its page hasn't ended
come-performed : (l : Limits) (from : State) (e : LayoutEvent) (count : ℕ) (x : PageEvent) (left : List PageEvent) (s t : State)
    → PerformedOrStopped l x left s t → count ≤ (layout_of s.history).begun
    → ((layout_of (told s.registers x ∷ s.history)).is_over ≡ false
    → (count < (layout_of (told s.registers x ∷ s.history)).begun) ⊎ (IsAmong (Page (eject_going_on e)) left ⊎ IsPutBack (Page (eject_going_on e)) s.input.ahead))
    → HasCome l from e count t
come-performed l from e count x left s t (Performed allowed on none) more waits = elim (waits on) [
  | inl ended ↦ PageEnded ended
  | inr waiting ↦ ended_or_on l from e count t (omega (arith, more, begun-event s.registers s.history x)) waiting
]
come-performed l from e count x left s t (Sprang name allowed on some) more waits = elim (waits on) [
  | inl ended ↦ PageEnded ended
  | inr waiting ↦
      elim (waits-performed l x (Page (eject_going_on e)) left s t refl (Sprang name allowed on some) waiting) [
        | inl over ↦ RunEnded over
        | inr still ↦ ended_or_on l from e count t (omega (arith, more, begun-event s.registers s.history x)) still
      ]
]
come-performed l from e count x left s t (EndsOver allowed over) more waits = RunEnded refl
come-performed l from e count x left s t (StoppedAt limit) more waits = RunEnded refl

-- while it waits
waiting-performed : (l : Limits) (from : State) (e : LayoutEvent) (count : ℕ) (own : Option PageEvent) (x : PageEvent) (es : List PageEvent) (s t : State)
    → GoesOnFor (eject_going_on e) count → (layout_of s.history).begun ≡ count → ComesBefore s.history x own
    → IsAmong (Page (eject_going_on e)) (x ∷ es) ⊎ IsPutBack (Page (eject_going_on e)) s.input.ahead
    → PerformedOrStopped l (first_of own x) (left_behind own x es s) s t → HasCome l from e count t
waiting-performed l from e count own x es s t asks begun (NothingComes none_begins) waits done =
    come-performed l from e count x (left_behind None x es s) s t done (omega (arith, begun)) (by_place waits)
  where
    by_place : IsAmong (Page (eject_going_on e)) (x ∷ es) ⊎ IsPutBack (Page (eject_going_on e)) s.input.ahead
        → (layout_of (told s.registers x ∷ s.history)).is_over ≡ false
        → (count < (layout_of (told s.registers x ∷ s.history)).begun)
        ⊎ (IsAmong (Page (eject_going_on e)) (left_behind None x es s) ⊎ IsPutBack (Page (eject_going_on e)) s.input.ahead)
    by_place (inl (inl is)) on =
        subst
        (λ (first : PageEvent). (layout_of (told s.registers first ∷ s.history)).is_over ≡ false
        → (count < (layout_of (told s.registers first ∷ s.history)).begun)
        ⊎ (IsAmong (Page (eject_going_on e)) (left_behind None first es s) ⊎ IsPutBack (Page (eject_going_on e)) s.input.ahead))
        (sym is)
        (λ on. elim (again (eject_going_on e) count s.history asks begun on) [
          | inl ended ↦ inl ended
          | inr among ↦ inr (inl (among-front (Page (eject_going_on e)) (left_of s.history (Page (eject_going_on e))) es among))
        ]) on
    by_place (inl (inr among)) on = inr (inl (among-behind (Page (eject_going_on e)) (left_of s.history (told s.registers x)) es among))
    by_place (inr back) on = inr (inr back)
waiting-performed l from e count own x es s t asks begun (FieldEndComes ends none_begins fewer) waits done =
    come-performed l from e count (Text FieldEnd) (x ∷ es) s t done (omega (arith, begun)) (λ on. inr waits)
waiting-performed l from e count own x es s t asks begun (WordEndComes none_begins fewer) waits done =
    come-performed l from e count (Text WordEnd) (x ∷ es) s t done (omega (arith, begun)) (λ on. inr waits)
waiting-performed l from e count own x es s t asks begun (PageComes none_begun fewer) waits done =
    come-performed l from e count (Page Begin) (x ∷ es) s t done (omega (arith, begun)) (λ on. inr waits)

-- and something is read
come-read : (l : Limits) (from : State) (e : LayoutEvent) (count : ℕ) (s t : State) → Leads l from s → Leads l s t
    → StillWaits (Page (eject_going_on e)) s t → t.history ≡ s.history
    → (layout_of s.history).begun ≡ count → HasCome l from e count t
come-read l from e count s t leads goes (WaitsStill waits) same begun = GoesOn (ap (λ (h : PageHistory). (layout_of h).begun) same ∙ begun) waits
come-read l from e count s t leads goes (RunEnds ended) same begun = RunEnded ended
come-read l from e count s t leads goes (IsLost leaves reads) same begun = InputLeft s leads (record { read = leaves; reads = reads }) goes

waiting-step_with : (l : Limits) (from : State) (e : LayoutEvent) (count : ℕ) (es : List PageEvent) (s : State)
    → Leads l from s → Leads l s (step_with l es s) → s.to_do ≡ es
    → GoesOnFor (eject_going_on e) count
    → (layout_of s.history).begun ≡ count → Waits (Page (eject_going_on e)) s → HasCome l from e count (step_with l es s)
waiting-step_with l from e count (x ∷ es) s leads goes to_do asks begun waits =
    let own : Option PageEvent = next s.history x in
    waiting-performed l from e count own x es s _ asks begun (comes_before s.history x) (to_come waits) (performed_or_stopped l own x es s)
  where
    to_come : Waits (Page (eject_going_on e)) s → IsAmong (Page (eject_going_on e)) (x ∷ es) ⊎ IsPutBack (Page (eject_going_on e)) s.input.ahead
    to_come (inl among) = inl (subst (IsAmong (Page (eject_going_on e))) to_do among)
    to_come (inr back) = inr back
waiting-step_with l from e count [] s leads goes to_do asks begun waits =
    let reads = ReadsOn-with_sprung l s.follows.sprung s refl in
    come-read l from e count s _ leads goes (waits-read (Page (eject_going_on e)) l s _ reads to_do waits) (history-read l s _ reads) begun

-- no step takes a page back
begun-performed : (l : Limits) (x : PageEvent) (left : List PageEvent) (s t : State) → PerformedOrStopped l x left s t
    → (layout_of s.history).begun ≤ (layout_of t.history).begun
begun-performed l x left s t (Performed allowed on none) = begun-event s.registers s.history x
begun-performed l x left s t (Sprang name allowed on some) = begun-event s.registers s.history x
begun-performed l x left s t (EndsOver allowed over) = begun-event s.registers s.history x
begun-performed l x left s t (StoppedAt limit) = omega arith

begun-step_with : (l : Limits) (es : List PageEvent) (s : State)
    → (layout_of s.history).begun ≤ (layout_of (step_with l es s).history).begun
begun-step_with l (x ∷ es) s =
    let own : Option PageEvent = next s.history x in
    begun-performed l (first_of own x) (left_behind own x es s) s _ (performed_or_stopped l own x es s)
begun-step_with l [] s =
    let same : (step_with l [] s).history ≡ s.history = history-read l s _ (ReadsOn-with_sprung l s.follows.sprung s refl) in
    omega (arith, ap (λ (h : PageHistory). (layout_of h).begun) same)

begun-step_behind : (l : Limits) (due : Option TextDue) (s : State) → s.follows.text ≡ due
    → (layout_of s.history).begun ≤ (layout_of (step_behind l due s).history).begun
begun-step_behind l None s none = begun-step_with l s.to_do s
begun-step_behind l (Some due) s some =
    omega (arith, ap (λ (h : PageHistory). (layout_of h).begun) (history-read l s _ (ReadsOn-text l due s some)))

-- a change of the text of a diversion comes first, if there is one
waiting-step_behind : (l : Limits) (from : State) (e : LayoutEvent) (count : ℕ) (due : Option TextDue) (s : State)
    → Leads l from s → Leads l s (step_behind l due s) → s.follows.text ≡ due
    → GoesOnFor (eject_going_on e) count
    → (layout_of s.history).begun ≡ count → Waits (Page (eject_going_on e)) s → HasCome l from e count (step_behind l due s)
waiting-step_behind l from e count None s leads goes none asks begun waits =
    waiting-step_with l from e count s.to_do s leads goes refl asks begun waits
waiting-step_behind l from e count (Some due) s leads goes some asks begun waits =
    let reads = ReadsOn-text l due s some in
    come-read l from e count s _ leads goes (waits-text (Page (eject_going_on e)) l due s waits) (history-read l s _ reads) begun

-- a step
come-going : (l : Limits) (from : State) (e : LayoutEvent) (count : ℕ) (s : State) → Leads l from s
    → Leads l s (step_behind l s.follows.text s) → s.ended ≡ None → GoesOnFor (eject_going_on e) count
    → HasCome l from e count s → HasCome l from e count (step_behind l s.follows.text s)
come-going l from e count s leads goes going asks (PageEnded ended) =
    PageEnded (omega (arith, ended, begun-step_behind l s.follows.text s refl))
come-going l from e count s leads goes going asks (GoesOn begun waits) =
    waiting-step_behind l from e count s.follows.text s leads goes refl asks begun waits
come-going l from e count s leads goes going asks (RunEnded ended) = absurd (not-ended s.ended going ended)
come-going l from e count s leads goes going asks (InputLeft at to_it leaves behind) =
    InputLeft at to_it leaves (Leads-trans l at s (step_behind l s.follows.text s) behind goes)

come-step : (l : Limits) (from : State) (e : LayoutEvent) (count : ℕ) (s : State) → Leads l from s
    → GoesOnFor (eject_going_on e) count → HasCome l from e count s
    → HasCome l from e count (step l s)
come-step l from e count s leads asks come = elim (ended_or_not s.ended) [
  | inl ended ↦ subst (HasCome l from e count) (sym (step-ended l s ended)) come
  | inr going ↦
      subst (HasCome l from e count) (sym (step-going l s going))
      (come-going l from e count s leads
      (Leads-to l s s (step_behind l s.follows.text s) (Leads-refl l s) (step-going l s going)) going asks come)
]

come-after : (l : Limits) (from : State) (e : LayoutEvent) (count : ℕ) (n : ℕ) (s : State) → Leads l from s
    → GoesOnFor (eject_going_on e) count
    → HasCome l from e count s → HasCome l from e count (after l n s)
come-after l from e count zero s leads asks come = come
come-after l from e count (suc n) s leads asks come =
    come-after l from e count n (step l s) (Leads-step l from s leads) asks (come-step l from e count s leads asks come)

-- an eject that puts something is for the page in force
asked_here : (begun asked : ℕ) (all : Bool) (t : Target) → is_some (ejected_if ((begun == asked) && all) t) ≡ true
    → asked ≡ begun
asked_here begun asked all t some = by_test (begun == asked) refl some
  where
    by_test : (c : Bool) → (begun == asked) ≡ c → is_some (ejected_if (c && all) t) ≡ true → asked ≡ begun
    by_test true same some = sym (eqb-true begun asked same)
    by_test false same some = absurd (cc)

asked_alone : (begun asked : ℕ) (t : Target) → is_some (ejected_if (begun == asked) t) ≡ true → asked ≡ begun
asked_alone begun asked t some = by_test (begun == asked) refl some
  where
    by_test : (c : Bool) → (begun == asked) ≡ c → is_some (ejected_if c t) ≡ true → asked ≡ begun
    by_test true same some = sym (eqb-true begun asked same)
    by_test false same some = absurd (cc)

goes_on-asks : (e : LayoutEvent) (L : Layout) → is_eject_event e ≡ true → is_some (puts (Does e) L) ≡ true
    → GoesOnFor (eject_going_on e) L.begun
goes_on-asks (Eject asked) L eject some = asked_here L.begun asked (not (page_target L).no_space) (page_target L) some
goes_on-asks (EjectTo asked number) L eject some = asked_alone L.begun asked (page_target L) some
goes_on-asks (EjectOn asked) L eject some = asked_alone L.begun asked (page_target L) some
goes_on-asks EjectLast L eject some = tt
goes_on-asks (ListPages first last) L eject some = absurd (cc)
goes_on-asks Begin L eject some = absurd (cc)
goes_on-asks Close L eject some = absurd (cc)
goes_on-asks (Space k) L eject some = absurd (cc)
goes_on-asks (Need k) L eject some = absurd (cc)
goes_on-asks (Length k) L eject some = absurd (cc)
goes_on-asks (Offset k) L eject some = absurd (cc)
goes_on-asks (Next n) L eject some = absurd (cc)
goes_on-asks (Number n) L eject some = absurd (cc)
goes_on-asks (NoSpace on) L eject some = absurd (cc)
goes_on-asks (Plant trap) L eject some = absurd (cc)
goes_on-asks (Uproot place) L eject some = absurd (cc)
goes_on-asks (MoveTrap name place) L eject some = absurd (cc)
goes_on-asks (RemoveTrap name) L eject some = absurd (cc)
goes_on-asks (DiversionTrap trap) L eject some = absurd (cc)
goes_on-asks NoDiversionTrap L eject some = absurd (cc)
goes_on-asks (Divert name appends) L eject some = absurd (cc)
goes_on-asks EndDivert L eject some = absurd (cc)

-- where it begins no word ends in front of it; where the first page begins there, no page was in force
no_word : (c : Bool) → page_begin_or c None ≡ Some (Text WordEnd) → ⊥
no_word true is = absurd (cc)
no_word false is = absurd (cc)

begins-performed : (l : Limits) (e : LayoutEvent) (own : Option PageEvent) (rest : List PageEvent) (s t : State)
    → is_eject_event e ≡ true
    → is_some (puts (Does e) (layout_of s.history)) ≡ true → next s.history (Page e) ≡ own → ComesBefore s.history (Page e) own
    → PerformedOrStopped l (first_of own (Page e)) (left_behind own (Page e) rest s) s t
    → HasCome l s e (layout_of s.history).begun t
begins-performed l e own rest s t eject some is (NothingComes none_begins) done =
    come-performed l s e (layout_of s.history).begun (Page e) (left_behind None (Page e) rest s) s t done (omega arith)
    (λ on. elim (left_or_ended e s.history eject some on) [
      | inl ended ↦ inl ended
      | inr among ↦ inr (inl (among-front (Page (eject_going_on e)) (left_of s.history (Page e)) rest among))
    ])
begins-performed l e own rest s t eject some is (FieldEndComes ends none_begins fewer) done = absurd (cc)
begins-performed l e own rest s t eject some is (WordEndComes none_begins fewer) done = absurd (no_word _ is)
begins-performed l e own rest s t eject some is (PageComes none_begun fewer) done =
    come-performed l s e (layout_of s.history).begun (Page Begin) (Page e ∷ rest) s t done (omega arith) (λ on. inl (omega arith))

pub ejects_end_their_page : EjectsEndTheirPage
ejects_end_their_page l e s n begins =
    let own : Option PageEvent = next s.history (Page e) in
    let count : ℕ = (layout_of s.history).begun in
    let first : HasCome l s e count (step_with l (Page e ∷ begins.rest) s) =
    begins-performed l e own begins.rest s _ begins.is_eject begins.puts_some refl (comes_before s.history (Page e))
    (performed_or_stopped l own (Page e) begins.rest s) in
    let stepped : HasCome l s e count (step l s) =
    subst (HasCome l s e count) (sym (step-going l s begins.going))
    (subst (λ (due : Option TextDue). HasCome l s e count (step_behind l due s)) (sym begins.no_text)
    (subst (λ (es : List PageEvent). HasCome l s e count (step_with l es s)) (sym begins.first) first)) in
    come-after l s e count n (step l s) (Leads-step l s s (Leads-refl l s)) (goes_on-asks e (layout_of s.history) begins.is_eject begins.puts_some) stepped
