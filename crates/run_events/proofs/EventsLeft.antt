-- What is left of a list from an index on.
use Rattle.std.proofs.Common.{◌≡◌, ◌⊎◌, inl, inr, ◌≤◌, ℕ, zero, suc, ◌+◌, Bool, true, false, List, [], ◌∷◌, ◌++◌, length, Some, None, refl, ap, append-nil, subst, sym, arith, ◌∙◌, drop, slice_get, if◌then◌else◌, not, ◌&&◌}
use Rattle.run_model.specs.PageEvents.{PageEvent}
use Rattle.roff_num.specs.declared.num.Num.{Num}
use Rattle.roff_num.specs.declared.short_name.ShortName.{ShortName}
use Rattle.page_model.specs.DueTexts.{TextDue, due_by}
use Rattle.page_model.specs.Happenings.{is_eject_event}
use Rattle.page_model.specs.Layout.{Layout}
use Rattle.page_model.specs.Queries.{takes_text}
use Rattle.page_model.specs.declared.layout_event.LayoutEvent.{LayoutEvent}
use Rattle.page_model.specs.declared.layout_event.LayoutEvent.TheVariants.{ListPages, Begin, Close, Space, Need, Eject, EjectTo, EjectOn, EjectLast, Length, Offset, Next, Number, NoSpace, Plant, Uproot, MoveTrap, RemoveTrap, DiversionTrap, NoDiversionTrap, Divert, EndDivert}
use Rattle.run_events.proofs.Quiet.{springs-none}
use Rattle.run_model.specs.Layouts.{layout_of}
use Rattle.run_model.specs.Output.{PageHistory}
use Rattle.run_model.specs.Springs.{AreFewBehind, begins, may_spring, springs}
use Rattle.run_model.specs.declared.event.PageEvent.TheVariants.{Text, Page, Interrupt, Environment, Back, InputTrap as SetsTrap, Title}
use Rattle.run_model.proofs.UnseenEnds.{NoneSprings}
use Rattle.run_events.specs.Formatter.Sprung.{IsAmong, first_going_on, further, is_going_on, left_behind, may_be_left, most_back, reach_of}
use Rattle.run_events.specs.declared.sprung.Sprung.{Sprung}

-- of nothing, nothing is left
drop-none : {A : Type 0} (i : ℕ) → let none : List A = [] in drop i none ≡ none
drop-none zero = refl
drop-none (suc i) = refl

-- where an element stands
pub drop-at : {A : Type 0} (xs : List A) (i : ℕ) (x : A) → slice_get xs i ≡ Some x → drop i xs ≡ x ∷ drop (i + 1) xs
drop-at [] zero x is = cc
drop-at [] (suc i) x is = cc
drop-at (y ∷ xs) zero x is = cc
drop-at (y ∷ xs) (suc i) x is =
    let next : suc (i + 1) ≡ suc i + 1 = omega arith in
    drop-at xs i x is ∙ ap (λ (n : ℕ). x ∷ drop n (y ∷ xs)) next

-- where none does
pub drop-past : {A : Type 0} (xs : List A) (i : ℕ) → slice_get xs i ≡ None → drop i xs ≡ []
drop-past [] zero is = refl
drop-past [] (suc i) is = refl
drop-past (y ∷ xs) zero is = cc
drop-past (y ∷ xs) (suc i) is = drop-past xs i is

-- and none behind that place
pub drop-past-next : {A : Type 0} (xs : List A) (i : ℕ) → slice_get xs i ≡ None → drop (i + 1) xs ≡ []
drop-past-next [] i is = drop-none (i + 1)
drop-past-next (y ∷ xs) zero is = cc
drop-past-next (y ∷ xs) (suc i) is =
    let next : suc i + 1 ≡ suc (i + 1) = omega arith in
    ap (λ (n : ℕ). drop n (y ∷ xs)) next ∙ drop-past-next xs i is

-- what is left from an index on, of what is left from another one on
pub drop-drop : {A : Type 0} (m n : ℕ) (xs : List A) → drop (m + n) xs ≡ drop m (drop n xs)
drop-drop m zero xs =
    let none : m + zero ≡ m = omega arith in
    ap (λ (k : ℕ). drop k xs) none
drop-drop m (suc n) [] = drop-none (m + suc n) ∙ sym (drop-none m)
drop-drop m (suc n) (x ∷ xs) =
    let next : m + suc n ≡ suc (m + n) = omega arith in
    ap (λ (k : ℕ). drop k (x ∷ xs)) next ∙ drop-drop m n xs

-- no more may be left than there are
pub most-length : (events : List PageEvent) → most_back events ≤ length events
most-length [] = omega arith
most-length (e ∷ events) = by (may_be_left e) (most-length events)
  where
    by : (b : Bool) → most_back events ≤ length events → (if b then length (e ∷ events) else most_back events) ≤ length (e ∷ events)
    by true few = omega arith
    by false few = omega (arith, few)

-- with one more in front of them, as many may at the least
pub most-behind : (e : PageEvent) (events : List PageEvent) → most_back events ≤ most_back (e ∷ events)
most-behind e events = by (may_be_left e)
  where
    by : (b : Bool) → most_back events ≤ (if b then length (e ∷ events) else most_back events)
    by true = omega (arith, most-length events)
    by false = omega arith

pub most-drop : (n : ℕ) (events : List PageEvent) → most_back (drop n events) ≤ most_back events
most-drop zero events = omega arith
most-drop (suc n) [] = omega arith
most-drop (suc n) (e ∷ events) = omega (arith, most-drop n events, most-behind e events)

-- where the first may be left all may be
pub most-left : (e : PageEvent) (events : List PageEvent) → may_be_left e ≡ true → most_back (e ∷ events) ≡ length (e ∷ events)
most-left e events may = ap (λ (b : Bool). if b then length (e ∷ events) else most_back events) may

-- one that may be left may spring a macro
left-springs : (e : PageEvent) → may_be_left e ≡ true → may_spring e ≡ true
left-springs (Text e) may = may
left-springs (Page e) may = refl
left-springs (Interrupt untold) may = absurd (cc)
left-springs (Environment number) may = absurd (cc)
left-springs Back may = absurd (cc)
left-springs (SetsTrap trap) may = absurd (cc)
left-springs (Title which) may = refl

-- so none is left of those that spring none
pub quiet-none : (events : List PageEvent) → NoneSprings events → most_back events ≡ 0
quiet-none [] quiet = refl
quiet-none (e ∷ events) quiet = by (may_be_left e) refl (quiet-none events quiet.1)
  where
    by : (may : Bool) → may_be_left e ≡ may → most_back events ≡ 0 → (if may then length (e ∷ events) else most_back events) ≡ 0
    by true is none = absurd (let wrong : false ≡ true = sym quiet.0 ∙ left-springs e is in cc)
    by false is none = none

-- what may be left of the events of the pages: all but a page's number
abbrev IsPageKind : LayoutEvent → Type 0
IsPageKind e = (may_be_left (Page e) ≡ true) ⊎ ((n : Num) × (e ≡ Number n))

page_kind : (e : LayoutEvent) → IsPageKind e
page_kind (ListPages first last) = inl refl
page_kind Begin = inl refl
page_kind Close = inl refl
page_kind (Space lines) = inl refl
page_kind (Need lines) = inl refl
page_kind (Eject asked) = inl refl
page_kind (EjectTo asked number) = inl refl
page_kind (EjectOn asked) = inl refl
page_kind EjectLast = inl refl
page_kind (Length lines) = inl refl
page_kind (Offset columns) = inl refl
page_kind (Next number) = inl refl
page_kind (Number number) = inr (number, refl)
page_kind (NoSpace on) = inl refl
page_kind (Plant trap) = inl refl
page_kind (Uproot place) = inl refl
page_kind (MoveTrap name place) = inl refl
page_kind (RemoveTrap name) = inl refl
page_kind (DiversionTrap trap) = inl refl
page_kind NoDiversionTrap = inl refl
page_kind (Divert name appends) = inl refl
page_kind EndDivert = inl refl

-- an event of the pages that sprang a macro may be left
pub page-left : (e : LayoutEvent) (h : PageHistory) (name : ShortName) → springs h (Page e) ≡ Some name → may_be_left (Page e) ≡ true
page-left e h name sprang = elim (page_kind e) [
  | inl other ↦ other
  | inr number ↦ absurd (
      let springs_it = subst (λ (e : LayoutEvent). springs h (Page e) ≡ Some name) number.1 sprang in
      let wrong : None ≡ Some name = sym (springs-none (Number number.0) (layout_of h) refl) ∙ springs_it in cc)
]

-- and so may one with which the text of a diversion changes: none is an eject
pub text-left : (e : LayoutEvent) (L : Layout) (due : TextDue) → due_by e L ≡ Some due → may_be_left (Page e) ≡ true
text-left Close L due is = refl
text-left (Space lines) L due is = refl
text-left (Need lines) L due is = refl
text-left (Divert name appends) L due is = refl
text-left EndDivert L due is = refl
text-left (_) L due is = absurd (cc)

pub text-alone : (e : LayoutEvent) (L : Layout) (due : TextDue) → due_by e L ≡ Some due → is_eject_event e ≡ false
text-alone Close L due is = refl
text-alone (Space lines) L due is = refl
text-alone (Need lines) L due is = refl
text-alone (Divert name appends) L due is = refl
text-alone EndDivert L due is = refl
text-alone (_) L due is = absurd (cc)

-- and so may one in front of which the first page begins
pub paged-left : (e : LayoutEvent) (h : PageHistory) → begins h (Page e) ≡ true → may_be_left (Page e) ≡ true
paged-left e h begun = elim (page_kind e) [
  | inl other ↦ other
  | inr number ↦ absurd (no_number (takes_text (layout_of h)) (subst (λ (e : LayoutEvent). begins h (Page e) ≡ true) number.1 begun))
]
  where
    no_number : (takes : Bool) → not takes && false ≡ true → ⊥
    no_number true is = cc
    no_number false is = cc

-- they are so few as can be put back
pub few-most : (events : List PageEvent) → AreFewBehind events → most_back events ≤ 5
few-most [] few = omega arith
few-most (e ∷ events) few = by (may_be_left e) (λ may. few.0 (left-springs e may)) (few-most events few.1)
  where
    by : (b : Bool) → (b ≡ true → length (e ∷ events) ≤ 5) → most_back events ≤ 5 → (if b then length (e ∷ events) else most_back events) ≤ 5
    by true short others = short refl
    by false short others = others

pub going-none : (events : List PageEvent) → first_going_on false events ≡ events
going-none [] = refl
going-none (e ∷ events) = refl

-- what is left of them, where one that stands in front of them was performed
pub left-further : (sprung : Sprung) (e : PageEvent) (events : List PageEvent) → left_behind (further 1 sprung) (e ∷ events) ≡ left_behind sprung events
left-further sprung e events =
    let next : sprung.left + 1 ≡ suc sprung.left = omega arith in
    ap (λ (k : ℕ). first_going_on (is_going_on sprung.why) (drop k (e ∷ events))) next

-- the events that it speaks of are no fewer than those that were performed
pub reach-least : (goes_on : Bool) (left : ℕ) → left ≤ reach_of goes_on left
reach-least false left = omega arith
reach-least true left = omega arith

pub reach-further : (goes_on : Bool) (left count n : ℕ) → reach_of goes_on left ≤ n → reach_of goes_on (left + count) ≤ n + count
reach-further false left count n few = omega (arith, few)
reach-further true left count n few = omega (arith, few)

-- what is left of events that it speaks of, with others behind them
left-with : (goes_on : Bool) (left : ℕ) (events others : List PageEvent) → reach_of goes_on left ≤ length events
    → first_going_on goes_on (drop left (events ++ others)) ≡ first_going_on goes_on (drop left events) ++ others
left-with false zero [] others among = going-none others
left-with true zero [] others among = absurd (omega (arith, among))
left-with goes_on zero (e ∷ events) others among = refl
left-with false (suc n) [] others among = absurd (omega (arith, among))
left-with true (suc n) [] others among = absurd (omega (arith, among))
left-with false (suc n) (e ∷ events) others among = left-with false n events others (omega (arith, among))
left-with true (suc n) (e ∷ events) others among = left-with true n events others (omega (arith, among))

pub left-front : (sprung : Sprung) (events others : List PageEvent) → IsAmong events sprung
    → left_behind sprung (events ++ others) ≡ left_behind sprung events ++ others
left-front sprung events others among = left-with (is_going_on sprung.why) sprung.left events others among

-- with nothing more to do they are the same
pub few-none : (events : List PageEvent) → AreFewBehind events → AreFewBehind (events ++ [])
few-none events few = subst AreFewBehind (sym (append-nil events)) few

-- five may all be put back
pub few-short : (events : List PageEvent) → length events ≤ 5 → AreFewBehind events
few-short [] short = tt
few-short (e ∷ events) short = ((λ may. omega (arith, short)), few-short events (omega (arith, short)))
