-- What is known of a page's stops: where a trap is met, and behind what is planted.
use Rattle.std.proofs.Common.{◌≡◌, ℕ, suc, ◌<◌, ◌≤◌, min, Bool, true, false, ◌==◌, List, [], ◌∷◌, ◌++◌, length, Option, Some, None, refl, sym, ap, ◌∙◌, subst, arith, inl, inr, if◌then◌else◌, nat_lt, nat_le, ◌&&◌, ltb-true, leb-true, eqb-true, eq-eqb, lt-ltb, le-leb}
use Rattle.std.specs.List.{AllByRecursion}
use Rattle.std.proofs.lemmas.Bool.{cases_Bool, cases_lt, eqb-false, and_from, and_parts, false≢true}
use Rattle.roff_num.specs.declared.short_name.ShortName.{ShortName}
use Rattle.page_model.specs.declared.trap.Trap.{Trap}
use Rattle.page_model.specs.Stops.{place_of, nearer_stop, next_stop}
use Rattle.page_model.specs.Springs.{first_met, is_passed}
use Rattle.roff_pages.specs.Reach.{IsMetAtEnd}
use Rattle.roff_pages.specs.declared.stops.Beyond.{Beyond}
use Rattle.roff_pages.specs.declared.stops.Stops.{Stops}
use Rattle.roff_pages.specs.Pages.FirstTraps.{first_index, is_at, is_lying}
use Rattle.roff_pages.specs.Pages.KnownStops.{AreKnown, AreNext, IsFirstAt, MayBeginWith, name_at}
use Rattle.roff_pages.proofs.NextStop.{met_at_end, nearer_le, next_stop-end}

-- where all traps that are passed lie at one place, the first of them is the first there
same_test : (from to n : ℕ) (b : Bool) → from < to → (from < n → n ≤ to → n ≡ to) → (n == to) ≡ b → (nat_lt from n && nat_le n to) ≡ b
same_test from to n true beyond at e =
    let is : n ≡ to = eqb-true n to e in
    and_from (nat_lt from n) (nat_le n to) (lt-ltb from n (omega arith)) (le-leb n to (omega arith))
same_test from to n false beyond at e =
    elim (cases_Bool (nat_lt from n && nat_le n to)) [
      | inl p ↦
          let both = and_parts (nat_lt from n) (nat_le n to) p in
          absurd (eqb-false n to e (at (ltb-true from n both.0) (leb-true n to both.1)))
      | inr p ↦ p
    ]

met_there : (from to : ℕ) (o : Option ℕ) → from < to → IsMetAtEnd from to o → is_passed from to o ≡ is_at to o
met_there from to None beyond at = refl
met_there from to (Some n) beyond at = same_test from to n (n == to) beyond at refl

met_by_test : (b : Bool) (t : Trap) (traps : List Trap) (rest : Option ShortName) (index : ℕ) → rest ≡ name_at index traps
    → (if b then Some t.name else rest) ≡ name_at (if b then 0 else suc index) (t ∷ traps)
met_by_test true t traps rest index is = refl
met_by_test false t traps rest index is = is

met_first : (lines from to : ℕ) (traps : List Trap) → from < to → AllByRecursion (λ (t : Trap). IsMetAtEnd from to (place_of lines t.place)) traps
    → first_met (is_passed from to) lines traps ≡ name_at (first_index (is_lying lines to) traps) traps
met_first lines from to [] beyond all = refl
met_first lines from to (t ∷ traps) beyond all =
    ap (λ (b : Bool). if b then Some t.name else first_met (is_passed from to) lines traps) (met_there from to (place_of lines t.place) beyond all.0)
    ∙ met_by_test (is_lying lines to t) t traps (first_met (is_passed from to) lines traps) (first_index (is_lying lines to) traps)
    (met_first lines from to traps beyond all.1)

-- so the trap at the next stop is what springs there
pub met_at_stop : (lines from to index : ℕ) (traps : List Trap) → to ≡ next_stop lines from traps → from ≤ to → to < lines
    → IsFirstAt lines to traps index → name_at index traps ≡ first_met (is_passed from to) lines traps
met_at_stop lines from to index traps is on before first =
    let beyond : from < to =
    elim (cases_lt from to) [
      | inl f ↦ f
      | inr f ↦ absurd (omega (arith, next_stop-end lines from traps (omega arith)))
    ] in
    ap (λ (i : ℕ). name_at i traps) (first before)
    ∙ sym (met_first lines from to traps beyond (met_at_end lines from to traps (λ h. omega arith)))

-- a stop before the page's end is a trap
found_by_test : (b : Bool) (o : Option ℕ) (from stop s index count : ℕ) → s ≡ nearer_stop from o stop → is_at s o ≡ b → (s ≡ stop → index < count)
    → (if b then 0 else suc index) < suc count
found_by_test true o from stop s index count is at later = omega arith
found_by_test false None from stop s index count is at later = let more = later is in omega arith
found_by_test false (Some n) from stop s index count is at later =
    elim (cases_Bool (nat_lt from n)) [
      | inl e ↦
          let near : s ≡ min n stop = rw e at is in
          let other : s ≡ stop = omega (arith, cases_lt n stop, λ (q : n ≡ s). eqb-false n s at q) in
          let more = later other in omega arith
      | inr e ↦ let other : s ≡ stop = rw e at is in let more = later other in omega arith
    ]

pub found_at_stop : (lines from s : ℕ) (traps : List Trap) → s ≡ next_stop lines from traps → s < lines → first_index (is_lying lines s) traps < length traps
found_at_stop lines from s [] is before = absurd (omega arith)
found_at_stop lines from s (t ∷ traps) is before =
    found_by_test (is_lying lines s t) (place_of lines t.place) from (next_stop lines from traps) s (first_index (is_lying lines s) traps) (length traps) is refl
    (λ e. found_at_stop lines from s traps e before)

-- behind a last trap the next stop is the nearer one
swap_by_tests : (b c : Bool) (n m stop : ℕ) → (if b then min n (if c then min m stop else stop) else (if c then min m stop else stop))
    ≡ (if c then min m (if b then min n stop else stop) else (if b then min n stop else stop))
swap_by_tests true true n m stop = omega arith
swap_by_tests true false n m stop = refl
swap_by_tests false true n m stop = refl
swap_by_tests false false n m stop = refl

nearer_swap : (from : ℕ) (o p : Option ℕ) (stop : ℕ) → nearer_stop from o (nearer_stop from p stop) ≡ nearer_stop from p (nearer_stop from o stop)
nearer_swap from None p stop = refl
nearer_swap from (Some n) None stop = refl
nearer_swap from (Some n) (Some m) stop = swap_by_tests (nat_lt from n) (nat_lt from m) n m stop

pub next_stop-last : (lines from : ℕ) (traps : List Trap) (t : Trap) → next_stop lines from (traps ++ t ∷ []) ≡ nearer_stop from (place_of lines t.place) (next_stop lines from traps)
next_stop-last lines from [] t = refl
next_stop-last lines from (u ∷ traps) t =
    ap (nearer_stop from (place_of lines u.place)) (next_stop-last lines from traps t)
    ∙ nearer_swap from (place_of lines u.place) (place_of lines t.place) (next_stop lines from traps)

-- and the first trap that passes a test is the same, or the last one
pub first_index-before : (is_it : Trap → Bool) (traps : List Trap) (t : Trap) → first_index is_it traps < length traps
    → first_index is_it (traps ++ t ∷ []) ≡ first_index is_it traps
first_index-before is_it [] t within = absurd (omega arith)
first_index-before is_it (u ∷ traps) t within =
    elim (cases_Bool (is_it u)) [
      | inl e ↦ rw e refl
      | inr e ↦
          let there : suc (first_index is_it traps) < length (u ∷ traps) = rw e at within in
          rw e (ap suc (first_index-before is_it traps t (omega arith)))
    ]

pub first_index-last : (is_it : Trap → Bool) (traps : List Trap) (t : Trap) → length traps ≤ first_index is_it traps → is_it t ≡ true
    → first_index is_it (traps ++ t ∷ []) ≡ length traps
first_index-last is_it [] t none is = rw is refl
first_index-last is_it (u ∷ traps) t none is =
    elim (cases_Bool (is_it u)) [
      | inl e ↦ let behind : length (u ∷ traps) ≤ 0 = rw e at none in absurd (omega arith)
      | inr e ↦
          let behind : length (u ∷ traps) ≤ suc (first_index is_it traps) = rw e at none in
          rw e (ap suc (first_index-last is_it traps t (omega arith) is))
    ]

-- no trap lies between a place and the next stop
apart : (from p stop : ℕ) (o : Option ℕ) (b : Bool) → from < p → p < nearer_stop from o stop → is_at p o ≡ b → b ≡ false
apart from p stop o false beyond before at = refl
apart from p stop None true beyond before at = sym at
apart from p stop (Some n) true beyond before at =
    let is : n ≡ p = eqb-true n p at in
    let near : p < min n stop = rw (lt-ltb from n (omega arith)) at before in
    absurd (omega arith)

none_by_test : (b : Bool) (index count : ℕ) → b ≡ false → count ≤ index → suc count ≤ (if b then 0 else suc index)
none_by_test true index count e none = absurd (false≢true (sym e))
none_by_test false index count e none = omega arith

pub none_between : (lines from p : ℕ) (traps : List Trap) → from < p → p < next_stop lines from traps → length traps ≤ first_index (is_lying lines p) traps
none_between lines from p [] beyond before = omega arith
none_between lines from p (t ∷ traps) beyond before =
    let o = place_of lines t.place in
    let stop = next_stop lines from traps in
    none_by_test (is_lying lines p t) (first_index (is_lying lines p) traps) (length traps) (apart from p stop o (is_at p o) beyond before refl)
    (none_between lines from p traps beyond (omega (arith, nearer_le from o stop)))

-- a stop that is nearer is the trap
nearer_is_by_test : (b : Bool) (from n stop : ℕ) → nat_lt from n ≡ b → (if b then min n stop else stop) < stop → (from < n) × (n ≡ (if b then min n stop else stop))
nearer_is_by_test true from n stop e near = (ltb-true from n e, omega arith)
nearer_is_by_test false from n stop e near = absurd (omega arith)

nearer_is : (from : ℕ) (o : Option ℕ) (stop : ℕ) → nearer_stop from o stop < stop → (from < nearer_stop from o stop) × (is_at (nearer_stop from o stop) o ≡ true)
nearer_is from None stop near = absurd (omega arith)
nearer_is from (Some n) stop near =
    let is = nearer_is_by_test (nat_lt from n) from n stop refl near in
    let at : n ≡ nearer_stop from (Some n) stop = is.1 in
    (subst (λ (m : ℕ). from < m) at is.0, eq-eqb n (nearer_stop from (Some n) stop) at)

-- what is known where a trap was planted as the last
pub planted_nearer : (lines from stop count : ℕ) (traps : List Trap) (t : Trap) → count ≡ length traps → stop ≡ next_stop lines from traps
    → nearer_stop from (place_of lines t.place) stop < stop → IsFirstAt lines (nearer_stop from (place_of lines t.place) stop) (traps ++ t ∷ []) count
planted_nearer lines from stop count traps t counted is near before =
    let s = nearer_stop from (place_of lines t.place) stop in
    let there = nearer_is from (place_of lines t.place) stop near in
    counted ∙ sym (first_index-last (is_lying lines s) traps t (none_between lines from s traps there.0 (omega arith)) there.1)

pub planted_further : (lines from stop index : ℕ) (traps : List Trap) (t : Trap) → stop ≡ next_stop lines from traps → IsFirstAt lines stop traps index
    → IsFirstAt lines stop (traps ++ t ∷ []) index
planted_further lines from stop index traps t is first before =
    first before ∙ sym (first_index-before (is_lying lines stop) traps t (found_at_stop lines from stop traps is before))

-- what is known where all other stops were forgotten
pub all_forgotten : (lines stop : ℕ) (traps : List Trap) (known : Stops) → IsFirstAt lines stop traps known.trap → known.beyond.items ≡ [] → known.top ≡ None
    → AreKnown lines stop traps known
all_forgotten lines stop traps known first none untold = record {
  trap = first;
  beyond = subst (AreNext lines traps) (sym none) tt;
  few = omega (arith, ap (λ (bs : List Beyond). length bs) none);
  top = subst (MayBeginWith lines traps) (sym untold) tt;
}

-- the next stop behind a last trap, as it is computed
pub planted_stop : (lines from stop nearer : ℕ) (traps : List Trap) (t : Trap) (o : Option ℕ) → o ≡ place_of lines t.place → nearer ≡ nearer_stop from o stop
    → stop ≡ next_stop lines from traps → nearer ≡ next_stop lines from (traps ++ t ∷ [])
planted_stop lines from stop nearer traps t o at is before =
    is ∙ (ap (λ (o : Option ℕ). nearer_stop from o stop) at ∙ (ap (nearer_stop from (place_of lines t.place)) before ∙ sym (next_stop-last lines from traps t)))
