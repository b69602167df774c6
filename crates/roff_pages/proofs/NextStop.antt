-- The next stop of a page, and the traps that lie before it.
use Rattle.std.proofs.Common.{◌≡◌, ℕ, ◌+◌, ◌-◌, ◌<◌, ◌≤◌, min, Bool, true, false, not, ◌||◌, ltb, ℤ, pos, negsuc, List, [], ◌∷◌, length, replicate, Option, Some, None, refl, sym, ap, ◌∙◌, subst, arith, inl, inr, if◌then◌else◌, nat_lt, nat_le, is_some, ltb-true, ltb-false, lt-ltb, leb-false, length-append}
use Rattle.std.specs.List.{AllByRecursion}
use Rattle.std.proofs.lemmas.Bool.{cases_Bool, lt-leb, and_from, and_left, and_right, false≢true, cases_lt}
use Rattle.std.proofs.lemmas.List.{length-replicate}
use Rattle.roff_num.specs.declared.short_name.ShortName.{ShortName}
use Rattle.page_model.specs.Words.{is_empty}
use Rattle.page_model.specs.declared.trap.Trap.{Trap}
use Rattle.page_model.specs.Layout.{Box, Lined, Empty, Layout, Diversion, page_place}
use Rattle.page_model.specs.Stops.{Target, place_of, nearer_stop, next_stop, page_target, innermost}
use Rattle.page_model.specs.Puts.{Put, boxes_behind, boxes_put}
use Rattle.page_model.specs.Springs.{is_passed, first_met}
use Rattle.roff_pages.specs.Reach.{IsMetAtEnd}

-- a place, if there is one, lies before a page's end
abbrev pub IsSomeBelow : ℕ → Option ℕ → Type 0
IsSomeBelow length None = Unit {0}
IsSomeBelow length (Some n) = n < length

below_by_test : (b : Bool) (m n length : ℕ) → ltb m length ≡ b → (m < length → n < length) → IsSomeBelow length (if b then Some n else None)
below_by_test true m n length e below = below (ltb-true m length e)
below_by_test false m n length e below = tt

-- a trap's place lies before the page's end
place_of-below : (length : ℕ) (z : ℤ) → IsSomeBelow length (place_of length z)
place_of-below length (pos m) = below_by_test (nat_lt m length) m m length refl (λ h. h)
place_of-below length (negsuc m) = below_by_test (nat_lt m length) m (length - (m + 1)) length refl (λ h. omega arith)

-- where the nearer of two stops isn't beyond a place, neither is the second
nearer_end_by_test : (b : Bool) (place n stop : ℕ) → ltb place n ≡ b → (if b then min n stop else stop) ≤ place → stop ≤ place
nearer_end_by_test true place n stop e h = omega (arith, ltb-true place n e)
nearer_end_by_test false place n stop e h = h

nearer_end : (place : ℕ) (o : Option ℕ) (stop : ℕ) → nearer_stop place o stop ≤ place → stop ≤ place
nearer_end place None stop h = h
nearer_end place (Some n) stop h = nearer_end_by_test (nat_lt place n) place n stop refl h

-- a stop that isn't beyond the place is the page's end
pub next_stop-end : (length place : ℕ) (traps : List Trap) → next_stop length place traps ≤ place → length ≤ place
next_stop-end length place [] h = h
next_stop-end length place (t ∷ traps) h = next_stop-end length place traps (nearer_end place (place_of length t.place) (next_stop length place traps) h)

-- where a page is full its traps lie no further
nearer_full_by_test : (b : Bool) (place n stop length : ℕ) → ltb place n ≡ b → n < length → length ≤ place → (if b then min n stop else stop) ≡ stop
nearer_full_by_test true place n stop length e below full = absurd (omega (arith, ltb-true place n e))
nearer_full_by_test false place n stop length e below full = refl

nearer_full : (place : ℕ) (o : Option ℕ) (stop length : ℕ) → IsSomeBelow length o → length ≤ place → nearer_stop place o stop ≡ stop
nearer_full place None stop length below full = refl
nearer_full place (Some n) stop length below full = nearer_full_by_test (nat_lt place n) place n stop length refl below full

-- and its next stop is its end
pub next_stop-full : (length place : ℕ) (traps : List Trap) → length ≤ place → next_stop length place traps ≡ length
next_stop-full length place [] full = refl
next_stop-full length place (t ∷ traps) full =
    nearer_full place (place_of length t.place) (next_stop length place traps) length (place_of-below length t.place) full
    ∙ next_stop-full length place traps full

-- the nearer stop is no later than the second
nearer_le_by_test : (b : Bool) (n stop : ℕ) → (if b then min n stop else stop) ≤ stop
nearer_le_by_test true n stop = omega arith
nearer_le_by_test false n stop = omega arith

pub nearer_le : (place : ℕ) (o : Option ℕ) (stop : ℕ) → nearer_stop place o stop ≤ stop
nearer_le place None stop = omega arith
nearer_le place (Some n) stop = nearer_le_by_test (nat_lt place n) n stop

-- of three stops it doesn't matter which two are compared first
nearer_assoc_by_test : (b : Bool) (n m stop : ℕ) → min (if b then min n m else m) stop ≡ min m (if b then min n stop else stop)
nearer_assoc_by_test true n m stop = omega arith
nearer_assoc_by_test false n m stop = refl

pub nearer_assoc : (place : ℕ) (o : Option ℕ) (m stop : ℕ) → min (nearer_stop place o m) stop ≡ min m (nearer_stop place o stop)
nearer_assoc place None m stop = refl
nearer_assoc place (Some n) m stop = nearer_assoc_by_test (nat_lt place n) n m stop

-- no stop lies behind the page's end
pub next_stop_le : (length place : ℕ) (traps : List Trap) → next_stop length place traps ≤ length
next_stop_le length place [] = omega arith
next_stop_le length place (t ∷ traps) =
    omega (arith, next_stop_le length place traps, nearer_le place (place_of length t.place) (next_stop length place traps))

-- what reaches no further than the nearer stop reaches no further than the second
nearer_within_by_test : (b : Bool) (place to n stop : ℕ) → ltb place n ≡ b
    → (place < (if b then min n stop else stop) → to ≤ (if b then min n stop else stop)) → place < stop → to ≤ stop
nearer_within_by_test true place to n stop e h beyond =
    let before = ltb-true place n e in
    let near : place < min n stop → to ≤ min n stop = h in
    let reached : to ≤ min n stop = near (omega arith) in
    omega arith
nearer_within_by_test false place to n stop e h beyond = h beyond

nearer_within : (place to : ℕ) (o : Option ℕ) (stop : ℕ) → (place < nearer_stop place o stop → to ≤ nearer_stop place o stop) → place < stop → to ≤ stop
nearer_within place to None stop h beyond = h beyond
nearer_within place to (Some n) stop h beyond = nearer_within_by_test (nat_lt place n) place to n stop refl h beyond

-- a trap that such a reach passes lies at its end
meets_by_test : (b : Bool) (length place to n stop : ℕ) → ltb place n ≡ b → n < length → (stop ≤ place → length ≤ place)
    → (place < (if b then min n stop else stop) → to ≤ (if b then min n stop else stop)) → place < n → n ≤ to → n ≡ to
meets_by_test true length place to n stop e below at_end h beyond passed =
    let before : place < n = ltb-true place n e in
    let further : place < stop = elim (cases_lt place stop) [ inl f ↦ f | inr f ↦ absurd (omega (arith, at_end f)) ] in
    let near : place < min n stop → to ≤ min n stop = h in
    let reached : to ≤ min n stop = near (omega arith) in
    omega arith
meets_by_test false length place to n stop e below at_end h beyond passed = absurd (omega (arith, ltb-false place n e))

meets : (length place to : ℕ) (o : Option ℕ) (stop : ℕ) → IsSomeBelow length o → (stop ≤ place → length ≤ place)
    → (place < nearer_stop place o stop → to ≤ nearer_stop place o stop) → IsMetAtEnd place to o
meets length place to None stop below at_end h = tt
meets length place to (Some n) stop below at_end h = meets_by_test (nat_lt place n) length place to n stop refl below at_end h

pub met_at_end : (length place to : ℕ) (traps : List Trap) → (place < next_stop length place traps → to ≤ next_stop length place traps)
    → AllByRecursion (λ (t : Trap). IsMetAtEnd place to (place_of length t.place)) traps
met_at_end length place to [] h = tt
met_at_end length place to (t ∷ traps) h = (
  meets length place to (place_of length t.place) (next_stop length place traps) (place_of-below length t.place) (next_stop-end length place traps) h,
  met_at_end length place to traps (nearer_within place to (place_of length t.place) (next_stop length place traps) h),
)

-- boxes reach no further than the stop, where it lies beyond the place
pub boxes_behind-within : (place stop : ℕ) (first : Option (List ℕ)) (k : ℕ) → place < stop
    → place + length (boxes_behind place (Some stop) first k) ≤ stop
boxes_behind-within place stop None k beyond =
    omega (arith, length-replicate {A = Box} (min k (stop - place)) Empty)
boxes_behind-within place stop (Some text) k beyond =
    omega (arith, length-append {A = Box} (replicate (min k (stop - (place + 1))) Empty) (Lined text ∷ []), length-replicate {A = Box} (min k (stop - (place + 1))) Empty)

boxes_put-within : (place stop : ℕ) (mode : Bool) (p : Option Put) → place < stop
    → place + length (boxes_put (record { place = place; stop = Some stop; no_space = mode }) p) ≤ stop
boxes_put-within place stop mode None beyond = omega arith
boxes_put-within place stop mode (Some p) beyond = boxes_behind-within place stop p.first p.space beyond

-- what a put reaches on a page
pub page_put-within : (L : Layout) (p : Option Put) → page_place L < next_stop L.length (page_place L) L.traps
    → page_place L + length (boxes_put (page_target L) p) ≤ next_stop L.length (page_place L) L.traps
page_put-within L p beyond = boxes_put-within (page_place L) (next_stop L.length (page_place L) L.traps) L.no_space p beyond

-- where no box goes into a diversion, the target is the page
pub on_the_page : (is_eject : Bool) (ds : List Diversion) (page : Target) → not (is_eject || is_empty ds) ≡ false
    → page ≡ (if is_eject then page else innermost ds page)
on_the_page true ds page h = refl
on_the_page false [] page h = refl
on_the_page false (d ∷ ds) page h = cc

-- the traps that a put on a page passes lie where its boxes end
pub page_met : (L : Layout) (t : Target) (p : Option Put) → page_target L ≡ t
    → AllByRecursion (λ (trap : Trap). IsMetAtEnd t.place (t.place + length (boxes_put t p)) (place_of L.length trap.place)) L.traps
page_met L t p e =
    let P : Target → Type 0 = λ t. AllByRecursion (λ (trap : Trap). IsMetAtEnd t.place (t.place + length (boxes_put t p)) (place_of L.length trap.place)) L.traps in
    subst P e (met_at_end L.length (page_place L) (page_place L + length (boxes_put (page_target L) p)) L.traps (page_put-within L p))

-- a trap beyond a place that isn't passed lies further
not_passed : (place to n : ℕ) → place < n → is_passed place to (Some n) ≡ false → to < n
not_passed place to n before h =
    elim (cases_Bool (nat_le n to)) [
      | inl e ↦ absurd (false≢true (sym h ∙ and_from (nat_lt place n) (nat_le n to) (lt-ltb place n before) e))
      | inr e ↦ leb-false n to e
    ]

-- the trap at which the next stop lies is met there
waits_by_test : (b passes : Bool) (place to n stop : ℕ) (rest : Option ShortName) (name : ShortName)
    → ltb place n ≡ b → is_passed place to (Some n) ≡ passes → to ≡ (if b then min n stop else stop)
    → (to ≡ stop → is_some rest ≡ true) → is_some (if passes then Some name else rest) ≡ true
waits_by_test b true place to n stop rest name e p is later = refl
waits_by_test false false place to n stop rest name e p is later = later is
waits_by_test true false place to n stop rest name e p is later =
    let before = ltb-true place n e in
    let beyond : to < n = omega (arith, not_passed place to n before p) in
    later (omega arith)

waits_at : (place to : ℕ) (o : Option ℕ) (stop : ℕ) (rest : Option ShortName) (name : ShortName)
    → to ≡ nearer_stop place o stop → (to ≡ stop → is_some rest ≡ true)
    → is_some (if is_passed place to o then Some name else rest) ≡ true
waits_at place to None stop rest name is later = later is
waits_at place to (Some n) stop rest name is later =
    waits_by_test (nat_lt place n) (is_passed place to (Some n)) place to n stop rest name refl refl is later

-- a stop before the page's end is a trap, which is met there
pub first_met-stop : (length place to : ℕ) (traps : List Trap) → to ≡ next_stop length place traps → to < length
    → is_some (first_met (is_passed place to) length traps) ≡ true
first_met-stop length place to [] is before = absurd (omega arith)
first_met-stop length place to (t ∷ traps) is before =
    waits_at place to (place_of length t.place) (next_stop length place traps) (first_met (is_passed place to) length traps) t.name is (λ e. first_met-stop length place to traps e before)

-- up to a place before the next stop no trap is met, and the next stop stays
none_by_test : (b : Bool) (place to n stop : ℕ) → ltb place n ≡ b → to < (if b then min n stop else stop) → is_passed place to (Some n) ≡ false
none_by_test true place to n stop e before = and_right (nat_lt place n) (nat_le n to) (lt-leb n to (omega arith))
none_by_test false place to n stop e before = and_left (nat_lt place n) (nat_le n to) e

none_at : (place to : ℕ) (o : Option ℕ) (stop : ℕ) → to < nearer_stop place o stop → is_passed place to o ≡ false
none_at place to None stop before = refl
none_at place to (Some n) stop before = none_by_test (nat_lt place n) place to n stop refl before

before_second : (place to : ℕ) (o : Option ℕ) (stop : ℕ) → to < nearer_stop place o stop → to < stop
before_second place to o stop before = omega (arith, nearer_le place o stop)

pub first_met-none : (length place to : ℕ) (traps : List Trap) → to < next_stop length place traps
    → first_met (is_passed place to) length traps ≡ None
first_met-none length place to [] before = refl
first_met-none length place to (t ∷ traps) before =
    rw (none_at place to (place_of length t.place) (next_stop length place traps) before)
    (first_met-none length place to traps (before_second place to (place_of length t.place) (next_stop length place traps) before))

stays_by_tests : (b c : Bool) (place to n stop : ℕ) → ltb place n ≡ b → ltb to n ≡ c → place ≤ to → to < (if b then min n stop else stop)
    → (if c then min n stop else stop) ≡ (if b then min n stop else stop)
stays_by_tests true true place to n stop e f on before = refl
stays_by_tests false false place to n stop e f on before = refl
stays_by_tests true false place to n stop e f on before = absurd (omega (arith, ltb-false to n f))
stays_by_tests false true place to n stop e f on before = absurd (omega (arith, ltb-false place n e, ltb-true to n f))

stays_at : (place to : ℕ) (o : Option ℕ) (stop : ℕ) → place ≤ to → to < nearer_stop place o stop → nearer_stop to o stop ≡ nearer_stop place o stop
stays_at place to None stop on before = refl
stays_at place to (Some n) stop on before = stays_by_tests (nat_lt place n) (nat_lt to n) place to n stop refl refl on before

pub next_stop-stays : (length place to : ℕ) (traps : List Trap) → place ≤ to → to < next_stop length place traps
    → next_stop length to traps ≡ next_stop length place traps
next_stop-stays length place to [] on before = refl
next_stop-stays length place to (t ∷ traps) on before =
    let o = place_of length t.place in
    let stop = next_stop length place traps in
    ap (nearer_stop to o) (next_stop-stays length place to traps on (before_second place to o stop before)) ∙ stays_at place to o stop on before
