-- A tab leads to the nearest stop beyond the place.
use Rattle.std.proofs.Common.{◌≡◌, ℕ, ◌+◌, ◌-◌, ◌%◌, ◌<◌, ◌≤◌, Bool, true, false, List, [], ◌∷◌, ◌++◌, Option, Some, None, refl, sym, ap, ◌∙◌, arith, inl, inr, ne_eqb, if◌then◌else◌, ◌==◌, nat_le, nat_lt, eqb-true}
use Rattle.std.proofs.lemmas.Bool.{cases_Bool}
use Rattle.std.proofs.lemmas.Bool.Decides.{nat_tests}
use Rattle.page_model.specs.declared.stop.TabStop.{TabStop}
use Rattle.page_model.specs.declared.stop.StopKind.{StopKind}
use Rattle.page_model.specs.TabStops.{TabStops, Way, shorter_way, way_to_nearest, way_to_next}
use Rattle.law_lines.specs.NearestStop.{first_at, stop_at, IsNearest, LeadsToNearest}

-- the first of some stops is the one at its column
first_at-same : (s : TabStop) (stops : List TabStop) (n : ℕ) → s.column ≡ n → first_at (s ∷ stops) n ≡ Some s.kind
first_at-same s stops n here = let test : (s.column == n) ≡ true = grind (arith, nat_tests, here) in rw test refl

-- and at others the stop is one of the rest
first_at-other : (s : TabStop) (stops : List TabStop) (n : ℕ) → (s.column ≡ n → ⊥) → first_at (s ∷ stops) n ≡ first_at stops n
first_at-other s stops n other = let test : (s.column == n) ≡ false = ne_eqb s.column n other in rw test refl

-- no way to the first stop: what leads to the nearest of the rest leads to the nearest
leads-behind : (s : TabStop) (stops : List TabStop) (place : ℕ) (way : Option Way) → s.column ≤ place
    → LeadsToNearest (Some stops) place way → LeadsToNearest (Some (s ∷ stops)) place way
leads-behind s stops place None before leads =
    λ n far. first_at-other s stops n (λ here. absurd (omega (arith, before, far, here))) ∙ leads n far
leads-behind s stops place (Some way) before leads = record {
  beyond = leads.beyond;
  to_stop = first_at-other s stops (place + way.columns) (λ here. absurd (omega (arith, before, here, leads.beyond))) ∙ leads.to_stop;
  nearest = λ n far near. first_at-other s stops n (λ here. absurd (omega (arith, before, far, here))) ∙ leads.nearest n far near;
}

-- the way to the first stop
abbrev way_to : ℕ → TabStop → Way
way_to place s = record { columns = s.column - place; kind = s.kind }

-- it is the nearest where none of the rest stands nearer
leads-first : (s : TabStop) (stops : List TabStop) (place : ℕ) → place < s.column
    → ((n : ℕ) → place < n → n < s.column → first_at stops n ≡ None) → IsNearest (Some (s ∷ stops)) place (way_to place s)
leads-first s stops place before none = record {
  beyond = omega (arith, before);
  to_stop = first_at-same s stops (place + (s.column - place)) (omega (arith, before));
  nearest = λ n far near.
      let below : n < s.column = omega (arith, before, near) in
      first_at-other s stops n (λ here. absurd (omega (arith, below, here))) ∙ none n far below;
}

-- and where one of the rest does, the way to that
leads-nearer : (s : TabStop) (stops : List TabStop) (place : ℕ) (way : Way) → place + way.columns < s.column
    → IsNearest (Some stops) place way → IsNearest (Some (s ∷ stops)) place way
leads-nearer s stops place way before leads = record {
  beyond = leads.beyond;
  to_stop = first_at-other s stops (place + way.columns) (λ here. absurd (omega (arith, before, here))) ∙ leads.to_stop;
  nearest = λ n far near. first_at-other s stops n (λ here. absurd (omega (arith, before, near, here))) ∙ leads.nearest n far near;
}

-- so the shorter of both ways is the nearest
leads-shorter : (s : TabStop) (stops : List TabStop) (place : ℕ) (way : Option Way) → place < s.column
    → LeadsToNearest (Some stops) place way → LeadsToNearest (Some (s ∷ stops)) place (shorter_way (Some (way_to place s)) way)
leads-shorter s stops place None before leads = leads-first s stops place before (λ n far near. leads n far)
leads-shorter s stops place (Some way) before leads =
    elim (cases_Bool (nat_le (s.column - place) way.columns)) [
      | inl e ↦
          let short : s.column - place ≤ way.columns = grind (arith, nat_tests, e) in
          rw e (leads-first s stops place before (λ n far near. leads.nearest n far (omega (arith, short, before, near))))
      | inr e ↦
          let long : way.columns < s.column - place = grind (arith, nat_tests, e) in
          rw e (leads-nearer s stops place way (omega (arith, long)) leads)
    ]

-- the way to the nearest of some stops leads there
leads_to_set : (stops : List TabStop) (place : ℕ) → LeadsToNearest (Some stops) place (way_to_nearest stops place)
leads_to_set [] place = λ n far. refl
leads_to_set (s ∷ stops) place =
    elim (cases_Bool (nat_lt place s.column)) [
      | inl e ↦
          let before : place < s.column = grind (arith, nat_tests, e) in
          rw e (leads-shorter s stops place (way_to_nearest stops place) before (leads_to_set stops place))
      | inr e ↦
          let before : s.column ≤ place = grind (arith, nat_tests, e) in
          rw e (leads-behind s stops place (way_to_nearest stops place) before (leads_to_set stops place))
    ]

-- a stop stands at each eighth column, and the way leads to one
eighth-to : (place : ℕ) → (place + (8 - place % 8)) % 8 ≡ 0
eighth-to place = grind arith

-- there is always a way to it
eighth-some : (place : ℕ) → 0 < 8 - place % 8
eighth-some place = grind arith

-- and none stands nearer
eighth-nearest : (place n : ℕ) → place < n → n < place + (8 - place % 8) → n % 8 ≡ 0 → ⊥
eighth-nearest place n far near eighth = absurd (grind (arith, far, near, eighth))

-- the way leads to the nearest stop
pub leads_to_nearest : (stops : TabStops) (place : ℕ) → LeadsToNearest stops place (way_to_next stops place)
leads_to_nearest None place = record {
  beyond = eighth-some place;
  to_stop = let test : ((place + (8 - place % 8)) % 8 == 0) ≡ true = rw (eighth-to place) refl in rw test refl;
  nearest = λ n far near. let test : (n % 8 == 0) ≡ false = ne_eqb (n % 8) 0 (eighth-nearest place n far near) in rw test refl;
}
leads_to_nearest (Some stops) place = leads_to_set stops place

-- where one stop stands, there is one
not-both : {A : Type 0} (o : Option A) (x : A) → o ≡ None → o ≡ Some x → ⊥
not-both o x none some = cc

-- of two nearest ways none is longer than the other
no-longer : (stops more : TabStops) (place : ℕ) (v w : Way) → ((n : ℕ) → stop_at stops n ≡ stop_at more n)
    → IsNearest stops place v → IsNearest more place w → v.columns ≤ w.columns
no-longer stops more place v w same first second =
    elim (cases_Bool (nat_le v.columns w.columns)) [
      | inl e ↦ grind (arith, nat_tests, e)
      | inr e ↦
          let longer : w.columns < v.columns = grind (arith, nat_tests, e) in
          let there = place + w.columns in
          let none : stop_at stops there ≡ None = first.nearest there (omega (arith, second.beyond)) (omega (arith, longer)) in
          absurd (not-both (stop_at stops there) w.kind none (same there ∙ second.to_stop))
    ]

-- so they are the same
nearest-same : (stops more : TabStops) (place : ℕ) (v w : Way) → ((n : ℕ) → stop_at stops n ≡ stop_at more n)
    → IsNearest stops place v → IsNearest more place w → Some v ≡ Some w
nearest-same stops more place v w same first second =
    let short = no-longer stops more place v w same first second in
    let long = no-longer more stops place w v (λ n. sym (same n)) second first in
    let columns : v.columns ≡ w.columns = omega (arith, short, long) in
    let there : stop_at stops (place + v.columns) ≡ Some w.kind =
    ap (λ n. stop_at stops (place + n)) columns ∙ same (place + w.columns) ∙ second.to_stop in
    let kind : v.kind ≡ w.kind = let e = sym first.to_stop ∙ there in cc in
    let way : ℕ → StopKind → Option Way = λ n k. Some (record { columns = n; kind = k }) in
    ap (λ n. way n v.kind) columns ∙ ap (way w.columns) kind

-- what leads to the nearest of the same stops is the same
leads-same : (stops more : TabStops) (place : ℕ) (v w : Option Way) → ((n : ℕ) → stop_at stops n ≡ stop_at more n)
    → LeadsToNearest stops place v → LeadsToNearest more place w → v ≡ w
leads-same stops more place None None same first second = refl
leads-same stops more place None (Some w) same first second =
    let there = place + w.columns in
    let none : stop_at stops there ≡ None = first there (omega (arith, second.beyond)) in
    absurd (not-both (stop_at stops there) w.kind none (same there ∙ second.to_stop))
leads-same stops more place (Some v) None same first second =
    let there = place + v.columns in
    let none : stop_at more there ≡ None = second there (omega (arith, first.beyond)) in
    absurd (not-both (stop_at more there) v.kind none (sym (same there) ∙ first.to_stop))
leads-same stops more place (Some v) (Some w) same first second = nearest-same stops more place v w same first second

-- so the same stops, in any order, give the same way
pub way_to_next-same : (stops more : TabStops) (place : ℕ) → ((n : ℕ) → stop_at stops n ≡ stop_at more n)
    → way_to_next stops place ≡ way_to_next more place
way_to_next-same stops more place same =
    leads-same stops more place (way_to_next stops place) (way_to_next more place) same
    (leads_to_nearest stops place) (leads_to_nearest more place)

-- two stops at different places, in either order, are the same at each
swapped-at : (first second : Bool) (j k : StopKind) (rest : Option StopKind) → (first ≡ true → second ≡ true → ⊥)
    → (if first then Some j else if second then Some k else rest) ≡ (if second then Some k else if first then Some j else rest)
swapped-at true true j k rest other = absurd (other refl refl)
swapped-at true false j k rest other = refl
swapped-at false true j k rest other = refl
swapped-at false false j k rest other = refl

module _ (s t : TabStop) (behind : List TabStop) (other : s.column ≡ t.column → ⊥) where
  first_at-swapped : (front : List TabStop) (n : ℕ) → first_at (front ++ s ∷ t ∷ behind) n ≡ first_at (front ++ t ∷ s ∷ behind) n
  first_at-swapped [] n =
      swapped-at (s.column == n) (t.column == n) s.kind t.kind (first_at behind n)
      (λ first second. other (eqb-true s.column n first ∙ sym (eqb-true t.column n second)))
  first_at-swapped (u ∷ front) n = ap (λ o. if u.column == n then Some u.kind else o) (first_at-swapped front n)

  -- so the way to the next stop is
  pub way_to_next-swapped : (front : List TabStop) (place : ℕ)
      → way_to_next (Some (front ++ s ∷ t ∷ behind)) place ≡ way_to_next (Some (front ++ t ∷ s ∷ behind)) place
  way_to_next-swapped front place =
      way_to_next-same (Some (front ++ s ∷ t ∷ behind)) (Some (front ++ t ∷ s ∷ behind)) place (first_at-swapped front)
