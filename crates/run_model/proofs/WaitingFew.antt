-- Of the events of a step few wait behind a macro that one of them springs.
use Rattle.std.proofs.Common.{◌≡◌, ◌≤◌, ℕ, zero, suc, Bool, true, false, List, [], ◌∷◌, length, refl, arith}
use Rattle.run_model.specs.PageEvents.{PageEvent}
use Rattle.run_model.specs.Springs.{AreFewBehind, may_spring}

-- there are so many events at the most
abbrev pub AtMost : ℕ → List PageEvent → Type 0
AtMost n [] = Unit {0}
AtMost zero (e ∷ es) = ⊥
AtMost (suc n) (e ∷ es) = AtMost n es

-- one of two facts, by a test
abbrev pub OneOf : Bool → Type 0 → Type 0 → Type 0
OneOf true first second = first
OneOf false first second = second

-- from the first on that may spring a macro they are so few that they can be put back
abbrev pub FewWait : List PageEvent → Type 0
FewWait [] = Unit {0}
FewWait (e ∷ es) = OneOf (may_spring e) (AtMost 4 es) (FewWait es)

pub at_most-more : (n : ℕ) (es : List PageEvent) → AtMost n es → AtMost (suc n) es
at_most-more n [] most = tt
at_most-more zero (e ∷ es) most = absurd most
at_most-more (suc n) (e ∷ es) most = at_most-more n es most

at_most-length : (n : ℕ) (es : List PageEvent) → AtMost n es → length es ≤ n
at_most-length n [] most = omega arith
at_most-length zero (e ∷ es) most = absurd most
at_most-length (suc n) (e ∷ es) most =
    let fewer : length es ≤ n = at_most-length n es most in omega (arith, fewer)

-- both of two facts
one_of-both : (b : Bool) (first second : Type 0) → first → second → OneOf b first second
one_of-both true first second one other = one
one_of-both false first second one other = other

-- so few events may all wait
pub FewWait-short : (es : List PageEvent) → AtMost 5 es → FewWait es
FewWait-short [] short = tt
FewWait-short (e ∷ es) short = one_of-both (may_spring e) (AtMost 4 es) (FewWait es) short (FewWait-short es (at_most-more 4 es short))

-- where few wait, few stand behind each that may spring a macro
pub few-waiting : (es : List PageEvent) → FewWait es → AreFewBehind es
few-waiting [] few = tt
few-waiting (e ∷ es) few = by_test (may_spring e) refl few (λ others. few-waiting es others)
  where
    by_test : (may : Bool) → may_spring e ≡ may → OneOf may (AtMost 4 es) (FewWait es) → (FewWait es → AreFewBehind es) → AreFewBehind (e ∷ es)
    by_test true is most behind =
        let fewer : length es ≤ 4 = at_most-length 4 es most in
        ((λ may. omega (arith, fewer)), behind (FewWait-short es (at_most-more 4 es most)))
    by_test false is few behind = ((λ may. absurd (cc)), behind few)
