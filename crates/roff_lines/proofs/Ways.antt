-- Ways to tab stops.
use Rattle.std.proofs.Common.{◌≡◌, ℕ, Bool, true, false, Option, Some, None, refl, sym, ◌∙◌, arith, nat_le, if◌then◌else◌}
use Rattle.std.proofs.lemmas.Bool.Decides.{nat_tests}
use Rattle.page_model.specs.TabStops.{Way, shorter_way}

-- of three ways the first is taken where it is as short as both others, whichever two are looked at first
assoc_by_tests : (first second outer : Bool) (m n o : Option Way)
    → (first ≡ true → second ≡ true → outer ≡ true) → (first ≡ false → second ≡ false → outer ≡ false)
    → (if first then (if outer then m else o) else if second then n else o)
    ≡ (if second then (if first then m else n) else if outer then m else o)
assoc_by_tests true true true m n o both neither = refl
assoc_by_tests true true false m n o both neither = let e = both refl refl in cc
assoc_by_tests true false outer m n o both neither = refl
assoc_by_tests false true outer m n o both neither = refl
assoc_by_tests false false true m n o both neither = let e = neither refl refl in cc
assoc_by_tests false false false m n o both neither = refl

-- a way beside one of two
shorter_way-left : (test : Bool) (m n o : Option Way)
    → shorter_way (if test then m else n) o ≡ (if test then shorter_way m o else shorter_way n o)
shorter_way-left true m n o = refl
shorter_way-left false m n o = refl

shorter_way-right : (test : Bool) (m n o : Option Way)
    → shorter_way m (if test then n else o) ≡ (if test then shorter_way m n else shorter_way m o)
shorter_way-right true m n o = refl
shorter_way-right false m n o = refl

-- lengths are in order
le-both : (a b c : ℕ) → nat_le a b ≡ true → nat_le b c ≡ true → nat_le a c ≡ true
le-both a b c one other = grind (arith, nat_tests, one, other)

le-neither : (a b c : ℕ) → nat_le a b ≡ false → nat_le b c ≡ false → nat_le a c ≡ false
le-neither a b c one other = grind (arith, nat_tests, one, other)

-- the shortest of three ways is the same, whichever two are taken first
pub shorter_way_assoc : (m n o : Option Way) → shorter_way (shorter_way m n) o ≡ shorter_way m (shorter_way n o)
shorter_way_assoc None n o = refl
shorter_way_assoc (Some m) None o = refl
shorter_way_assoc (Some m) (Some n) None =
    shorter_way-left (nat_le m.columns n.columns) (Some m) (Some n) None
shorter_way_assoc (Some m) (Some n) (Some o) =
    let first = nat_le m.columns n.columns in
    let second = nat_le n.columns o.columns in
    shorter_way-left first (Some m) (Some n) (Some o)
    ∙ assoc_by_tests first second (nat_le m.columns o.columns) (Some m) (Some n) (Some o)
    (le-both m.columns n.columns o.columns) (le-neither m.columns n.columns o.columns)
    ∙ sym (shorter_way-right second (Some m) (Some n) (Some o))

-- no way leaves another as it is
pub shorter_way_none : (m : Option Way) → shorter_way m None ≡ m
shorter_way_none None = refl
shorter_way_none (Some m) = refl
