-- Parts of lists.
use Rattle.std.proofs.Common.{◌≡◌, ℕ, zero, suc, ◌+◌, ◌-◌, ◌<◌, ◌≤◌, min, List, ◌∷◌, length, take, drop, get_or, replicate, sym, ap, ◌∙◌, arith, length-drop, length-take}
use Rattle.std.specs.List.{slice_range}
use Rattle.std.proofs.lemmas.List.{drop_more}

-- a part begins with its first element
pub slice_range-more : {A : Type 0} (items : List A) (from end : ℕ) (x : A) → from < end → end ≤ length items → x ≡ get_or items from x
    → slice_range items from end ≡ x ∷ slice_range items (from + 1) end
slice_range-more {A = A} items from end x some within is =
    let n : end - from ≡ suc (end - (from + 1)) = omega (arith, some) in
    ap (λ (xs : List A). take (end - from) xs) (drop_more items from x (omega (arith, some, within)))
    ∙ ap (λ (m : ℕ). take m (get_or items from x ∷ drop (from + 1) items)) n
    ∙ ap (λ (y : A). y ∷ take (end - (from + 1)) (drop (from + 1) items)) (sym is)

-- the front of a list of one item is one too
pub take-replicate : (m n y : ℕ) → take m (replicate n y) ≡ replicate (min m n) y
take-replicate zero n y =
    let none : zero ≡ min zero n = omega arith in
    ap (λ (k : ℕ). replicate k y) none
take-replicate (suc m) zero y =
    let none : zero ≡ min (suc m) zero = omega arith in
    ap (λ (k : ℕ). replicate k y) none
take-replicate (suc m) (suc n) y =
    let fewer : suc (min m n) ≡ min (suc m) (suc n) = omega arith in
    ap (λ (xs : List ℕ). y ∷ xs) (take-replicate m n y) ∙ ap (λ (k : ℕ). replicate k y) fewer

-- a part that has all its items ends within the list
pub part-within : (items : List ℕ) (from to : ℕ) → length (slice_range items from to) ≡ to - from → from < to → to ≤ length items
part-within items from to whole some =
    let len = length-take (to - from) (drop from items) in
    let rest = length-drop from items in
    omega (arith, len, rest, whole, some)
