-- The events of a list at an index.
use Rattle.std.proofs.Common.{◌≡◌, ℕ, ◌==◌, ◌-◌, false, List, ◌∷◌, zero, suc, ap, arith, slice_get}

-- behind the first
pub slice_get-behind : {A : Type 0} (x : A) (xs : List A) (i : ℕ) → (i == 0) ≡ false → slice_get xs (i - 1) ≡ slice_get (x ∷ xs) i
slice_get-behind x xs zero later = cc
slice_get-behind x xs (suc i) later =
    let same : (suc i - 1) ≡ i = omega arith in
    ap (slice_get xs) same
