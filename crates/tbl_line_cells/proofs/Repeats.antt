-- The same item, so often.
use Rattle.std.proofs.Common.{◌≡◌, ℕ, suc, ◌+◌, ◌-◌, ◌<◌, List, [], ◌∷◌, ◌++◌, replicate, ap, ◌∙◌, arith, append_assoc}

pub repeat-next : {A : Type 0} (xs : List A) (x : A) (count at : ℕ) (all : List A) → at < count → xs ++ replicate (count - at) x ≡ all
    → (xs ++ x ∷ []) ++ replicate (count - (at + 1)) x ≡ all
repeat-next xs x count at all more so_far =
    let left : suc (count - (at + 1)) ≡ count - at = omega (arith, more) in
    append_assoc xs (x ∷ []) (replicate (count - (at + 1)) x) ∙ ap (λ (n : ℕ). xs ++ replicate n x) left ∙ so_far
