-- What holds of each element of a list.
use Rattle.std.proofs.Common.{◌≡◌, ℕ, zero, suc, List, [], ◌∷◌, ◌++◌, drop, subst}
use Rattle.std.specs.List.{AllByRecursion}

module _ {A : Type 0} (P : A → Type 0) where
  -- what holds of each element of two lists
  pub each-append : (xs ys : List A) → AllByRecursion P xs → AllByRecursion P ys → AllByRecursion P (xs ++ ys)
  each-append [] ys all more = more
  each-append (x ∷ xs) ys all more = (all.0, each-append xs ys all.1 more)

  -- and of one of them
  pub each-at : (xs : List A) (at : ℕ) (y : A) (ys : List A) → AllByRecursion P xs → drop at xs ≡ y ∷ ys → P y
  each-at [] zero y ys all is = absurd cc
  each-at [] (suc at) y ys all is = absurd cc
  each-at (x ∷ xs) zero y ys all is = let same : x ≡ y = cc in subst P same all.0
  each-at (x ∷ xs) (suc at) y ys all is = each-at xs at y ys all.1 is
