-- Sums and maps over lists whose elements agree.
use Rattle.std.proofs.Common.{◌≡◌, ℕ, ◌+◌, ◌*◌, ◌≤◌, List, [], ◌∷◌, length, map, refl, arith}
use Rattle.std.specs.List.{All, sum_by}
use Rattle.std.proofs.lemmas.List.Elements.{All-head, All-tail}
use Rattle.std.proofs.lemmas.List.Sums.{sum_by-cons}

module _ {X : Type 0} where
  -- two numbers that agree at each element have one sum
  pub sum_by-same : (f g : X → ℕ) (xs : List X) → All (λ x. f x ≡ g x) xs → sum_by f xs ≡ sum_by g xs
  sum_by-same f g [] same = refl
  sum_by-same f g (x ∷ xs) same =
      let head = All-head (λ x. f x ≡ g x) x xs same in
      let tail = sum_by-same f g xs (All-tail (λ x. f x ≡ g x) x xs same) in
      omega (arith, sum_by-cons f x xs, sum_by-cons g x xs)

  -- a number of what elements become is a number of theirs
  pub sum_by-map-same : {Y : Type 0} (f : Y → ℕ) (h : X → Y) (g : X → ℕ) (xs : List X)
      → All (λ x. f (h x) ≡ g x) xs → sum_by f (map h xs) ≡ sum_by g xs
  sum_by-map-same f h g [] same = refl
  sum_by-map-same f h g (x ∷ xs) same =
      let head = All-head (λ x. f (h x) ≡ g x) x xs same in
      let tail = sum_by-map-same f h g xs (All-tail (λ x. f (h x) ≡ g x) x xs same) in
      omega (arith, sum_by-cons f (h x) (map h xs), sum_by-cons g x xs)

  -- two functions that agree at each element make one list
  pub map-same : {Y : Type 0} (f g : X → Y) (xs : List X) → All (λ x. f x ≡ g x) xs → map f xs ≡ map g xs
  map-same f g [] same = refl
  map-same f g (x ∷ xs) same =
      let head = All-head (λ x. f x ≡ g x) x xs same in
      let tail = map-same f g xs (All-tail (λ x. f x ≡ g x) x xs same) in
      cc

  -- a bound on each element is one on their sum
  pub sum_by-bound : (f g : X → ℕ) (b : ℕ) (xs : List X)
      → All (λ x. 120 * f x ≤ g x + b) xs → 120 * sum_by f xs ≤ sum_by g xs + b * length xs
  sum_by-bound f g b [] few = omega arith
  sum_by-bound f g b (x ∷ xs) few =
      let head = All-head (λ x. 120 * f x ≤ g x + b) x xs few in
      let tail = sum_by-bound f g b xs (All-tail (λ x. 120 * f x ≤ g x + b) x xs few) in
      omega (arith, sum_by-cons f x xs, sum_by-cons g x xs)
