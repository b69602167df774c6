-- Parts of a line.
use Rattle.std.proofs.Common.{◌≡◌, ℕ, ◌+◌, ◌-◌, ◌≤◌, List, [], ◌++◌, length, take, drop, sym, ap, ◌∙◌, arith, length-drop, drop-drop, length-take-le, take-take}
use Rattle.std.specs.List.{slice_range}
use Rattle.std.proofs.lemmas.List.{take_rest}
use Rattle.std.proofs.lemmas.Slice.{between_is}
use Rattle.std.proofs.Math.Seq.{take-add}

-- a part up to a place within it, and what is left of it
pub slice_range-join : {A : Type 0} (xs : List A) (from at end : ℕ) → from ≤ at → at ≤ end
    → slice_range xs from end ≡ slice_range xs from at ++ slice_range xs at end
slice_range-join {A = A} xs from at end first second =
    let n : end - from ≡ at - from + (end - at) = omega arith in
    let place : from + (at - from) ≡ at = omega arith in
    ap (λ (k : ℕ). take k (drop from xs)) n ∙ take-add (at - from) (end - at) (drop from xs)
    ∙ ap (λ (ys : List A). slice_range xs from at ++ take (end - at) ys)
    (drop-drop (at - from) from xs ∙ ap (λ (k : ℕ). drop k xs) place)

-- a part of so many elements
pub slice_range-from : {A : Type 0} (xs : List A) (at len : ℕ) → slice_range xs at (at + len) ≡ take len (drop at xs)
slice_range-from {A = A} xs at len =
    let n : at + len - at ≡ len = omega arith in
    ap (λ (k : ℕ). take k (drop at xs)) n

-- no part
pub slice_range-none : {A : Type 0} (xs : List A) (at : ℕ) → slice_range xs at at ≡ []
slice_range-none {A = A} xs at =
    let n : at - at ≡ 0 = omega arith in
    ap (λ (k : ℕ). take k (drop at xs)) n

-- a part up to the end
pub slice_range-rest : {A : Type 0} (xs : List A) (at : ℕ) → slice_range xs at (length xs) ≡ drop at xs
slice_range-rest xs at = take_rest xs at

-- how long a part is
pub length-slice_range : {A : Type 0} (xs : List A) (from end : ℕ) → end ≤ length xs → length (slice_range xs from end) ≡ end - from
length-slice_range xs from end within = length-take-le (end - from) (drop from xs) (omega (arith, length-drop from xs))

-- a part of a front
pub slice_range-take : {A : Type 0} (xs : List A) (end from to : ℕ) → to ≤ end
    → slice_range (take end xs) from to ≡ slice_range xs from to
slice_range-take {A = A} xs end from to order =
    between_is (take end xs) from to ∙ ap (λ (ys : List A). drop from ys) (take-take to end xs order) ∙ sym (between_is xs from to)
