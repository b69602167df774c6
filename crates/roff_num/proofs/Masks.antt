-- From the mask of a step to its lanes.
use Rattle.std.proofs.Common.{◌≡◌, ℕ, ◌%◌, ◌^◌, ◌≤◌, Bool, not, List, map, length, ap, ◌∙◌, arith, ◌==◌, if◌then◌else◌}
use Rattle.std.specs.Int.{w64, trailing_zeros}
use Rattle.std.specs.List.{prefix_len}
use Rattle.std.specs.Simd.Lanes.{mask_l, top}
use Rattle.std.proofs.lemmas.List.{length-map}
use Rattle.std.proofs.lemmas.Simd.{first_set_mask_l, map-map, mask_l-mod}

-- the lowest bit that is set is that of the first lane of which the test holds
pub first_lane : {X : Type 0} (p : X → Bool) (v : List X) (n r m : ℕ) → length v ≡ n → n ≤ 64
    → r ≡ (if m == 0 then n else trailing_zeros w64 m) → m ≡ mask_l (map p v) → r ≡ prefix_len (λ x. not (p x)) v
first_lane p v n r m long few found mask =
    found ∙ ap (λ k. if k == 0 then n else trailing_zeros w64 k) mask ∙ first_set_mask_l p v n long few

-- the mask of lanes that were computed of v one by one
pub mask_l-lanes : {X : Type 0} (f : X → ℕ) (v : List X) (z : List ℕ) → length v ≤ 64 → z ≡ map f v
    → mask_l (map (top 7) z) % 2 ^ 64 ≡ mask_l (map (λ x. top 7 (f x)) v)
mask_l-lanes f v z few lanes =
    ap (λ (xs : List ℕ). mask_l (map (top 7) xs) % 2 ^ 64) lanes ∙ ap (λ (bs : List Bool). mask_l bs % 2 ^ 64) (map-map (top 7) f v)
    ∙ mask_l-mod (map (λ x. top 7 (f x)) v) 64 (omega (arith, length-map v (λ x. top 7 (f x)), few))
