-- A cell that goes back to its place, past one cell after the other.
use Rattle.std.proofs.Common.{◌≡◌, ℕ, zero, suc, ◌-◌, ◌<◌, ◌≤◌, List, [], ◌∷◌, ◌++◌, length, get_or, refl, sym, ap, ◌∙◌, arith, length-append}
use Rattle.std.specs.List.{insert, swap}
use Rattle.std.proofs.Math.ListN.{set}
use Rattle.std.proofs.lemmas.List.Edits.{insert-append_left, length-insert, swap_is}

set-swapped : {A : Type 0} (n : ℕ) (xs : List A) (x d : A) → n < length xs
    → set (set (insert xs (suc n) x) n (get_or (insert xs (suc n) x) (suc n) d)) (suc n) (get_or (insert xs (suc n) x) n d) ≡ insert xs n x
set-swapped n [] x d few = absurd (omega (arith, few))
set-swapped zero (y ∷ xs) x d few = refl
set-swapped (suc n) (y ∷ xs) x d few = ap (λ (zs : List _). y ∷ zs) (set-swapped n xs x d (omega (arith, few)))

pub swap-back : {A : Type 0} (n : ℕ) (xs : List A) (x : A) → n < length xs → swap (insert xs (suc n) x) n (suc n) ≡ insert xs n x
swap-back n xs x few =
    let all = length-insert xs (suc n) x (omega (arith, few)) in
    sym (swap_is (insert xs (suc n) x) n (suc n) x (omega (arith, few, all)) (omega (arith, few, all))) ∙ set-swapped n xs x x few

pub swap-before : {A : Type 0} (at : ℕ) (xs : List A) (x : A) → 0 < at → at ≤ length xs → swap (insert xs at x) (at - 1) at ≡ insert xs (at - 1) x
swap-before at xs x some few =
    let is : at ≡ suc (at - 1) = omega (arith, some) in
    ap (λ (n : ℕ). swap (insert xs n x) (at - 1) n) is ∙ swap-back (at - 1) xs x (omega (arith, some, few))

-- and so does one behind which others stand
pub swap-among : {A : Type 0} (at : ℕ) (first rest : List A) (x : A) → 0 < at → at ≤ length first
    → swap (insert first at x ++ rest) (at - 1) at ≡ insert first (at - 1) x ++ rest
swap-among {A = A} at first rest x some few =
    let more = length-append first rest in
    ap (λ (xs : List A). swap xs (at - 1) at) (sym (insert-append_left first rest at x few))
    ∙ swap-before at (first ++ rest) x some (omega (arith, few, more))
    ∙ insert-append_left first rest (at - 1) x (omega (arith, few))
