-- Columns one by one: where rules over them begin and end.
use Rattle.std.proofs.Common.{◌≡◌, ℕ, zero, suc, ◌+◌, ◌-◌, ◌<◌, List, [], ◌∷◌, drop, get_or, length, refl, ap, ◌∙◌, arith}
use Rattle.tbl_layout.specs.LayoutLaws.{last_end}
use Rattle.tbl_layout.specs.declared.columns.Column.{Column}

-- the last one
pub last-is : (place : ℕ) (columns : List Column) (c : Column) → 0 < length columns
    → (get_or columns (length columns - 1) c).start + (get_or columns (length columns - 1) c).width ≡ last_end place columns
last-is place [] c some = absurd (omega (arith, some))
last-is place (x ∷ []) c some = refl
last-is place (x ∷ y ∷ columns) c some =
    let more : length (x ∷ y ∷ columns) - 1 ≡ suc (length columns) = omega arith in
    let last : length columns ≡ length (y ∷ columns) - 1 = omega arith in
    ap (λ (n : ℕ). (get_or (x ∷ y ∷ columns) n c).start + (get_or (x ∷ y ∷ columns) n c).width) more
    ∙ ap (λ (n : ℕ). (get_or (y ∷ columns) n c).start + (get_or (y ∷ columns) n c).width) last
    ∙ last-is (x.start + x.width) (y ∷ columns) c (omega arith)

-- one and the next
pub drop-one : {A : Type 0} (xs : List A) (at : ℕ) (x : A) → at < length xs → drop at xs ≡ get_or xs at x ∷ drop (suc at) xs
drop-one [] at x within = absurd (omega (arith, within))
drop-one (y ∷ xs) zero x within = refl
drop-one (y ∷ xs) (suc at) x within = drop-one xs at x (omega (arith, within))

pub drop-two : {A : Type 0} (xs : List A) (at : ℕ) (x y : A) → suc at < length xs
    → drop at xs ≡ get_or xs at x ∷ get_or xs (suc at) y ∷ drop (suc (suc at)) xs
drop-two {A = A} xs at x y within =
    drop-one xs at x (omega (arith, within)) ∙ ap (λ (ys : List A). get_or xs at x ∷ ys) (drop-one xs (suc at) y within)

pub drop-last : {A : Type 0} (xs : List A) (at : ℕ) (x : A) → suc at ≡ length xs → drop at xs ≡ get_or xs at x ∷ []
drop-last [] at x is = absurd (omega (arith, is))
drop-last (y ∷ []) zero x is = refl
drop-last (y ∷ z ∷ xs) zero x is = absurd (omega (arith, is))
drop-last (y ∷ xs) (suc at) x is = drop-last xs at x (omega (arith, is))

-- whatever would stand behind the last
pub any-default : {A : Type 0} (xs : List A) (at : ℕ) (x y : A) → at < length xs → get_or xs at x ≡ get_or xs at y
any-default [] at x y within = absurd (omega (arith, within))
any-default (z ∷ xs) zero x y within = refl
any-default (z ∷ xs) (suc at) x y within = any-default xs at x y (omega (arith, within))
