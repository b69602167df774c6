-- The bytes of pieces, one after another.
use Rattle.std.proofs.Common.{◌≡◌, ℕ, zero, suc, ◌+◌, ◌-◌, ◌<◌, ◌≤◌, min, List, [], ◌∷◌, length, take, drop, replicate, get_or, sym, ap, ◌∙◌, arith}
use Rattle.std.specs.List.{slice_range}
use Rattle.std.proofs.lemmas.List.{drop-replicate, drop_more, length-replicate}
use Rattle.tbl_format.specs.Parts.{IsFront}
use Rattle.tbl_format.proofs.Slices.{take-replicate}

-- an element that is found, and those behind it
abbrev pub IsFound : {A : Type 0} → List A → ℕ → A → Type 0
IsFound {A = A} xs at x = (at < length xs) × ((d : A) → x ≡ get_or xs at d)

pub drop-at : {A : Type 0} (xs : List A) (at : ℕ) (x : A) → IsFound xs at x → drop at xs ≡ x ∷ drop (at + 1) xs
drop-at {A = A} xs at x is = drop_more xs at x is.0 ∙ ap (λ (y : A). y ∷ drop (at + 1) xs) (sym (is.1 x))

-- a byte some times is the first of it more often
pub front-repeated : (b n count at : ℕ) → n ≤ count - at → IsFront {A = ℕ} (replicate n b) (drop at (replicate count b))
front-repeated b n count at within =
    let few : min n (count - at) ≡ n = omega (arith, within) in
    ap (λ (k : ℕ). take k (drop at (replicate count b))) (length-replicate n b)
    ∙ ap (λ (xs : List ℕ). take n xs) (drop-replicate at count b)
    ∙ take-replicate n (count - at) b
    ∙ ap (λ (k : ℕ). replicate k b) few

-- bytes that are one so many times are it as often as they are many
pub repeated-by : (xs : List ℕ) (n b : ℕ) → xs ≡ replicate n b → xs ≡ replicate (length xs) b
repeated-by xs n b is = is ∙ ap (λ (k : ℕ). replicate k b) (sym (ap (λ (ys : List ℕ). length ys) is ∙ length-replicate n b))

-- numbers from one on
abbrev pub counted : ℕ → ℕ → List ℕ
counted from zero = []
counted from (suc n) = from ∷ counted (suc from) n

drop-counted : (k from n : ℕ) → drop k (counted from n) ≡ counted (from + k) (n - k)
drop-counted zero from n =
    let same : from ≡ from + 0 = omega arith in
    let all : n ≡ n - 0 = omega arith in
    ap (λ (m : ℕ). counted m n) same ∙ ap (λ (k : ℕ). counted (from + 0) k) all
drop-counted (suc k) from zero = let none : 0 ≡ 0 - suc k = omega arith in ap (λ (m : ℕ). counted (from + suc k) m) none
drop-counted (suc k) from (suc n) =
    let same : suc from + k ≡ from + suc k = omega arith in
    let less : n - k ≡ suc n - suc k = omega arith in
    drop-counted k (suc from) n ∙ ap (λ (m : ℕ). counted m (n - k)) same ∙ ap (λ (m : ℕ). counted (from + suc k) m) less

-- one of the first of them
pub one-counted : (b n : ℕ) → b < n → slice_range (counted 0 n) b (b + 1) ≡ b ∷ []
one-counted b n few =
    let one : b + 1 - b ≡ 1 = omega arith in
    let some : n - b ≡ suc (n - suc b) = omega (arith, few) in
    let same : 0 + b ≡ b = omega arith in
    ap (λ (k : ℕ). take k (drop b (counted 0 n))) one
    ∙ ap (λ (xs : List ℕ). take 1 xs) (drop-counted b 0 n)
    ∙ ap (λ (k : ℕ). take 1 (counted k (n - b))) same
    ∙ ap (λ (k : ℕ). take 1 (counted b k)) some
