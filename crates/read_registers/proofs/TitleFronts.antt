-- Bytes of a title's part that are read at once, one more.
use Rattle.std.proofs.Common.{◌≡◌, ◌<◌, ℕ, zero, suc, ◌+◌, List, [], ◌∷◌, ◌++◌, length, refl, sym, subst, ap, ◌∙◌, arith, map, slice_index_or, take, Option}
use Rattle.std.specs.List.{AllByRecursion}
use Rattle.std.proofs.lemmas.List.{map-append}
use Rattle.run_model.specs.TitleTexts.{TitleText, with_bytes}
use Rattle.read_registers.specs.Titles.Fronts.{kept_byte}
use Rattle.run_state.proofs.TitleTexts.{bytes_added_again}

-- what holds of the first of them, and of the next one, holds of those
plain_suc : (P : ℕ → Type 0) (xs : List ℕ) (n : ℕ) → n < length xs → AllByRecursion P (take n xs) → P (slice_index_or xs n 0)
    → AllByRecursion P (take (suc n) xs)
plain_suc P [] n less all next = absurd (omega (arith, less))
plain_suc P (x ∷ xs) zero less all next = (next, tt)
plain_suc P (x ∷ xs) (suc n) less all next = (all.0, plain_suc P xs n (omega (arith, less)) all.1 next)

one_more : (n : ℕ) → suc n ≡ n + 1
one_more n = omega arith

pub plain_one_more : (P : ℕ → Type 0) (xs : List ℕ) (n : ℕ) → n < length xs → AllByRecursion P (take n xs) → P (slice_index_or xs n 0)
    → AllByRecursion P (take (n + 1) xs)
plain_one_more P xs n less all next = subst (λ (m : ℕ). AllByRecursion P (take m xs)) (one_more n) (plain_suc P xs n less all next)

-- the first of some, and the next one
take_suc : (xs : List ℕ) (n : ℕ) → n < length xs → take (suc n) xs ≡ take n xs ++ slice_index_or xs n 0 ∷ []
take_suc [] n less = absurd (omega (arith, less))
take_suc (x ∷ xs) zero less = refl
take_suc (x ∷ xs) (suc n) less = ap (λ (ys : List ℕ). x ∷ ys) (take_suc xs n (omega (arith, less)))

take_next : (xs : List ℕ) (n : ℕ) → n < length xs → take (n + 1) xs ≡ take n xs ++ slice_index_or xs n 0 ∷ []
take_next xs n less = ap (λ (m : ℕ). take m xs) (sym (one_more n)) ∙ take_suc xs n less

-- they are added to a title, and then the next one is
pub added_one_more : (c : Option ℕ) (xs : List ℕ) (n : ℕ) (t : TitleText) → n < length xs
    → with_bytes (kept_byte c (slice_index_or xs n 0) ∷ []) (with_bytes (map (kept_byte c) (take n xs)) t) ≡ with_bytes (map (kept_byte c) (take (n + 1) xs)) t
added_one_more c xs n t less =
    bytes_added_again (map (kept_byte c) (take n xs)) (kept_byte c (slice_index_or xs n 0) ∷ []) t
    ∙ ap (λ (bytes : List ℕ). with_bytes bytes t)
    (sym (ap (λ (ys : List ℕ). map (kept_byte c) ys) (take_next xs n less) ∙ map-append (kept_byte c) (take n xs) (slice_index_or xs n 0 ∷ [])))
