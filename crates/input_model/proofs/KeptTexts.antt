-- What is kept of a line's arguments.
use Rattle.std.proofs.Common.{◌≡◌, ℕ, ◌+◌, ◌<◌, ◌≤◌, Bool, true, false, List, [], ◌∷◌, ◌++◌, length, refl, sym, ◌∙◌, ap, arith, zero, suc, zero-add, ◌||◌, filter, slice_get, nat_lt, if◌then◌else◌}
use Rattle.std.proofs.lemmas.Bool.Decides.{nat_tests}
use Rattle.std.proofs.lemmas.List.Elements.{filter-append}
use Rattle.input_model.specs.Arguments.{has_byte, kept_by_place, kept_behind, total_length, FirstArgumentsAreKept}

-- texts that have a byte
abbrev with_bytes : List (List ℕ) → List (List ℕ)
with_bytes texts = filter has_byte texts

-- a text behind others, if it has a byte
abbrev pub if_kept : Bool → List ℕ → List (List ℕ)
if_kept is text = if is then text ∷ [] else []

-- tests of the places that are left
pub nat_lt-zero : (n : ℕ) → nat_lt n 0 ≡ false
nat_lt-zero n = grind (arith, nat_tests)

pub zero-nat_lt : (n : ℕ) → nat_lt 0 (suc n) ≡ true
zero-nat_lt n = grind (arith, nat_tests)

pub suc-nat_lt : (m n : ℕ) → nat_lt (suc m) (suc n) ≡ nat_lt m n
suc-nat_lt m n = grind (arith, nat_tests)

-- of no text none is kept
kept_behind-nil : (n : ℕ) → kept_behind n [] ≡ []
kept_behind-nil zero = refl
kept_behind-nil (suc n) = refl

-- one text more is kept by its place, or for its bytes
pub kept_behind-append : (n : ℕ) (texts : List (List ℕ)) (text : List ℕ)
    → kept_behind n (texts ++ text ∷ []) ≡ kept_behind n texts ++ if_kept (nat_lt (length texts) n || has_byte text) text
kept_behind-append zero texts text = rw (nat_lt-zero (length texts)) (filter-append has_byte texts (text ∷ []))
kept_behind-append (suc n) [] text = rw zero-nat_lt (ap (λ (kept : List (List ℕ)). text ∷ kept) (kept_behind-nil n))
kept_behind-append (suc n) (t ∷ texts) text =
    rw suc-nat_lt (ap (λ (kept : List (List ℕ)). t ∷ kept) (kept_behind-append n texts text))

-- what is kept is kept again
with_bytes-with_bytes : (texts : List (List ℕ)) → with_bytes (with_bytes texts) ≡ with_bytes texts
with_bytes-with_bytes [] = refl
with_bytes-with_bytes ([] ∷ texts) = with_bytes-with_bytes texts
with_bytes-with_bytes ((b ∷ t) ∷ texts) = ap (λ (rest : List (List ℕ)). (b ∷ t) ∷ rest) (with_bytes-with_bytes texts)

pub kept_behind-kept_behind : (n : ℕ) (texts : List (List ℕ)) → kept_behind n (kept_behind n texts) ≡ kept_behind n texts
kept_behind-kept_behind zero texts = with_bytes-with_bytes texts
kept_behind-kept_behind (suc n) [] = refl
kept_behind-kept_behind (suc n) (t ∷ texts) = ap (λ (kept : List (List ℕ)). t ∷ kept) (kept_behind-kept_behind n texts)

-- a place is left among what is kept if one is left among all
pub nat_lt-kept_behind : (n : ℕ) (texts : List (List ℕ)) → nat_lt (length (kept_behind n texts)) n ≡ nat_lt (length texts) n
nat_lt-kept_behind zero texts = nat_lt-zero (length (kept_behind 0 texts)) ∙ sym (nat_lt-zero (length texts))
nat_lt-kept_behind (suc n) [] = refl
nat_lt-kept_behind (suc n) (t ∷ texts) =
    suc-nat_lt (length (kept_behind n texts)) n ∙ nat_lt-kept_behind n texts ∙ sym (suc-nat_lt (length texts) n)

-- what is not kept has no bytes
total_length-with_bytes : (texts : List (List ℕ)) → total_length (with_bytes texts) ≡ total_length texts
total_length-with_bytes [] = refl
total_length-with_bytes ([] ∷ texts) = total_length-with_bytes texts ∙ sym (zero-add (total_length texts))
total_length-with_bytes ((b ∷ t) ∷ texts) = ap (λ bytes. length (b ∷ t) + bytes) (total_length-with_bytes texts)

pub total_length-kept_behind : (n : ℕ) (texts : List (List ℕ)) → total_length (kept_behind n texts) ≡ total_length texts
total_length-kept_behind zero texts = total_length-with_bytes texts
total_length-kept_behind (suc n) [] = refl
total_length-kept_behind (suc n) (t ∷ texts) = ap (λ bytes. length t + bytes) (total_length-kept_behind n texts)

-- those that are kept for their bytes are no more than the bytes
length-with_bytes : (texts : List (List ℕ)) → length (with_bytes texts) ≤ total_length texts
length-with_bytes [] = omega arith
length-with_bytes ([] ∷ texts) = omega (arith, length-with_bytes texts)
length-with_bytes ((b ∷ t) ∷ texts) = omega (arith, length-with_bytes texts)

pub length-kept_behind : (n : ℕ) (texts : List (List ℕ)) → length (kept_behind n texts) ≤ total_length texts + n
length-kept_behind zero texts = omega (arith, length-with_bytes texts)
length-kept_behind (suc n) [] = omega arith
length-kept_behind (suc n) (t ∷ texts) = omega (arith, length-kept_behind n texts)

-- those that are kept by place are at their places
slice_get-kept_behind : (n : ℕ) (texts : List (List ℕ)) (index : ℕ) → index < n → slice_get (kept_behind n texts) index ≡ slice_get texts index
slice_get-kept_behind zero texts index before = absurd (omega arith)
slice_get-kept_behind (suc n) [] index before = refl
slice_get-kept_behind (suc n) (t ∷ texts) zero before = refl
slice_get-kept_behind (suc n) (t ∷ texts) (suc index) before = slice_get-kept_behind n texts index (omega arith)

pub first_arguments_are_kept : FirstArgumentsAreKept
first_arguments_are_kept texts index before = slice_get-kept_behind kept_by_place texts index before
