-- The fields of a line, as they are found one after another.
use Rattle.std.proofs.Common.{◌≡◌, ◌==◌, ℕ, zero, suc, ◌+◌, ◌-◌, ◌≤◌, Bool, true, false, not, cond, List, [], ◌∷◌, length, take, drop, Option, Some, None, refl, sym, ap, ◌∙◌, arith, length-drop, if◌then◌else◌, unwrap_or, drop-drop, length-take-le}
use Rattle.std.specs.List.{prefix_len, slice_range}
use Rattle.std.proofs.lemmas.List.Sums.{prefix_len_is}
use Rattle.std.proofs.lemmas.Slice.{between_is}
use Rattle.memchr.specs.Find.{IsFirstByte, is_byte}
use Rattle.tbl_layout.specs.Data.{fields, in_first}

-- how many bytes stand before the first separator
abbrev pub field_len : ℕ → List ℕ → ℕ
field_len separator text = prefix_len (λ b. not (b == separator)) text

-- a byte that isn't found
not_found : (t : Bool) → (t ≡ true → ⊥) → not t ≡ true
not_found false unfound = refl
not_found true unfound = absurd (unfound refl)

pub field_len-found : (separator : ℕ) (text : List ℕ) (found : Option ℕ) → IsFirstByte (is_byte separator) text found
    → unwrap_or found (length text) ≡ field_len separator text
field_len-found separator text None none =
    sym (prefix_len_is (λ b. not (b == separator)) text (length text) 0 (omega arith)
    (λ k lt. not_found _ (none k (omega arith) lt))
    (λ lt. absurd (omega arith)))
field_len-found separator text (Some at) first =
    sym (prefix_len_is (λ b. not (b == separator)) text at 0 (omega arith)
    (λ k lt. not_found _ (first.0.before k (omega arith) lt))
    (λ lt. ap not first.1))

-- the fields behind the first, of what is left from its end on
unfoldable pub fields_behind : ℕ → List ℕ → List (List ℕ)
fields_behind separator [] = []
fields_behind separator (b ∷ line) = fields separator line

-- the first field, and those behind it
module _ (separator : ℕ) where
  front_by : (t : Bool) (b : ℕ) (s : List ℕ)
      → fields separator s ≡ take (field_len separator s) s ∷ fields_behind separator (drop (field_len separator s) s)
      → (if t then [] ∷ fields separator s else in_first b (fields separator s))
      ≡ take (cond (not t) (1 + field_len separator s) 0) (b ∷ s) ∷ fields_behind separator (drop (cond (not t) (1 + field_len separator s) 0) (b ∷ s))
  unfolding fields_behind
  front_by true b s rest = refl
  front_by false b s rest =
      let same : suc (field_len separator s) ≡ 1 + field_len separator s = omega arith in
      ap (in_first b) rest ∙ ap (λ (n : ℕ). take n (b ∷ s) ∷ fields_behind separator (drop n (b ∷ s))) same

  pub fields-front : (s : List ℕ) → fields separator s ≡ take (field_len separator s) s ∷ fields_behind separator (drop (field_len separator s) s)
  unfolding fields_behind
  fields-front [] = refl
  fields-front (b ∷ s) = front_by (b == separator) b s (fields-front s)

-- a part of a part
take-take : (k m : ℕ) (xs : List ℕ) → k ≤ m → take k (take m xs) ≡ take k xs
take-take zero m xs le = refl
take-take (suc k) zero xs le = absurd (omega (arith, le))
take-take (suc k) (suc m) [] le = refl
take-take (suc k) (suc m) (x ∷ xs) le = ap (λ (rest : List ℕ). x ∷ rest) (take-take k m xs (omega (arith, le)))

module _ (block : List ℕ) (at to : ℕ) (order : at ≤ to) (within : to ≤ length block) where
  pub length-part : length (slice_range block at to) ≡ to - at
  length-part = length-take-le (to - at) (drop at block) (omega (arith, length-drop at block))

  pub front-part : (k : ℕ) → at + k ≤ to → take k (slice_range block at to) ≡ slice_range block at (at + k)
  front-part k few =
      let same : k ≡ at + k - at = omega arith in
      take-take k (to - at) (drop at block) (omega arith) ∙ ap (λ (n : ℕ). take n (drop at block)) same

  pub rest-part : (k : ℕ) → drop k (slice_range block at to) ≡ slice_range block (at + k) to
  rest-part k =
      ap (drop k) (between_is block at to) ∙ drop-drop k at (take to block) ∙ sym (between_is block (at + k) to)
