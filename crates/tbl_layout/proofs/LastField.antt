-- The last field of a line: it stands behind the last separator.
use Rattle.std.proofs.Common.{◌≡◌, ◌==◌, ℕ, zero, suc, ◌+◌, ◌-◌, ◌<◌, ◌≤◌, Bool, true, false, List, [], ◌∷◌, length, take, drop, sym, ap, ◌∙◌, arith, None, true≢false, if◌then◌else◌, take_all, get_or-drop, length-drop}
use Rattle.std.proofs.lemmas.List.{drop_all, drop_more}
use Rattle.memchr.specs.Find.{Nowhere, Passes, is_byte}
use Rattle.tbl_layout.specs.Data.{fields, in_first}
use Rattle.tbl_layout.specs.DataLines.{behind_first, ends_in_block, opens_block}
use Rattle.tbl_layout.proofs.Fields.{field_len, field_len-found, fields-front, fields_behind}

-- what is behind a place, as it is lent
pub lent_behind : (n : ℕ) (text : List ℕ) → take (length text - n) (drop n text) ≡ drop n text
lent_behind n text = take_all (length text - n) (drop n text) (omega (arith, length-drop n text))

-- a text without a separator is one field
pub one_field : (separator : ℕ) (text : List ℕ) → Nowhere (Passes (is_byte separator) text) 0 (length text) → fields separator text ≡ text ∷ []
unfolding fields_behind
one_field separator text none =
    let all : length text ≡ field_len separator text = field_len-found separator text None none in
    fields-front separator text
    ∙ ap (λ (n : ℕ). take n text ∷ fields_behind separator (drop n text)) (sym all)
    ∙ ap (λ (front : List ℕ). front ∷ fields_behind separator (drop (length text) text)) (take_all (length text) text (omega arith))
    ∙ ap (λ (rest : List ℕ). text ∷ fields_behind separator rest) (drop_all (length text) text (omega arith))

-- two fields at least
record Two (fs : List (List ℕ)) : Type 0 where
  first : List ℕ
  next : List ℕ
  rest : List (List ℕ)
  is : fs ≡ first ∷ next ∷ rest

-- one at least
record One (fs : List (List ℕ)) : Type 0 where
  first : List ℕ
  rest : List (List ℕ)
  is : fs ≡ first ∷ rest

module _ (separator : ℕ) where
  some_field : (text : List ℕ) → One (fields separator text)
  some_field text = record { first = _; rest = _; is = fields-front separator text }

  behind_empty : (fs : List (List ℕ)) → One fs → ends_in_block ([] ∷ fs) ≡ ends_in_block fs
  behind_empty fs one =
      ap (λ (all : List (List ℕ)). ends_in_block ([] ∷ all)) one.is ∙ sym (ap ends_in_block one.is)

  begun_more : (b : ℕ) (fs : List (List ℕ)) → Two fs → ends_in_block (in_first b fs) ≡ ends_in_block fs
  begun_more b fs two = ap (λ (all : List (List ℕ)). ends_in_block (in_first b all)) two.is ∙ sym (ap ends_in_block two.is)

  two_by : (t : Bool) (b : ℕ) (text : List ℕ) → Two (fields separator text)
      → Two (if t then [] ∷ fields separator text else in_first b (fields separator text))
  two_by true b text two = record { first = []; next = two.first; rest = two.next ∷ two.rest; is = ap (λ (all : List (List ℕ)). [] ∷ all) two.is }
  two_by false b text two = record { first = b ∷ two.first; next = two.next; rest = two.rest; is = ap (in_first b) two.is }

  two_at : (t : Bool) → t ≡ true → (b : ℕ) (text : List ℕ) → One (fields separator text)
      → Two (if t then [] ∷ fields separator text else in_first b (fields separator text))
  two_at true is b text one = record { first = []; next = one.first; rest = one.rest; is = ap (λ (all : List (List ℕ)). [] ∷ all) one.is }
  two_at false is b text one = absurd (true≢false (sym is))

  two_fields : (text : List ℕ) (at : ℕ) → at < length text → Passes (is_byte separator) text at → Two (fields separator text)
  two_fields [] at within is = absurd (omega arith)
  two_fields (b ∷ text) zero within is = two_at (b == separator) is b text (some_field text)
  two_fields (b ∷ text) (suc at) within is = two_by (b == separator) b text (two_fields text at (omega arith) is)

  behind_by : (t : Bool) (b : ℕ) (text : List ℕ) → Two (fields separator text)
      → ends_in_block (if t then [] ∷ fields separator text else in_first b (fields separator text)) ≡ ends_in_block (fields separator text)
  behind_by true b text two = behind_empty (fields separator text) (some_field text)
  behind_by false b text two = begun_more b (fields separator text) two

  behind_at : (t : Bool) → t ≡ true → (b : ℕ) (text : List ℕ)
      → ends_in_block (if t then [] ∷ fields separator text else in_first b (fields separator text)) ≡ ends_in_block (fields separator text)
  behind_at true is b text = behind_empty (fields separator text) (some_field text)
  behind_at false is b text = absurd (true≢false (sym is))

  -- what stands behind a separator tells
  behind_separator : (text : List ℕ) (at : ℕ) → at < length text → Passes (is_byte separator) text at
      → ends_in_block (fields separator text) ≡ ends_in_block (fields separator (drop (suc at) text))
  behind_separator [] at within is = absurd (omega arith)
  behind_separator (b ∷ text) zero within is = behind_at (b == separator) is b text
  behind_separator (b ∷ text) (suc at) within is =
      behind_by (b == separator) b text (two_fields text at (omega arith) is) ∙ behind_separator text at (omega arith) is

  -- and so does the last of them
  pub last_behind : (text : List ℕ) (at : ℕ) → at < length text → Passes (is_byte separator) text at
      → Nowhere (Passes (is_byte separator) text) (at + 1) (length text) → ends_in_block (fields separator text) ≡ opens_block (drop (at + 1) text)
  last_behind text at within is none =
      behind_separator text at within is
      ∙ ap (λ (n : ℕ). ends_in_block (fields separator (drop n text))) (one_more at)
      ∙ ap ends_in_block (one_field separator (drop (at + 1) text) (λ k low high passes. none (at + 1 + k) (omega arith) (omega (arith, high, length-drop (at + 1) text)) (shifted k passes)))
    where
      one_more : (n : ℕ) → suc n ≡ n + 1
      one_more n = omega arith

      shifted : (k : ℕ) → Passes (is_byte separator) (drop (at + 1) text) k → Passes (is_byte separator) text (at + 1 + k)
      shifted k passes = ap (λ (b : ℕ). b == separator) (sym (get_or-drop (at + 1) text k 0)) ∙ passes

  pub last_alone : (text : List ℕ) → Nowhere (Passes (is_byte separator) text) 0 (length text) → ends_in_block (fields separator text) ≡ opens_block text
  last_alone text none = ap ends_in_block (one_field separator text none)

  -- the fields behind the first, where one follows, and where none does
  pub fields_more : (text : List ℕ) → field_len separator text < length text
      → behind_first (fields separator text) ≡ fields separator (drop (field_len separator text + 1) text)
  unfolding fields_behind
  fields_more text more =
      ap behind_first (fields-front separator text) ∙ ap (fields_behind separator) (drop_more text (field_len separator text) 0 more)

  pub fields_none : (text : List ℕ) → length text ≤ field_len separator text → behind_first (fields separator text) ≡ []
  unfolding fields_behind
  fields_none text none =
      ap behind_first (fields-front separator text) ∙ ap (fields_behind separator) (drop_all (field_len separator text) text none)
