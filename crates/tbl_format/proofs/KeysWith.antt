-- The keys of a row where the last of them changes, or where the row has a column more.
use Rattle.std.proofs.Common.{◌≡◌, ℕ, zero, suc, ◌+◌, ◌<◌, ◌≤◌, Bool, true, false, ◌&&◌, List, [], ◌∷◌, ◌++◌, length, refl, sym, ap, ◌∙◌, arith, length-append, if◌then◌else◌}
use Rattle.tbl_format.specs.Cells.{AreCells, start_of}
use Rattle.tbl_format.specs.Format.{columns_of_keys, has_some, is_spanned, keys_with, last_changed, plain_key, widened}
use Rattle.tbl_format.specs.declared.format.FormatKey.{FormatKey}
use Rattle.tbl_format.specs.declared.format.Key.{Key}
use Rattle.tbl_format.proofs.CellColumns.{cells-few, columns_behind, columns_of-behind, end_behind, start_behind, start_behind-next, start_of-behind}

-- keys that have columns are some, and cells that have none are none
pub has_some-columns : (keys : List FormatKey) → 0 < columns_of_keys keys → has_some keys ≡ true
has_some-columns [] some = absurd (omega (arith, some))
has_some-columns (k ∷ keys) some = refl

pub has_none-columns : (keys : List FormatKey) → AreCells 0 keys → columns_of_keys keys ≤ 0 → has_some keys ≡ false
has_none-columns [] cells none = refl
has_none-columns (k ∷ keys) cells none = absurd (omega (arith, none, cells-few (k ∷ keys) cells))

pub length-columns : (keys : List FormatKey) → 0 < columns_of_keys keys → 0 < length keys
length-columns [] some = absurd (omega (arith, some))
length-columns (k ∷ keys) some = omega arith

pub columns-some : (keys : List FormatKey) → AreCells 0 keys → has_some keys ≡ true → 0 < columns_of_keys keys
columns-some [] cells some = absurd cc
columns-some (k ∷ keys) cells some = omega (arith, cells-few (k ∷ keys) cells)

pub columns-none : (keys : List FormatKey) → has_some keys ≡ false → columns_of_keys keys ≡ 0
columns-none [] none = refl
columns-none (k ∷ keys) none = absurd cc

-- the last key changed
pub length-last_changed : (change : FormatKey → FormatKey) (keys : List FormatKey) → length (last_changed change keys) ≡ length keys
length-last_changed change [] = refl
length-last_changed change (key ∷ []) = refl
length-last_changed change (key ∷ next ∷ keys) = ap (λ (len : ℕ). suc len) (length-last_changed change (next ∷ keys))

pub has_some-last_changed : (change : FormatKey → FormatKey) (keys : List FormatKey) → has_some (last_changed change keys) ≡ has_some keys
has_some-last_changed change [] = refl
has_some-last_changed change (key ∷ []) = refl
has_some-last_changed change (key ∷ next ∷ keys) = refl

-- so that its cell ends so many columns further on
module _ (change : FormatKey → FormatKey) (more : ℕ) (ends : (k : FormatKey) → (change k).end ≡ k.end + more) where
  behind-changed : (from : ℕ) (k : FormatKey) (keys : List FormatKey)
      → columns_behind from (last_changed change (k ∷ keys)) ≡ columns_behind from (k ∷ keys) + more
  behind-changed from k [] = ends k
  behind-changed from k (next ∷ keys) = behind-changed k.end next keys

  cells-behind : (from : ℕ) (keys : List FormatKey) → AreCells from keys → AreCells from (last_changed change keys)
  cells-behind from [] cells = cells
  cells-behind from (k ∷ []) cells = (omega (arith, ends k, cells.0), tt)
  cells-behind from (k ∷ next ∷ keys) cells = (cells.0, cells-behind k.end (next ∷ keys) cells.1)

  pub columns_of-changed : (keys : List FormatKey) → has_some keys ≡ true → columns_of_keys (last_changed change keys) ≡ columns_of_keys keys + more
  columns_of-changed [] some = absurd cc
  columns_of-changed (k ∷ keys) some =
      omega (arith, columns_of-behind (last_changed change (k ∷ keys)), behind-changed 0 k keys, columns_of-behind (k ∷ keys))

  pub cells-changed : (keys : List FormatKey) → AreCells 0 keys → AreCells 0 (last_changed change keys)
  cells-changed keys cells = cells-behind 0 keys cells

-- in the same column
pub columns_of-kept : (change : FormatKey → FormatKey) → ((k : FormatKey) → (change k).end ≡ k.end) → (keys : List FormatKey)
    → columns_of_keys (last_changed change keys) ≡ columns_of_keys keys
columns_of-kept change same [] = refl
columns_of-kept change same (k ∷ keys) = omega (arith, columns_of-changed change 0 (λ q. omega (arith, same q)) (k ∷ keys) refl)

pub cells-kept : (change : FormatKey → FormatKey) → ((k : FormatKey) → (change k).end ≡ k.end) → (keys : List FormatKey)
    → AreCells 0 keys → AreCells 0 (last_changed change keys)
cells-kept change same keys cells = cells-changed change 0 (λ q. omega (arith, same q)) keys cells

-- no cell begins elsewhere
end_behind-changed : (change : FormatKey → FormatKey) (from : ℕ) (keys : List FormatKey) (cell : ℕ) → suc cell < length keys
    → end_behind from (last_changed change keys) cell ≡ end_behind from keys cell
end_behind-changed change from [] cell some = absurd (omega (arith, some))
end_behind-changed change from (k ∷ []) cell some = absurd (omega (arith, some))
end_behind-changed change from (k ∷ next ∷ keys) zero some = refl
end_behind-changed change from (k ∷ next ∷ keys) (suc cell) some = end_behind-changed change k.end (next ∷ keys) cell (omega (arith, some))

start_behind-changed : (change : FormatKey → FormatKey) (keys : List FormatKey) (cell : ℕ) → cell < length keys
    → start_behind 0 (last_changed change keys) cell ≡ start_behind 0 keys cell
start_behind-changed change keys zero some = refl
start_behind-changed change keys (suc cell) some = end_behind-changed change 0 keys cell some

pub start_of-changed : (change : FormatKey → FormatKey) (keys : List FormatKey) (cell : ℕ) → cell < length keys
    → start_of (last_changed change keys) cell ≡ start_of keys cell
start_of-changed change keys cell some =
    start_of-behind (last_changed change keys) cell ∙ start_behind-changed change keys cell some ∙ sym (start_of-behind keys cell)

-- a key behind the others
has_some-last : {A : Type 0} (xs : List A) (x : A) → has_some (xs ++ x ∷ []) ≡ true
has_some-last [] x = refl
has_some-last (y ∷ xs) x = refl

behind-append : (from : ℕ) (keys : List FormatKey) (k : FormatKey) → columns_behind from (keys ++ k ∷ []) ≡ k.end
behind-append from [] k = refl
behind-append from (q ∷ keys) k = behind-append q.end keys k

pub columns_of-append : (keys : List FormatKey) (k : FormatKey) → columns_of_keys (keys ++ k ∷ []) ≡ k.end
columns_of-append keys k = columns_of-behind (keys ++ k ∷ []) ∙ behind-append 0 keys k

cells-append-behind : (from : ℕ) (keys : List FormatKey) (k : FormatKey) → columns_behind from keys < k.end → AreCells from keys → AreCells from (keys ++ k ∷ [])
cells-append-behind from [] k more cells = (more, tt)
cells-append-behind from (q ∷ keys) k more cells = (cells.0, cells-append-behind q.end keys k more cells.1)

pub cells-append : (keys : List FormatKey) (k : FormatKey) → columns_of_keys keys < k.end → AreCells 0 keys → AreCells 0 (keys ++ k ∷ [])
cells-append keys k more cells = cells-append-behind 0 keys k (omega (arith, more, columns_of-behind keys)) cells

end_behind-append : (from : ℕ) (keys : List FormatKey) (k : FormatKey) (cell : ℕ) → cell < length keys
    → end_behind from (keys ++ k ∷ []) cell ≡ end_behind from keys cell
end_behind-append from [] k cell some = absurd (omega (arith, some))
end_behind-append from (q ∷ keys) k zero some = refl
end_behind-append from (q ∷ keys) k (suc cell) some = end_behind-append q.end keys k cell (omega (arith, some))

start_behind-append : (keys : List FormatKey) (k : FormatKey) (cell : ℕ) → cell ≤ length keys
    → start_behind 0 (keys ++ k ∷ []) cell ≡ start_behind 0 keys cell
start_behind-append keys k zero within = refl
start_behind-append keys k (suc cell) within = end_behind-append 0 keys k cell (omega (arith, within))

pub start_of-append : (keys : List FormatKey) (k : FormatKey) (cell : ℕ) → cell ≤ length keys → start_of (keys ++ k ∷ []) cell ≡ start_of keys cell
start_of-append keys k cell within =
    start_of-behind (keys ++ k ∷ []) cell ∙ start_behind-append keys k cell within ∙ sym (start_of-behind keys cell)

-- the cell behind all keys begins behind their columns
start_behind-last : (from : ℕ) (keys : List FormatKey) → start_behind from keys (length keys) ≡ columns_behind from keys
start_behind-last from [] = refl
start_behind-last from (k ∷ keys) = start_behind-next from k keys (length keys) ∙ start_behind-last k.end keys

pub start_of-last : (keys : List FormatKey) → start_of keys (length keys) ≡ columns_of_keys keys
start_of-last keys = start_of-behind keys (length keys) ∙ start_behind-last 0 keys ∙ sym (columns_of-behind keys)

-- a column more: the last cell is wider, or there is one cell more
module _ (P : List FormatKey → Type 0) (key : Key) (bars : ℕ) where
  either-cell : (t : Bool) (keys : List FormatKey) → (has_some keys ≡ true → P (last_changed widened keys))
      → P (keys ++ plain_key bars key (columns_of_keys keys) ∷ [])
      → P (if t && has_some keys then last_changed widened keys else keys ++ plain_key bars key (columns_of_keys keys) ∷ [])
  either-cell true [] wide more = more
  either-cell true (k ∷ keys) wide more = wide refl
  either-cell false keys wide more = more

  pub either-with : (keys : List FormatKey) → (has_some keys ≡ true → P (last_changed widened keys))
      → P (keys ++ plain_key bars key (columns_of_keys keys) ∷ []) → P (keys_with key bars keys)
  either-with keys wide more = either-cell (is_spanned key) keys wide more

-- a key that has a cell of its own: no `s`, or the first of its row
pub own-first : (t : Bool) (keys : List FormatKey) → AreCells 0 keys → columns_of_keys keys ≤ 0 → (t && has_some keys) ≡ false
own-first true keys cells none = has_none-columns keys cells none
own-first false keys cells none = refl

pub own-other : (t : Bool) (keys : List FormatKey) → t ≡ false → (t && has_some keys) ≡ false
own-other t keys other = ap (λ (u : Bool). u && has_some keys) other

module _ (key : Key) (bars : ℕ) (keys : List FormatKey) where
  pub keys_with-wide : is_spanned key ≡ true → has_some keys ≡ true → keys_with key bars keys ≡ last_changed widened keys
  keys_with-wide spans some =
      ap (λ (t : Bool). if t && has_some keys then last_changed widened keys else keys ++ plain_key bars key (columns_of_keys keys) ∷ []) spans
      ∙ ap (λ (t : Bool). if t then last_changed widened keys else keys ++ plain_key bars key (columns_of_keys keys) ∷ []) some

  pub keys_with-own : (is_spanned key && has_some keys) ≡ false → keys_with key bars keys ≡ keys ++ plain_key bars key (columns_of_keys keys) ∷ []
  keys_with-own own = ap (λ (t : Bool). if t then last_changed widened keys else keys ++ plain_key bars key (columns_of_keys keys) ∷ []) own

  abbrev next_key : FormatKey
  next_key = plain_key bars key (columns_of_keys keys)

  pub has_some-with : has_some (keys_with key bars keys) ≡ true
  has_some-with =
      either-with (λ (ks : List FormatKey). has_some ks ≡ true) key bars keys
      (λ some. has_some-last_changed widened keys ∙ some) (has_some-last keys next_key)

  pub columns_of-with : columns_of_keys (keys_with key bars keys) ≡ columns_of_keys keys + 1
  columns_of-with =
      either-with (λ (ks : List FormatKey). columns_of_keys ks ≡ columns_of_keys keys + 1) key bars keys
      (λ some. columns_of-changed widened 1 (λ k. refl) keys some) (columns_of-append keys next_key)

  pub length-with : length (keys_with key bars keys) ≤ length keys + 1
  length-with =
      either-with (λ (ks : List FormatKey). length ks ≤ length keys + 1) key bars keys
      (λ some. omega (arith, length-last_changed widened keys)) (omega (arith, length-append keys (next_key ∷ [])))
