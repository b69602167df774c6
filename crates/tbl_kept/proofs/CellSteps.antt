-- The cells of a row, one after another: each begins where the one before it ends.
use Rattle.std.proofs.Common.{◌≡◌, ℕ, zero, suc, ◌+◌, ◌-◌, ◌<◌, ◌≤◌, Bool, false, List, [], ◌∷◌, ◌++◌, length, map, take, drop, get_or, replicate, refl, sym, ap, subst, ◌∙◌, arith, length-append, if◌then◌else◌, ne_eqb, drop-drop}
use Rattle.std.specs.List.{slice_range}
use Rattle.std.proofs.lemmas.List.{drop_more, get_or_past, length-replicate}
use Rattle.tbl_format.proofs.CellColumns.{columns_behind, columns_of-behind}
use Rattle.tbl_format.specs.Cells.{AreCells, by_cells, cell_count}
use Rattle.tbl_format.specs.Format.{nothing_asked}
use Rattle.tbl_format.specs.FormatRows.{AreWithin}
use Rattle.tbl_format.specs.declared.format.Asked.{Asked}
use Rattle.tbl_format.specs.declared.format.FormatKey.{FormatKey}
use Rattle.tbl_format.specs.declared.format.Key.{Key}
use Rattle.tbl_format.specs.declared.format.Key.TheVariants.{Left}
use Rattle.tbl_layout.specs.Columns.{in_columns, row_stands}
use Rattle.tbl_layout.specs.declared.columns.Stands.{Stands}
use Rattle.tbl_kept.specs.RowsLaying.{counted_if}
use Rattle.tbl_layout.specs.declared.columns.Stands.TheVariants.{Nowhere}
use Rattle.tbl_kept.specs.declared.held_columns.Cell.{Cell}

-- the key of the first of some cells, and up to which column it goes, where it begins behind so many: behind the last key each cell
-- has one column
abbrev pub first_key : List FormatKey → Key
first_key [] = Left
first_key (k ∷ keys) = k.key

abbrev pub first_end : ℕ → List FormatKey → ℕ
first_end from [] = from + 1
first_end from (k ∷ keys) = k.end

-- and whether what stands under it counts for no width
abbrev pub first_free : List FormatKey → Bool
first_free [] = false
first_free (k ∷ keys) = k.has_no_width

first_free-at : (keys : List FormatKey) (at : ℕ) → get_or (map (λ (k : FormatKey). k.has_no_width) keys) at false ≡ first_free (drop at keys)
first_free-at [] zero = refl
first_free-at [] (suc at) = refl
first_free-at (k ∷ keys) zero = refl
first_free-at (k ∷ keys) (suc at) = first_free-at keys at

pub first_key-at : (keys : List FormatKey) (at : ℕ) → get_or (map (λ (k : FormatKey). k.key) keys) at Left ≡ first_key (drop at keys)
first_key-at [] zero = refl
first_key-at [] (suc at) = refl
first_key-at (k ∷ keys) zero = refl
first_key-at (k ∷ keys) (suc at) = first_key-at keys at

first_end-at : (keys : List FormatKey) (at from : ℕ) → get_or (map (λ (k : FormatKey). k.end) keys) at (from + 1) ≡ first_end from (drop at keys)
first_end-at [] zero from = refl
first_end-at [] (suc at) from = refl
first_end-at (k ∷ keys) zero from = refl
first_end-at (k ∷ keys) (suc at) from = first_end-at keys at from

-- a cell is that one
pub record IsFirst (from : ℕ) (keys : List FormatKey) (cell : Cell) : Type 0 where
  pub key : cell.key ≡ first_key keys
  pub from_is : cell.from ≡ from
  pub end_is : cell.end ≡ first_end from keys
  pub free : cell.has_no_width ≡ first_free keys

pub is-first : (keys : List FormatKey) (at from : ℕ) (cell : Cell) → cell.key ≡ get_or (map (λ (k : FormatKey). k.key) keys) at Left → cell.from ≡ from
    → cell.end ≡ get_or (map (λ (k : FormatKey). k.end) keys) at (from + 1)
    → cell.has_no_width ≡ get_or (map (λ (k : FormatKey). k.has_no_width) keys) at false → IsFirst from (drop at keys) cell
is-first keys at from cell key begins end free = record {
  key = key ∙ first_key-at keys at;
  from_is = begins;
  end_is = end ∙ first_end-at keys at from;
  free = free ∙ first_free-at keys at;
}

-- cells of these keys and such as `l`, the first of which begins behind so many columns, are in a table of so many: so many of them
pub record CellsLeft (columns from : ℕ) (keys : List FormatKey) (count : ℕ) : Type 0 where
  pub cells : AreCells from keys
  pub within : columns_behind from keys ≤ columns
  pub few : count ≤ length keys + (columns - columns_behind from keys)

behind-order : (from : ℕ) (keys : List FormatKey) → AreCells from keys → from ≤ columns_behind from keys
behind-order from [] cells = omega arith
behind-order from (k ∷ keys) cells = omega (arith, cells.0, behind-order k.end keys cells.1)

pub cells-left : (columns : ℕ) (keys : List FormatKey) (count : ℕ) → AreWithin columns keys → count ≤ cell_count keys columns
    → CellsLeft columns 0 keys count
cells-left columns keys count within few = record {
  cells = within.cells;
  within = omega (arith, within.short, columns_of-behind keys);
  few = omega (arith, few, columns_of-behind keys);
}

pub left-order : (columns from : ℕ) (keys : List FormatKey) (count : ℕ) → CellsLeft columns from keys count → from ≤ columns
left-order columns from keys count left = omega (arith, behind-order from keys left.cells, left.within)

-- the first of them has a column at least, and the table has its columns
pub record CellIsWithin (columns from end : ℕ) : Type 0 where
  pub order : from < end
  pub within : end ≤ columns

first-within : (columns from : ℕ) (keys : List FormatKey) (count : ℕ) → CellsLeft columns from keys count → 0 < count
    → CellIsWithin columns from (first_end from keys)
first-within columns from [] count left some = record { order = omega arith; within = omega (arith, left.few, left.within, some) }
first-within columns from (k ∷ keys) count left some =
    record { order = left.cells.0; within = omega (arith, left.within, behind-order k.end keys left.cells.1) }

-- and the others are left behind it
left-next : (columns from : ℕ) (keys : List FormatKey) (count : ℕ) → CellsLeft columns from keys count → 0 < count
    → CellsLeft columns (first_end from keys) (drop 1 keys) (count - 1)
left-next columns from [] count left some =
    record { cells = tt; within = omega (arith, left.few, left.within, some); few = omega (arith, left.few, left.within, some) }
left-next columns from (k ∷ keys) count left some =
    record { cells = left.cells.1; within = left.within; few = omega (arith, left.few, some) }

pub keys-next : (keys : List FormatKey) (at : ℕ) → drop 1 (drop at keys) ≡ drop (at + 1) keys
keys-next keys at = drop-drop 1 at keys

module _ (columns from : ℕ) (keys : List FormatKey) (at count : ℕ) (left : CellsLeft columns from (drop at keys) (count - at)) (more : at < count) (cell : Cell) (is : IsFirst from (drop at keys) cell) where
  pub cell-within : CellIsWithin columns cell.from cell.end
  cell-within =
      let within = first-within columns from (drop at keys) (count - at) left (omega (arith, more)) in
      record { order = omega (arith, within.order, is.from_is, is.end_is); within = omega (arith, within.within, is.end_is) }

  pub cells-behind : CellsLeft columns cell.end (drop (at + 1) keys) (count - (at + 1))
  cells-behind =
      let next = left-next columns from (drop at keys) (count - at) left (omega (arith, more)) in
      let fewer : count - at - 1 ≡ count - (at + 1) = omega arith in
      subst (λ (n : ℕ). CellsLeft columns cell.end (drop (at + 1) keys) n) fewer
      (subst (λ (end : ℕ). CellsLeft columns end (drop (at + 1) keys) (count - at - 1)) (sym is.end_is)
      (subst (λ (ks : List FormatKey). CellsLeft columns (first_end from (drop at keys)) ks (count - at - 1)) (keys-next keys at) next))

-- how a cell of so many columns stands in them
pub in_columns-many : (count : ℕ) (entry : Stands) → (count ≡ 1 → ⊥) → in_columns count entry ≡ replicate count Nowhere
in_columns-many count entry many =
    ap (λ (is_one : Bool). if is_one then entry ∷ [] else replicate count Nowhere) (ne_eqb count 1 many)

pub length-in_columns : (count : ℕ) (entry : Stands) → length (in_columns count entry) ≡ count
length-in_columns zero entry = refl
length-in_columns (suc zero) entry = refl
length-in_columns (suc (suc count)) entry =
    ap length (in_columns-many (suc (suc count)) entry (λ one. omega (arith, one))) ∙ length-replicate (suc (suc count)) Nowhere

-- how the fields of a row stand in the columns behind the first one's cell
pub row_stands-next : {A : Type 0} (entry_of : Key → A → Stands) (from : ℕ) (keys : List FormatKey) (field : A) (fields : List A)
    → row_stands entry_of from keys (field ∷ fields)
    ≡ in_columns (first_end from keys - from) (counted_if (first_free keys) (entry_of (first_key keys) field))
    ++ row_stands entry_of (first_end from keys) (drop 1 keys) fields
row_stands-next entry_of from [] field fields =
    let next : suc from ≡ from + 1 = omega arith in
    let one : 1 ≡ from + 1 - from = omega arith in
    ap (λ (n : ℕ). entry_of Left field ∷ row_stands entry_of n [] fields) next
    ∙ ap (λ (n : ℕ). in_columns n (entry_of Left field) ++ row_stands entry_of (from + 1) [] fields) one
row_stands-next entry_of from (k ∷ keys) field fields = refl

-- they have no more columns than the table
pub length-row_stands : {A : Type 0} (entry_of : Key → A → Stands) (columns from : ℕ) (keys : List FormatKey) (fields : List A)
    → CellsLeft columns from keys (length fields) → from + length (row_stands entry_of from keys fields) ≤ columns
length-row_stands entry_of columns from keys [] left = omega (arith, left-order columns from keys 0 left)
length-row_stands entry_of columns from keys (field ∷ fields) left =
    let end = first_end from keys in
    let within = first-within columns from keys (suc (length fields)) left (omega arith) in
    let fewer : suc (length fields) - 1 ≡ length fields = omega arith in
    let next = subst (λ (n : ℕ). CellsLeft columns end (drop 1 keys) n) fewer (left-next columns from keys (suc (length fields)) left (omega arith)) in
    omega (
      arith,
      ap length (row_stands-next entry_of from keys field fields),
      length-append (in_columns (end - from) (counted_if (first_free keys) (entry_of (first_key keys) field)))
          (row_stands entry_of end (drop 1 keys) fields),
      length-in_columns (end - from) (counted_if (first_free keys) (entry_of (first_key keys) field)),
      within.order,
      length-row_stands entry_of columns end (drop 1 keys) fields next,
    )

pub row_stands-past : {A : Type 0} (entry_of : Key → A → Stands) (columns column : ℕ) (keys : List FormatKey) (fields : List A)
    → CellsLeft columns 0 keys (length fields) → columns ≤ column → get_or (row_stands entry_of 0 keys fields) column Nowhere ≡ Nowhere
row_stands-past entry_of columns column keys fields left past =
    get_or_past (row_stands entry_of 0 keys fields) column Nowhere (omega (arith, past, length-row_stands entry_of columns 0 keys fields left))

-- what is asked of the columns of the first cell, and of the others
pub by_cells-next : (asked : List Asked) (from : ℕ) (keys : List FormatKey) (count : ℕ) → CellsLeft (length asked) from keys count → 0 < count
    → by_cells from keys (drop from asked)
    ≡ slice_range asked from (first_end from keys) ∷ by_cells (first_end from keys) (drop 1 keys) (drop (first_end from keys) asked)
by_cells-next asked from [] count left some =
    let within = first-within (length asked) from [] count left some in
    let one : 1 ≡ from + 1 - from = omega arith in
    let rest = drop (from + 1) asked in
    let first : drop from asked ≡ get_or asked from nothing_asked ∷ rest = drop_more asked from nothing_asked (omega (arith, within.within)) in
    ap (λ (own : List Asked). map (λ (a : Asked). a ∷ []) own) first
    ∙ ap (λ (own : List Asked). take 1 own ∷ map (λ (a : Asked). a ∷ []) rest) (sym first)
    ∙ ap (λ (n : ℕ). take n (drop from asked) ∷ map (λ (a : Asked). a ∷ []) rest) one
by_cells-next asked from (k ∷ keys) count left some =
    let end : from + (k.end - from) ≡ k.end = omega (arith, left.cells.0) in
    ap (λ (more : List Asked). slice_range asked from k.end ∷ by_cells k.end keys more)
    (drop-drop (k.end - from) from asked ∙ ap (λ (n : ℕ). drop n asked) end)
