-- The columns of each cell of a row, as one.
use Rattle.std.proofs.Common.{◌≡◌, ℕ, zero, suc, ◌+◌, ◌-◌, ◌<◌, ◌≤◌, List, [], ◌∷◌, length, take, drop, get_or, map, refl, ap, subst, ◌∙◌, arith, get_or-drop, length-drop}
use Rattle.std.specs.List.{slice_range}
use Rattle.std.proofs.Math.Seq.{drop-cons}
use Rattle.std.proofs.lemmas.List.{length-map}
use Rattle.tbl_format.specs.Cells.{by_cells, cell_count, end_of, start_of}
use Rattle.tbl_format.specs.FormatRows.{AreWithin}
use Rattle.tbl_format.specs.declared.format.FormatKey.{FormatKey}
use Rattle.tbl_format.proofs.CellColumns.{by_cells-at, cell-within, cells-few, length-by_cells}
use Rattle.tbl_layout.specs.LayoutLaws.{last_end}
use Rattle.tbl_layout.specs.Spans.{as_one, cells_of}
use Rattle.tbl_layout.specs.declared.columns.Column.{Column}
use Rattle.tbl_lines.specs.RowsWalked.{AreNarrow, IsNarrow}
use Rattle.tbl_lines.proofs.RowColumns.{map-at}

-- how many cells a row has
pub length-cells_of : (keys : List FormatKey) (columns : List Column) → AreWithin (length columns) keys
    → length (cells_of keys columns) ≡ cell_count keys (length columns)
length-cells_of keys columns lie =
    length-map (by_cells 0 keys columns) as_one ∙ length-by_cells keys columns lie.cells lie.short

pub cells-few-columns : (keys : List FormatKey) (columns : List Column) → AreWithin (length columns) keys
    → length (cells_of keys columns) ≤ length columns
cells-few-columns keys columns lie = omega (arith, length-cells_of keys columns lie, cells-few keys lie.cells, lie.short)

-- one of them
pub cells_of-at : (keys : List FormatKey) (columns : List Column) (cell : ℕ) → AreWithin (length columns) keys → cell < length (cells_of keys columns)
    → drop cell (cells_of keys columns)
    ≡ as_one (slice_range columns (start_of keys cell) (end_of keys cell)) ∷ drop (suc cell) (cells_of keys columns)
cells_of-at keys columns cell lie some =
    map-at as_one cell (by_cells 0 keys columns) (slice_range columns (start_of keys cell) (end_of keys cell))
    (by_cells-at columns keys cell lie.cells lie.short (omega (arith, some, length-cells_of keys columns lie)))

-- where the last of some columns ends
last_end-at : (n place : ℕ) (columns : List Column) (d : Column) → n < length columns
    → last_end place (take (suc n) columns) ≡ (get_or columns n d).start + (get_or columns n d).width
last_end-at n place [] d few = absurd (omega (arith, few))
last_end-at zero place (c ∷ columns) d few = refl
last_end-at (suc n) place (c ∷ columns) d few = last_end-at n (c.start + c.width) columns d (omega (arith, few))

-- columns from one up to another as one
pub one-alone : (columns : List Column) (from end : ℕ) (d : Column) → from < length columns → end - from ≡ 1
    → as_one (slice_range columns from end) ≡ get_or columns from d
one-alone columns from end d few one =
    ap (λ (n : ℕ). as_one (take n (drop from columns))) one
    ∙ ap (λ (cs : List Column). as_one (take 1 cs)) (drop-cons columns from d few)

several : (n : ℕ) (c : Column) (columns : List Column) (d : Column) → n < length columns
    → as_one (take (suc (suc n)) (c ∷ columns))
    ≡ record c { width = (get_or columns n d).start + (get_or columns n d).width - c.start }
several n c [] d few = absurd (omega (arith, few))
several n c (x ∷ columns) d few = ap (λ (end : ℕ). record c { width = end - c.start }) (last_end-at n 0 (x ∷ columns) d few)

pub one-several : (columns : List Column) (from end : ℕ) (d : Column) → from + 1 < end → end ≤ length columns
    → as_one (slice_range columns from end)
    ≡ record (get_or columns from d) { width = (get_or columns (end - 1) d).start + (get_or columns (end - 1) d).width - (get_or columns from d).start }
one-several columns from end d some few =
    let n = end - from - 2 in
    let first = get_or columns from d in
    let count : end - from ≡ suc (suc n) = omega (arith, some) in
    let last : suc from + n ≡ end - 1 = omega (arith, some) in
    let up_to : Column → Column = λ c. record first { width = c.start + c.width - first.start } in
    ap (λ (k : ℕ). as_one (take k (drop from columns))) count
    ∙ ap (λ (cs : List Column). as_one (take (suc (suc n)) cs)) (drop-cons columns from d (omega (arith, some, few)))
    ∙ several n first (drop (suc from) columns) d (omega (arith, some, few, length-drop (suc from) columns))
    ∙ ap up_to (get_or-drop (suc from) columns n d ∙ ap (λ (k : ℕ). get_or columns k d) last)

one-or : (n : ℕ) (columns : List Column) (from end : ℕ) (d : Column) → end - from ≡ suc n → end ≤ length columns
    → as_one (slice_range columns from end)
    ≡ record (get_or columns from d) { width = (get_or columns (end - 1) d).start + (get_or columns (end - 1) d).width - (get_or columns from d).start }
one-or zero columns from end d is few =
    let c = get_or columns from d in
    let own : c.width ≡ c.start + c.width - c.start = omega arith in
    let last : from ≡ end - 1 = omega (arith, is) in
    one-alone columns from end d (omega (arith, is, few)) is
    ∙ ap (λ (w : ℕ). record c { width = w }) own
    ∙ ap (λ (k : ℕ). record c { width = (get_or columns k d).start + (get_or columns k d).width - c.start }) last
one-or (suc n) columns from end d is few = one-several columns from end d (omega (arith, is)) few

-- in any case a cell goes from its first column's beginning to its last one's end
pub from-first-to-last : (columns : List Column) (from end : ℕ) (d : Column) → from < end → end ≤ length columns
    → as_one (slice_range columns from end)
    ≡ record (get_or columns from d) { width = (get_or columns (end - 1) d).start + (get_or columns (end - 1) d).width - (get_or columns from d).start }
from-first-to-last columns from end d order few =
    let count : end - from ≡ suc (end - from - 1) = omega (arith, order) in
    one-or (end - from - 1) columns from end d count few

-- a cell ends where no sum of places overflows, as its columns do
last_end-small : (place : ℕ) (columns : List Column) → place < 4294967296 → AreNarrow columns → last_end place columns < 4294967296
last_end-small place [] small narrow = small
last_end-small place (c ∷ columns) small narrow = last_end-small (c.start + c.width) columns narrow.0.end narrow.1

narrow-one : (columns : List Column) → AreNarrow columns → IsNarrow (as_one columns)
narrow-one [] narrow = record { end = omega arith }
narrow-one (c ∷ []) narrow = narrow.0
narrow-one (c ∷ d ∷ columns) narrow = record {
  end = omega (arith, narrow.0.end, last_end-small (d.start + d.width) columns narrow.1.0.end narrow.1.1);
}

narrow-take : (n : ℕ) (columns : List Column) → AreNarrow columns → AreNarrow (take n columns)
narrow-take zero columns narrow = tt
narrow-take (suc n) [] narrow = tt
narrow-take (suc n) (c ∷ columns) narrow = (narrow.0, narrow-take n columns narrow.1)

narrow-drop : (n : ℕ) (columns : List Column) → AreNarrow columns → AreNarrow (drop n columns)
narrow-drop zero columns narrow = narrow
narrow-drop (suc n) [] narrow = tt
narrow-drop (suc n) (c ∷ columns) narrow = narrow-drop n columns narrow.1

narrow-from : (from : ℕ) (keys : List FormatKey) (columns : List Column) → AreNarrow columns → AreNarrow (map as_one (by_cells from keys columns))
narrow-from from [] [] narrow = tt
narrow-from from [] (c ∷ columns) narrow = (narrow.0, narrow-from from [] columns narrow.1)
narrow-from from (k ∷ keys) columns narrow =
    let n = k.end - from in
    (narrow-one (take n columns) (narrow-take n columns narrow), narrow-from k.end keys (drop n columns) (narrow-drop n columns narrow))

pub narrow-cells : (keys : List FormatKey) (columns : List Column) → AreNarrow columns → AreNarrow (cells_of keys columns)
narrow-cells keys columns narrow = narrow-from 0 keys columns narrow

-- one of some columns
pub narrow-of : (n : ℕ) (columns : List Column) (c : Column) (rest : List Column) → AreNarrow columns → drop n columns ≡ c ∷ rest → IsNarrow c
narrow-of n columns c rest narrow is = (subst AreNarrow is (narrow-drop n columns narrow)).0

-- where the columns of a cell lie
pub record CellLies (keys : List FormatKey) (columns : List Column) (cell : ℕ) : Type 0 where
  pub order : start_of keys cell < end_of keys cell
  pub within : end_of keys cell ≤ length columns
  pub few : cell < length columns

pub cell-lies : (keys : List FormatKey) (columns : List Column) (cell : ℕ) → AreWithin (length columns) keys → cell < length (cells_of keys columns)
    → CellLies keys columns cell
cell-lies keys columns cell lie some =
    let count = length-cells_of keys columns lie in
    let within = cell-within keys (length columns) cell lie.cells lie.short (omega (arith, some, count)) in
    record { order = within.0; within = within.1; few = omega (arith, some, count, cells-few keys lie.cells, lie.short) }
