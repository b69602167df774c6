-- The columns of the cells of a row, by where the cells end.
use Rattle.std.proofs.Common.{◌≡◌, ℕ, zero, suc, ◌+◌, ◌-◌, ◌<◌, ◌≤◌, false, List, [], ◌∷◌, None, length, map, drop, get_or, refl, ap, ◌∙◌, arith}
use Rattle.std.specs.List.{slice_range}
use Rattle.std.proofs.lemmas.List.{length-map}
use Rattle.tbl_format.specs.Cells.{end_of, start_of}
use Rattle.tbl_format.specs.Format.{columns_of_keys}
use Rattle.tbl_format.specs.FormatRows.{AreWithin}
use Rattle.tbl_format.specs.declared.format.FormatKey.{FormatKey}
use Rattle.tbl_format.specs.declared.format.Key.TheVariants.{Left}
use Rattle.tbl_format.specs.declared.format.Standing.TheVariants.{Middle}
use Rattle.tbl_layout.specs.KeptEntries.{no_entry}
use Rattle.tbl_text.specs.declared.block_parts.BlockPlace.TheVariants.{AtLine}
use Rattle.tbl_format.proofs.CellColumns.{cells-few}
use Rattle.tbl_layout.specs.Spans.{as_one, cells_of}
use Rattle.tbl_layout.specs.declared.columns.Column.{Column}
use Rattle.tbl_lines.proofs.CellsLent.{cell-lies, cells_of-at, length-cells_of}
use Rattle.tbl_line_cells.specs.LinesDrawn.{keys_in}
use Rattle.tbl_line_cells.specs.declared.cells.CellLeft.{CellLeft}

-- where a cell ends
end-by : (cells : List CellLeft) (n d : ℕ) (x : CellLeft) → n < length cells
    → get_or (map (λ (k : FormatKey). k.end) (keys_in cells)) n d ≡ (get_or cells n x).key.end
end-by [] n d x few = absurd (omega (arith, few))
end-by (c ∷ cells) zero d x few = refl
end-by (c ∷ cells) (suc n) d x few = end-by cells n d x (omega (arith, few))

-- the columns of a cell, from one to another, as one
pub record ColumnAt (columns all : List Column) (from end n : ℕ) : Type 0 where
  pub order : from < end
  pub within : end ≤ length columns
  pub is : drop n all ≡ as_one (slice_range columns from end) ∷ drop (suc n) all

-- a cell of which nothing is known
abbrev pub no_cell : CellLeft
no_cell = record {
  key = record { bars = 0; key = Left; end = 0; standing = Middle; has_no_width = false };
  entry = no_entry;
  lead = 0;
  place = AtLine 0 None;
  rows = 0;
  is_used = false;
  stop = 0;
  is_cut = false;
}

module _ (cells : List CellLeft) (columns : List Column) (x : CellLeft) (within : AreWithin (length columns) (keys_in cells)) where
  abbrev all : List Column
  all = cells_of (keys_in cells) columns

  abbrev last : ℕ → ℕ
  last n = columns_of_keys (keys_in cells) + (n + 1 - length (keys_in cells))

  many : length cells ≤ length all
  many = omega (arith, length-cells_of (keys_in cells) columns within, length-map cells (λ (c : CellLeft). c.key))

  pub few-cells : length cells ≤ length columns
  few-cells = omega (arith, cells-few (keys_in cells) within.cells, within.short, length-map cells (λ (c : CellLeft). c.key))

  column-by : (n from end : ℕ) → n < length cells → start_of (keys_in cells) n ≡ from → end_of (keys_in cells) n ≡ end
      → ColumnAt columns all from end n
  column-by n from end few from_is end_is =
      let lies = cell-lies (keys_in cells) columns n within (omega (arith, few, many)) in
      record {
        order = omega (arith, lies.order, from_is, end_is);
        within = omega (arith, lies.within, end_is);
        is =
            cells_of-at (keys_in cells) columns n within (omega (arith, few, many))
            ∙ ap (λ (i : ℕ). as_one (slice_range columns i (end_of (keys_in cells) n)) ∷ drop (suc n) all) from_is
            ∙ ap (λ (i : ℕ). as_one (slice_range columns from i) ∷ drop (suc n) all) end_is;
      }

  pub first-column : 0 < length cells → ColumnAt columns all 0 (get_or cells 0 x).key.end 0
  first-column some = column-by 0 0 (get_or cells 0 x).key.end some refl (end-by cells 0 (last 0) x some)

  pub next-column : (n m : ℕ) → m ≡ suc n → m < length cells → ColumnAt columns all (get_or cells n x).key.end (get_or cells m x).key.end m
  next-column n m is some =
      column-by m (get_or cells n x).key.end (get_or cells m x).key.end some
      (ap (start_of (keys_in cells)) is ∙ end-by cells n (last n) x (omega (arith, some, is))) (end-by cells m (last m) x some)
