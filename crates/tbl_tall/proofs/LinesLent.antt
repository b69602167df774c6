-- A line that is laid, lent as a row of one line.
use Rattle.std.proofs.Common.{◌≡◌, ℕ, suc, ◌+◌, ◌-◌, List, [], ◌∷◌, drop, length, map, take, refl, sym, ap, subst, ◌∙◌, arith, Some}
use Rattle.tbl_format.proofs.CellColumns.{columns_behind, columns_of-behind}
use Rattle.tbl_format.specs.Cells.{AreCells, by_cells}
use Rattle.tbl_format.specs.Format.{columns_of_keys}
use Rattle.tbl_format.specs.FormatRows.{AreWithin}
use Rattle.tbl_format.specs.declared.format.FormatKey.{FormatKey}
use Rattle.tbl_layout.specs.KeptEntries.{all_entries}
use Rattle.tbl_layout.specs.Spans.{as_one, cells_of}
use Rattle.tbl_layout.specs.declared.bars.Bars.{Bars}
use Rattle.tbl_layout.specs.declared.columns.Column.{Column}
use Rattle.tbl_layout.specs.declared.entry.Entry.{Entry}
use Rattle.tbl_lines.specs.RowsLeft.{cell_of_front}
use Rattle.tbl_lines.specs.RowsLent.{AreFronts, WalkedRow}
use Rattle.tbl_lines.specs.RowsWalked.{AreNarrow}
use Rattle.tbl_lines.specs.declared.fronts.Front.{Front}
use Rattle.tbl_line_cells.specs.LinesDrawn.{AreSingle, Draws, KeptLine, laid_row}

-- cells of one column each
single-order : (from : ℕ) (keys : List FormatKey) → AreSingle from keys → AreCells from keys
single-order from [] single = tt
single-order from (k ∷ keys) single =
    (omega (arith, single.0), subst (λ (n : ℕ). AreCells n keys) (sym single.0) (single-order (suc from) keys single.2))

single-columns : (from : ℕ) (keys : List FormatKey) → AreSingle from keys → columns_behind from keys ≡ from + length keys
single-columns from [] single = omega arith
single-columns from (k ∷ keys) single =
    let more = single-columns (suc from) keys single.2 in
    ap (λ (n : ℕ). columns_behind n keys) single.0 ∙ omega (arith, more)

pub single-within : (keys : List FormatKey) (columns : List Column) → AreSingle 0 keys → length keys ≡ length columns → AreWithin (length columns) keys
single-within keys columns single many = record {
  cells = single-order 0 keys single;
  short = omega (arith, columns_of-behind keys, single-columns 0 keys single, many);
}

-- they have as many columns
single-count : (keys : List FormatKey) → AreSingle 0 keys → columns_of_keys keys ≡ length keys
single-count keys single = omega (arith, columns_of-behind keys, single-columns 0 keys single)

single-ones : (from : ℕ) (keys : List FormatKey) (columns : List Column) → AreSingle from keys → length keys ≡ length columns
    → map as_one (by_cells from keys columns) ≡ columns
single-ones from [] [] single many = refl
single-ones from [] (c ∷ columns) single many = absurd (omega (arith, many))
single-ones from (k ∷ keys) [] single many = absurd (omega (arith, many))
single-ones from (k ∷ keys) (c ∷ columns) single many =
    let one : k.end - from ≡ 1 = omega (arith, single.0) in
    ap (λ (n : ℕ). as_one (take n (c ∷ columns)) ∷ map as_one (by_cells k.end keys (drop n (c ∷ columns)))) one
    ∙ ap (λ (n : ℕ). c ∷ map as_one (by_cells n keys columns)) single.0
    ∙ ap (λ (cs : List Column). c ∷ cs) (single-ones (suc from) keys columns single.2 (omega (arith, many)))

pub single-cells : (keys : List FormatKey) (columns : List Column) → AreSingle 0 keys → length keys ≡ length columns → cells_of keys columns ≡ columns
single-cells keys columns single many = single-ones 0 keys columns single many

-- so it is the row that is laid
abbrev pub row_as : List ℕ → Bars → ℕ → List FormatKey → List Front → List Column → List Entry → WalkedRow
row_as bytes bars width keys fronts columns entries = record {
  bars = bars;
  width = width;
  bytes = bytes;
  format = record { keys = keys; bars = 0 };
  columns = columns;
  height = 1;
  entries = entries;
  fronts = Some (map cell_of_front fronts);
}

module _ {bytes : List ℕ} {bars : Bars} {width : ℕ} {line : KeptLine} {text : List ℕ} (draws : Draws bytes bars width line text)
    {keys : List FormatKey} {columns : List Column} {entries : List Entry} {fronts : List Front} (own_keys : keys ≡ line.keys)
    (own_columns : columns ≡ line.columns) (own_entries : entries ≡ line.entries) (own_fronts : fronts ≡ line.fronts) where
  cells-own : cells_of keys columns ≡ line.columns
  cells-own =
      ap (λ (ks : List FormatKey). cells_of ks columns) own_keys ∙ ap (cells_of line.keys) own_columns
      ∙ single-cells line.keys line.columns draws.keys draws.as_many_keys

  pub entries-own : all_entries (record { keys = keys; bars = 0 }) entries ≡ line.entries
  entries-own =
      ap (λ (ks : List FormatKey). all_entries (record { keys = ks; bars = 0 }) entries) own_keys
      ∙ ap (all_entries (record { keys = line.keys; bars = 0 })) own_entries ∙ draws.filled

  pub row-own : row_as bytes bars width keys fronts (cells_of keys columns) (all_entries (record { keys = keys; bars = 0 }) entries)
      ≡ laid_row bytes bars width line
  row-own =
      ap (λ (cs : List Column). row_as bytes bars width keys fronts cs (all_entries (record { keys = keys; bars = 0 }) entries)) cells-own
      ∙ ap (λ (es : List Entry). row_as bytes bars width keys fronts line.columns es) entries-own
      ∙ ap (λ (ks : List FormatKey). row_as bytes bars width ks fronts line.columns line.entries) own_keys
      ∙ ap (λ (fs : List Front). row_as bytes bars width line.keys fs line.columns line.entries) own_fronts

  pub within-own : AreWithin (length columns) keys
  within-own =
      subst (λ (ks : List FormatKey). AreWithin (length columns) ks) (sym own_keys)
      (subst (λ (cs : List Column). AreWithin (length cs) line.keys) (sym own_columns)
      (single-within line.keys line.columns draws.keys draws.as_many_keys))

  pub plain-own : columns_of_keys keys ≡ length keys
  plain-own = subst (λ (ks : List FormatKey). columns_of_keys ks ≡ length ks) (sym own_keys) (single-count line.keys draws.keys)

  pub narrow-own : AreNarrow columns
  narrow-own = subst AreNarrow (sym own_columns) draws.narrow

  pub fronts-own : AreFronts (cells_of keys columns) fronts
  fronts-own =
      subst (λ (cs : List Column). AreFronts cs fronts) (sym cells-own)
      (subst (λ (fs : List Front). AreFronts line.columns fs) (sym own_fronts) draws.fronts)
