-- The cells of rows that are kept, by their keys and fields.
use Rattle.std.proofs.Common.{◌≡◌, ℕ, ◌<◌, List, length, map, get_or, sym, ap, subst, ◌∙◌, Option}
use Rattle.std.specs.List.{slice_range}
use Rattle.tbl_format.specs.Format.{FormatRow}
use Rattle.tbl_format.specs.RowsServed.{row_at}
use Rattle.tbl_format.specs.declared.format.FormatKey.{FormatKey}
use Rattle.tbl_layout.specs.Heights.{cell_above, cell_below}
use Rattle.tbl_layout.specs.KeptEntries.{all_entries, no_entry}
use Rattle.tbl_layout.specs.declared.entry.Entry.{Entry}
use Rattle.tbl_kept.specs.KeptHeights.{HasCells, cell_above_kept, cell_below_kept, cells_of, field_kept}
use Rattle.tbl_kept.specs.Rows.{Command, KeptElement, Row, Rule}
use Rattle.tbl_kept.specs.RowsInside.{kept_in}
use Rattle.tbl_kept.specs.declared.rows.Element.{Element}
use Rattle.tbl_kept.specs.declared.rows.Element.TheVariants.{Row as OneRow}
use Rattle.tbl_kept.specs.declared.rows.KeptRow.{KeptRow}
use Rattle.tbl_kept.proofs.RowPlaces.{kept-at}

module _ (formats : List FormatRow) where
  -- the cells of one of the elements
  pub has-cells : (fields : List Entry) (elements : List Element) (at : ℕ) (none : Element) (row : KeptRow) (keys : List FormatKey) (entries : List Entry)
      → at < length elements → get_or elements at none ≡ OneRow row → keys ≡ (row_at formats row.keys).keys
      → entries ≡ slice_range fields row.from row.to → HasCells formats (get_or (map (kept_in fields) elements) at (Command 0 0)) keys entries
  has-cells fields elements at none row keys entries more is same slice =
      subst (λ (e : KeptElement). HasCells formats e keys entries) (sym (kept-at fields elements at none (OneRow row) (Command 0 0) more is)) (same, slice)

  -- what stands in one of them
  pub field-has : (cell : ℕ) (e : KeptElement) (keys : List FormatKey) (entries : List Entry) (found : Entry) → HasCells formats e keys entries
      → ((bars : ℕ) → found ≡ get_or (all_entries (record { keys = keys; bars = bars }) entries) cell no_entry) → found ≡ field_kept formats cell e
  field-has cell (Row row rules height fields) keys entries found has is =
      let bars = (row_at formats row).bars in
      is bars
      ∙ ap (λ (ks : List FormatKey). get_or (all_entries (record { keys = ks; bars = bars }) entries) cell no_entry) has.0
      ∙ ap (λ (es : List Entry). get_or (all_entries (row_at formats row) es) cell no_entry) has.1
  field-has cell (Rule sign) keys entries found has is = absurd has
  field-has cell (Command from to) keys entries found has is = absurd has

  -- with which cell of the row above one goes on
  pub above-has : (bytes : List ℕ) (cell : ℕ) (above e : KeptElement) (others keys : List FormatKey) (other_fields entries : List Entry) (found : Option ℕ)
      → HasCells formats above others other_fields → HasCells formats e keys entries
      → ((bars : ℕ) → found ≡ cell_above others keys (cells_of bytes bars keys entries) cell) → found ≡ cell_above_kept bytes formats cell above e
  above-has bytes cell (Row row rules height fields) (Row own own_rules own_height own_fields) others keys other_fields entries found has here is =
      let format = row_at formats own in
      let front = (row_at formats row).keys in
      is format.bars
      ∙ ap (λ (ks : List FormatKey). cell_above ks keys (cells_of bytes format.bars keys entries) cell) has.0
      ∙ ap (λ (ks : List FormatKey). cell_above front ks (cells_of bytes format.bars ks entries) cell) here.0
      ∙ ap (λ (es : List Entry). cell_above front format.keys (cells_of bytes format.bars format.keys es) cell) here.1
  above-has bytes cell (Row row rules height fields) (Rule sign) others keys other_fields entries found has here is = absurd here
  above-has bytes cell (Row row rules height fields) (Command from to) others keys other_fields entries found has here is = absurd here
  above-has bytes cell (Rule sign) e others keys other_fields entries found has here is = absurd has
  above-has bytes cell (Command from to) e others keys other_fields entries found has here is = absurd has

  -- and which of the row below goes on with one
  pub below-has : (bytes : List ℕ) (cell : ℕ) (e below : KeptElement) (keys others : List FormatKey) (entries other_fields : List Entry) (found : Option ℕ)
      → HasCells formats e keys entries → HasCells formats below others other_fields
      → ((bars : ℕ) → found ≡ cell_below keys others (cells_of bytes bars others other_fields) cell) → found ≡ cell_below_kept bytes formats cell e below
  below-has bytes cell (Row own own_rules own_height own_fields) (Row row rules height fields) keys others entries other_fields found here has is =
      let format = row_at formats row in
      let front = (row_at formats own).keys in
      is format.bars
      ∙ ap (λ (ks : List FormatKey). cell_below ks others (cells_of bytes format.bars others other_fields) cell) here.0
      ∙ ap (λ (ks : List FormatKey). cell_below front ks (cells_of bytes format.bars ks other_fields) cell) has.0
      ∙ ap (λ (es : List Entry). cell_below front format.keys (cells_of bytes format.bars format.keys es) cell) has.1
  below-has bytes cell (Row row rules height fields) (Rule sign) keys others entries other_fields found here has is = absurd has
  below-has bytes cell (Row row rules height fields) (Command from to) keys others entries other_fields found here has is = absurd has
  below-has bytes cell (Rule sign) below keys others entries other_fields found here has is = absurd here
  below-has bytes cell (Command from to) below keys others entries other_fields found here has is = absurd here
