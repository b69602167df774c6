use Rattle.std.proofs.Common.{◌≡◌, ℕ, suc, ◌+◌, ◌∷◌, drop, get_or, ap, sym, ◌∙◌, arith, None}
use Rattle.tbl_format.specs.declared.format.Key.{Key}
use Rattle.tbl_layout.specs.KeptEntries.{no_entry}
use Rattle.tbl_layout.specs.declared.columns.Column.{Column}
use Rattle.tbl_layout.specs.declared.entry.Entry.{Entry}
use Rattle.tbl_lines.specs.RowsLeft.{end_by, key_of, row_columns}
use Rattle.tbl_lines.specs.declared.row_columns.RowColumn.{RowColumn}
use Rattle.tbl_lines.proofs.RowCells.{get-at}
use Rattle.tbl_lines.proofs.RowColumns.{row-column}
use Rattle.tbl_lines.specs.RowsLent.{lent_columns, lent_entries, lent_format}
use Rattle.tbl_lines.specs.PictureLines.{bars_between}
use Rattle.tbl_lines.proofs.row_columns.column_behind.Goals as goal
use Rattle.tbl_text.specs.declared.block_parts.BlockPlace.TheVariants.{AtLine}

pub returns : goal.returns
returns c =
    let row = c.args.row.now in
    let at = c.args.at in
    let places = c.args.places.now in
    let entries = lent_entries row in
    let columns = lent_columns row in
    let column = c.cell-column.result in
    let same : 0 + at ≡ at = omega arith in
    let keys : ℕ → Key = key_of (lent_format row).keys in
    let key : keys (0 + at) ≡ c.key_at.result = ap keys same ∙ sym (c.key_at.ensures 0) in
    let cell : get_or columns at column ≡ column = get-at at columns column (drop (suc at) columns) column c.cell-column.ensures.at in
    let ends : Column → Entry → ℕ → ℕ = λ x e i.
    end_by (bars_between row.bars.boxing (lent_format row) (suc i)) e.kind x (drop (suc at) columns) (drop (suc at) entries) in
    let here = c.entry_at-entry.result in
    let entry : get_or entries at no_entry ≡ here = sym (c.entry_at-entry.ensures row.last_bars) in
    let end : ends column here (0 + at) ≡ c.end_at.result = ap (ends column here) same ∙ sym c.end_at.ensures in
    let with : Column → Key → Entry → ℕ → RowColumn = λ x k e n. record {
      column = x;
      key = k;
      entry = e;
      place = get_or places at (AtLine 0 None);
      end = n;
    } in
    let rest = drop (suc at) (row_columns row.bars.boxing (lent_format row) 0 columns entries places) in
    row-column row.bars.boxing (lent_format row) 0 at columns entries places column no_entry (AtLine 0 None)
    c.requires.entry c.requires.cells c.requires.place
    ∙ ap (λ (x : Column). with x (keys (0 + at)) (get_or entries at no_entry) (ends x (get_or entries at no_entry) (0 + at)) ∷ rest) cell
    ∙ ap (λ (e : Entry). with column (keys (0 + at)) e (ends column e (0 + at)) ∷ rest) entry
    ∙ ap (λ (n : ℕ). with column (keys (0 + at)) here n ∷ rest) end
    ∙ ap (λ (k : Key). with column k here c.end_at.result ∷ rest) key
