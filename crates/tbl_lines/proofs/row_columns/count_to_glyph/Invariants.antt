use Rattle.std.proofs.Common.{◌≡◌, ◌≤◌, drop, length, map}
use Rattle.tbl_lines.specs.RowsLeft.{cell_left, row_columns}
use Rattle.tbl_lines.specs.RowsWalked.{AreGlyphless}
use Rattle.tbl_lines.specs.RowsLent.{lent_columns, lent_entries, lent_format}
use Rattle.tbl_lines.proofs.row_columns.count_to_glyph.Given as goal

abbrev pub invariant-loop-count : goal.invariant-loop-count
invariant-loop-count l = record {
  few : l.count ≤ length (lent_entries l.row);
  behind : AreGlyphless (drop l.count (map (cell_left l.row.bytes.now l.line)
      (row_columns l.row.bars.boxing (lent_format l.row) 0 (lent_columns l.row) (lent_entries l.row) l.places)));
  room : l.escapes.room ≡ l.fn.escapes.room;
}

abbrev pub decreases-loop-count : goal.decreases-loop-count
decreases-loop-count l = l.count
