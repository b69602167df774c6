use Rattle.std.proofs.Common.{◌≡◌, ◌≤◌, drop, length}
use Rattle.tbl_lines.specs.RowsWalked.{AreGlyphless}
use Rattle.tbl_picture.specs.Walks.{lent_row, line_cells}
use Rattle.tbl_picture.proofs.walk.fronts.count_to_mark.Given as goal

abbrev pub invariant-loop-count : goal.invariant-loop-count
invariant-loop-count l = record {
  few : l.count ≤ length (line_cells (lent_row l.row) l.line l.places);
  behind : AreGlyphless (drop l.count (line_cells (lent_row l.row) l.line l.places));
  room : l.escapes.room ≡ l.fn.escapes.room;
}

abbrev pub decreases-loop-count : goal.decreases-loop-count
decreases-loop-count l = l.count
