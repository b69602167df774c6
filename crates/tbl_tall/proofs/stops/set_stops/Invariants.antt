use Rattle.std.proofs.Common.{◌≡◌, ℕ, suc, ◌≤◌, List, drop, length}
use Rattle.std.specs.List.{AllByRecursion}
use Rattle.tbl_format.specs.RowsServed.{all_rows}
use Rattle.tbl_kept.specs.Rows.{elements_of, ElementLaid}
use Rattle.tbl_kept.specs.RowsLaying.{element_at}
use Rattle.tbl_lines.specs.CellsLeft.{Left}
use Rattle.tbl_line_cells.specs.KeptCells.{AllLeft}
use Rattle.tbl_tall.proofs.StopsSet.{AreSame, first_behind}
use Rattle.tbl_tall.proofs.stops.set_stops.Given as goal
use Rattle.tbl_tall.specs.StopsKept.{format_kept, stopped_from}

abbrev pub decreases-loop-at : goal.decreases-loop-at
decreases-loop-at l = l.at

abbrev pub invariant-loop-at : goal.invariant-loop-at
invariant-loop-at l = record {
  left : (bytes : List ℕ) (lefts : List Left) → AllByRecursion (ElementLaid bytes (all_rows l.format.format) (length l.rows.columns)) l.rows.elements
      → AllLeft bytes l.fn.cells lefts
      → AllLeft bytes l.cells (stopped_from (length l.rows.columns) (format_kept (all_rows l.format.format) (element_at l.rows.elements l.element)).keys
      (elements_of bytes (all_rows l.format.format) (drop (suc l.element) l.rows.elements)) l.at 0 lefts);
  first : (bytes : List ℕ) (lefts : List Left) → AllLeft bytes l.fn.cells lefts → l.next ≡ first_behind (length l.rows.columns) 0 l.at lefts;
  same : AreSame l.cells l.fn.cells;
  few : l.next ≤ length l.rows.columns;
  within : l.at ≤ length l.fn.cells;
}
