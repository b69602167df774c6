use Rattle.std.proofs.Common.{◌≡◌, ℕ, suc, ◌<◌, ◌≤◌, min, List, drop, length}
use Rattle.std.specs.List.{AllByRecursion}
use Rattle.tbl_format.specs.RowsServed.{all_rows}
use Rattle.tbl_kept.specs.Rows.{ElementLaid, elements_of}
use Rattle.tbl_kept.specs.RowsLaying.{element_at}
use Rattle.tbl_lines.specs.CellsLeft.{stop_below}
use Rattle.tbl_tall.proofs.stops.stop_below.Given as goal
use Rattle.tbl_tall.specs.RowsNext.{end_kept}
use Rattle.tbl_tall.specs.StopsKept.{IsRow, format_kept}

abbrev pub invariant-loop-at : goal.invariant-loop-at
invariant-loop-at l = record {
  total : (bytes : List ℕ) → AllByRecursion (ElementLaid bytes (all_rows l.format.format) (length l.rows.columns)) l.rows.elements
      → min l.stop (stop_below (length l.rows.columns) (format_kept (all_rows l.format.format) (element_at l.rows.elements l.row)).keys l.own
      (elements_of bytes (all_rows l.format.format) (drop l.at l.rows.elements)))
      ≡ min l.most (stop_below (length l.rows.columns) (format_kept (all_rows l.format.format) (element_at l.rows.elements l.element)).keys l.cell
      (elements_of bytes (all_rows l.format.format) (drop (suc l.element) l.rows.elements)));
  row : l.row < length l.rows.elements;
  is_row : IsRow (element_at l.rows.elements l.row);
  small : l.own < 4611686018427387904;
  end : l.end ≡ end_kept (all_rows l.format.format) (element_at l.rows.elements l.row) l.own;
  few : l.stop ≤ length l.rows.columns;
}
