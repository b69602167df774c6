use Rattle.std.proofs.Common.{◌≡◌, ◌++◌, drop, length, vec_capacity}
use Rattle.tbl_format.specs.Cells.{AreCells}
use Rattle.tbl_format.specs.Format.{columns_of_keys}
use Rattle.tbl_format.proofs.CellColumns.{columns_behind}
use Rattle.tbl_line_cells.specs.LinesDrawn.{keys_in}
use Rattle.tbl_tall.specs.ShownBars.{owners}
use Rattle.tbl_tall.proofs.shown_bars.push_through.Given as goal

abbrev pub invariant-loop-at : goal.invariant-loop-at
invariant-loop-at l = record {
  items : l.through.items ++ owners l.at l.column (drop l.at l.cells) ≡ owners 0 0 l.cells;
  many : length l.through.items ≡ l.column;
  order : AreCells l.column (keys_in (drop l.at l.cells));
  columns : columns_behind l.column (keys_in (drop l.at l.cells)) ≡ columns_of_keys (keys_in l.cells);
  capacity : vec_capacity l.through ≡ vec_capacity l.fn.through;
}
