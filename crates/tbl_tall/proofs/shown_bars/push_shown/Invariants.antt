use Rattle.std.proofs.Common.{◌≡◌, ◌++◌, List, drop, length, ℕ, vec_capacity}
use Rattle.tbl_format.specs.Cells.{AreCells}
use Rattle.tbl_format.specs.Format.{columns_of_keys}
use Rattle.tbl_format.proofs.CellColumns.{columns_behind}
use Rattle.tbl_lines.specs.CellsLeft.{Left}
use Rattle.tbl_line_cells.specs.LinesDrawn.{keys_in}
use Rattle.tbl_line_cells.specs.KeptCells.{AllLeft}
use Rattle.tbl_tall.proofs.CellsSpread.{spread}
use Rattle.tbl_tall.proofs.RowBars.{fronts_of}
use Rattle.tbl_tall.proofs.shown_bars.push_shown.Given as goal

abbrev pub invariant-loop-at : goal.invariant-loop-at
invariant-loop-at l = record {
  items : (bytes : List ℕ) (lefts : List Left) → AllLeft bytes l.cells lefts
      → l.shown.items ++ spread (fronts_of bytes l.boxing l.last_bars l.rules lefts) l.at l.column (keys_in (drop l.at l.cells))
      ≡ spread (fronts_of bytes l.boxing l.last_bars l.rules lefts) 0 0 (keys_in l.cells);
  many : length l.shown.items ≡ l.column;
  order : AreCells l.column (keys_in (drop l.at l.cells));
  columns : columns_behind l.column (keys_in (drop l.at l.cells)) ≡ columns_of_keys (keys_in l.cells);
  capacity : vec_capacity l.shown ≡ vec_capacity l.fn.shown;
}
