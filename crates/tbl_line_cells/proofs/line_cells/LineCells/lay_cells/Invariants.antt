use Rattle.std.proofs.Common.{◌≡◌, ℕ, suc, List, [], ◌∷◌, ◌++◌, drop, length, take, vec_capacity}
use Rattle.tbl_layout.specs.Spans.{cells_of}
use Rattle.tbl_lines.specs.CellsLeft.{Left}
use Rattle.tbl_lines.specs.LinesLeft.{between, row_shown}
use Rattle.tbl_lines.specs.PictureLines.{Cell}
use Rattle.tbl_lines.specs.RowsWalked.{IsNarrow}
use Rattle.tbl_line_cells.specs.KeptCells.{AllLeft}
use Rattle.tbl_line_cells.specs.LinesDrawn.{SoFar, kept_line, keys_in}
use Rattle.tbl_line_cells.proofs.line_cells.LineCells.lay_cells.Given as goal

abbrev pub invariant-loop-at : goal.invariant-loop-at
invariant-loop-at l = record {
  line : l.self ≡ record l.fn.self { cells = l.self.cells; has_running = l.self.has_running; fronts = l.self.fronts };
  column : drop l.at (cells_of (keys_in l.cells) l.columns) ≡ l.column ∷ drop (suc l.at) (cells_of (keys_in l.cells) l.columns);
  narrow : IsNarrow l.column;
  so_far : (bytes : List ℕ) (lefts : List Left) (fronts : List Cell) → AllLeft bytes l.cells lefts → SoFar bytes (kept_line l.fn.self) [] fronts
      → SoFar bytes (kept_line l.self) (take l.at (row_shown l.boxing lefts (cells_of (keys_in l.cells) l.columns)))
      (fronts ++ take l.at (between l.boxing lefts (cells_of (keys_in l.cells) l.columns)));
  count : length l.self.cells.items ≡ l.at;
  count_fronts : length l.self.fronts.items ≡ suc l.at;
  capacity : vec_capacity l.self.cells ≡ vec_capacity l.fn.self.cells;
  capacity_fronts : vec_capacity l.self.fronts ≡ vec_capacity l.fn.self.fronts;
}
