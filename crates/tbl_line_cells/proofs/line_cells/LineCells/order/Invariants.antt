use Rattle.std.proofs.Common.{◌≡◌, ℕ, List, length, vec_capacity}
use Rattle.tbl_lines.specs.LinesLeft.{Shown}
use Rattle.tbl_lines.specs.PictureLines.{Cell}
use Rattle.tbl_line_cells.specs.LinesDrawn.{CutSoFar, kept_line}
use Rattle.tbl_line_cells.proofs.LineShown.{OrderedTo}
use Rattle.tbl_line_cells.proofs.line_cells.LineCells.order.Given as goal

abbrev pub invariant-loop-at : goal.invariant-loop-at
invariant-loop-at l = record {
  line : l.self ≡ record l.fn.self { cells = l.self.cells };
  so_far : (bytes : List ℕ) (done : List Shown) (fronts : List Cell) → CutSoFar bytes (kept_line l.fn.self) done fronts
      → OrderedTo bytes l.self.cells.items done l.at l.last_text;
  count : length l.self.cells.items ≡ length l.fn.self.cells.items;
  capacity : vec_capacity l.self.cells ≡ vec_capacity l.fn.self.cells;
}
