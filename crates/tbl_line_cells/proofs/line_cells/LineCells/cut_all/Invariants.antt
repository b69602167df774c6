use Rattle.std.proofs.Common.{◌≡◌, ◌+◌, ◌≤◌, ℕ, List, [], length, take, vec_capacity, if◌then◌else◌}
use Rattle.tbl_layout.specs.declared.bars.Bars.{Bars}
use Rattle.tbl_lines.specs.LinesLeft.{Shown}
use Rattle.tbl_lines.specs.PictureLines.{Cell}
use Rattle.tbl_line_cells.specs.LinesDrawn.{SoFar, kept_line}
use Rattle.tbl_line_cells.proofs.LineCut.{CutFrom}
use Rattle.tbl_line_cells.proofs.line_cells.LineCells.cut_all.Given as goal

abbrev pub invariant-loop-at : goal.invariant-loop-at
invariant-loop-at l = record {
  line : l.self ≡ record l.fn.self { cells = l.self.cells; cut = l.self.cut; first_cut = l.self.first_cut };
  within : l.at ≤ length l.fn.self.cells.items;
  first : take l.at l.self.cells.items ≡ take l.at l.fn.self.cells.items;
  count : length l.self.cells.items ≡ length l.fn.self.cells.items;
  capacity : vec_capacity l.self.cells ≡ vec_capacity l.fn.self.cells;
  cut_capacity : vec_capacity l.self.cut ≡ vec_capacity l.fn.self.cut;
  cut_count : length l.self.cut.items ≡ length l.columns;
  most : l.self.first_cut + l.at ≤ length l.fn.self.cells.items;
  escapes : l.escapes.room ≡ l.fn.escapes.room;
  so_far : (bars : Bars) (done : List Shown) (fronts : List Cell) → SoFar l.bytes (kept_line l.fn.self) done fronts
      → CutFrom l.bytes (record { bars = bars; width = l.width; columns = l.columns }) (if l.has_fronts then fronts else []) done l.at l.next
      (kept_line l.self);
}

abbrev pub decreases-loop-at : goal.decreases-loop-at
decreases-loop-at l = l.at
