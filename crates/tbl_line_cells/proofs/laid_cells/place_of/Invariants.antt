use Rattle.std.proofs.Common.{◌≡◌, ◌+◌, drop, Some}
use Rattle.tbl_line_cells.specs.LaidCells.{place_among}
use Rattle.tbl_line_cells.proofs.laid_cells.place_of.Given as goal

abbrev pub invariant-loop-at : goal.invariant-loop-at
invariant-loop-at l = record {
  place : place_among (Some l.text) l.cells ≡ l.at + place_among (Some l.text) (drop l.at l.cells);
}
