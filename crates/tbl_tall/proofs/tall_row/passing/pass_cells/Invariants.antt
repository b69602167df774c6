use Rattle.std.proofs.Common.{◌≡◌, ℕ, ◌≤◌, List, length}
use Rattle.std.specs.List.{AllByRecursion}
use Rattle.tbl_lines.specs.CellsLeft.{Left}
use Rattle.tbl_tall.proofs.tall_row.passing.pass_cells.Given as goal
use Rattle.tbl_line_cells.specs.KeptCells.{AllLeft}
use Rattle.tbl_tall.specs.RowsPassed.{passed_at}
use Rattle.tbl_line_cells.specs.declared.cells.CellLeft.{CellLeft}

abbrev pub invariant-loop-at : goal.invariant-loop-at
invariant-loop-at l = record {
  left : (lefts : List Left) → AllLeft l.bytes l.fn.cells lefts → AllLeft l.bytes l.cells (passed_at l.is_rule l.at lefts);
  come : (n : ℕ) → AllByRecursion (λ (c : CellLeft). c.rows ≤ n) l.fn.cells → AllByRecursion (λ (c : CellLeft). c.rows ≤ n) l.cells;
  many : length l.cells ≡ length l.fn.cells;
  room : l.escapes.room ≡ l.fn.escapes.room;
}
