use Rattle.std.proofs.Common.{◌≡◌, ℕ, ◌≤◌, List, length}
use Rattle.std.specs.List.{AllByRecursion}
use Rattle.tbl_lines.specs.CellsLeft.{Left}
use Rattle.tbl_tall.proofs.tall_row.counting.mark_cut.Given as goal
use Rattle.tbl_line_cells.specs.KeptCells.{AllLeft}
use Rattle.tbl_tall.specs.CutsMarked.{marked_at}
use Rattle.tbl_line_cells.specs.declared.cells.CellLeft.{CellLeft}

abbrev pub invariant-loop-at : goal.invariant-loop-at
invariant-loop-at l = record {
  left : (bytes : List ℕ) (lefts : List Left) → AllLeft bytes l.fn.cells lefts → AllLeft bytes l.cells (marked_at l.flags l.at lefts);
  come : (n : ℕ) → AllByRecursion (λ (c : CellLeft). c.rows ≤ n) l.fn.cells → AllByRecursion (λ (c : CellLeft). c.rows ≤ n) l.cells;
  many : length l.cells ≡ length l.fn.cells;
}
