use Rattle.std.proofs.Common.{◌≡◌, ℕ, ◌≤◌, ◌++◌, List, drop, length, vec_capacity}
use Rattle.std.specs.List.{AllByRecursion}
use Rattle.tbl_format.specs.declared.format.FormatKey.{FormatKey}
use Rattle.tbl_lines.specs.CellsLeft.{keys_behind, nothing_left}
use Rattle.tbl_tall.proofs.next_cells.fill_nothing.Given as goal
use Rattle.tbl_line_cells.specs.KeptCells.{AllLeft}
use Rattle.tbl_tall.specs.RowsNext.{cells_by}
use Rattle.tbl_line_cells.specs.declared.cells.CellLeft.{CellLeft}

abbrev pub invariant-loop-cell : goal.invariant-loop-cell
invariant-loop-cell l = record {
  left : (bytes : List ℕ) (more : List CellLeft)
      → AllLeft bytes more (cells_by (λ (n : ℕ) (k : FormatKey). nothing_left k) l.cell (drop l.cell (keys_behind l.columns 0 0)))
      → AllLeft bytes (l.cells.items ++ more) (cells_by (λ (n : ℕ) (k : FormatKey). nothing_left k) 0 (keys_behind l.columns 0 0));
  come : (n : ℕ) → AllByRecursion (λ (c : CellLeft). c.rows ≤ n) l.cells.items;
  many : length l.cells.items ≡ l.cell;
  capacity : vec_capacity l.cells ≡ vec_capacity l.fn.cells;
}
