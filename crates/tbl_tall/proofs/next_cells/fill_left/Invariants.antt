use Rattle.std.proofs.Common.{◌≡◌, ℕ, suc, ◌≤◌, ◌<◌, ◌++◌, List, drop, length, vec_capacity}
use Rattle.std.specs.List.{AllByRecursion}
use Rattle.tbl_format.specs.RowsServed.{all_rows, row_at}
use Rattle.tbl_format.specs.declared.format.FormatKey.{FormatKey}
use Rattle.tbl_kept.specs.Rows.{ElementLaid}
use Rattle.tbl_kept.specs.RowsLaying.{element_at}
use Rattle.tbl_lines.specs.CellsLeft.{Left, all_keys}
use Rattle.tbl_tall.proofs.next_cells.fill_left.Given as goal
use Rattle.tbl_line_cells.specs.KeptCells.{AllLeft}
use Rattle.tbl_tall.specs.RowsNext.{HasKeys, RowAbove, cell_kept, cells_by}
use Rattle.tbl_line_cells.specs.declared.cells.CellLeft.{CellLeft}

abbrev pub invariant-loop-cell : goal.invariant-loop-cell
invariant-loop-cell l = record {
  left : (bytes : List ℕ) (above : List FormatKey) (lefts : List Left)
      → ElementLaid bytes (all_rows l.format.format) (length l.rows.columns) (element_at l.rows.elements l.row.at)
      → RowAbove (all_rows l.format.format) l.rows.elements l.row.above above → AllLeft bytes l.cells_above lefts → (more : List CellLeft)
      → AllLeft bytes more (cells_by (cell_kept bytes (all_rows l.format.format) l.is_inside above lefts (element_at l.rows.elements l.row.at)
      (drop (suc l.row.at) l.rows.elements)) l.cell (drop l.cell (all_keys (length l.rows.columns) (row_at (all_rows l.format.format) l.row.keys))))
      → AllLeft bytes (l.cells.items ++ more) (cells_by (cell_kept bytes (all_rows l.format.format) l.is_inside above lefts
      (element_at l.rows.elements l.row.at) (drop (suc l.row.at) l.rows.elements)) 0
      (all_keys (length l.rows.columns) (row_at (all_rows l.format.format) l.row.keys)));
  keys : (more : List CellLeft) → HasKeys more (drop l.cell (all_keys (length l.rows.columns) (row_at (all_rows l.format.format) l.row.keys)))
      → HasKeys (l.cells.items ++ more) (all_keys (length l.rows.columns) (row_at (all_rows l.format.format) l.row.keys));
  come : (n : ℕ) → AllByRecursion (λ (c : CellLeft). c.rows < n) l.cells_above → AllByRecursion (λ (c : CellLeft). c.rows ≤ n) l.cells.items;
  many : length l.cells.items ≡ l.cell;
  capacity : vec_capacity l.cells ≡ vec_capacity l.fn.cells;
}
