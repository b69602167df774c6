use Rattle.std.proofs.Common.{◌≡◌, ℕ, ◌-◌, ◌++◌, List, length, vec_capacity}
use Rattle.tbl_layout.specs.Heights.{lefts_from}
use Rattle.tbl_kept.specs.KeptHeights.{cells_of}
use Rattle.tbl_kept.specs.Rows.{AreLaid}
use Rattle.tbl_kept.proofs.rows.cell_heights.fill_lefts.Given as goal

abbrev pub invariant-loop-cell : goal.invariant-loop-cell
invariant-loop-cell l = record {
  items : (bytes : List ℕ) (bars : ℕ) → AreLaid bytes (record { keys = l.cells.keys.now; bars = bars }) 0 l.cells.entries.now
      → l.left.items ++ lefts_from l.above l.left_above l.between (record { keys = l.cells.keys.now; bars = bars })
      (cells_of bytes bars l.cells.keys.now l.cells.entries.now) l.cell (l.count - l.cell)
      ≡ lefts_from l.above l.left_above l.between (record { keys = l.cells.keys.now; bars = bars })
      (cells_of bytes bars l.cells.keys.now l.cells.entries.now) 0 l.count;
  many : length l.left.items ≡ l.cell;
  capacity : vec_capacity l.left ≡ vec_capacity l.fn.left;
}
