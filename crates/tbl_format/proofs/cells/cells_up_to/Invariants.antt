use Rattle.std.proofs.Common.{◌-◌, ℕ, ◌<◌, ◌≤◌, length}
use Rattle.tbl_format.specs.Cells.{start_of}
use Rattle.tbl_format.proofs.cells.cells_up_to.Given as goal

abbrev pub invariant-loop-low : goal.invariant-loop-low
invariant-loop-low l = record {
  order : l.low ≤ l.high;
  within : l.high ≤ length l.keys;
  before : (cell : ℕ) → cell < l.low → start_of l.keys cell < l.column;
  behind : (cell : ℕ) → l.high ≤ cell → cell < length l.keys → l.column ≤ start_of l.keys cell;
}

abbrev pub decreases-loop-low : goal.decreases-loop-low
decreases-loop-low l = l.high - l.low
