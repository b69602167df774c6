use Rattle.std.proofs.Common.{◌≡◌, ◌++◌, length, take, drop}
use Rattle.tbl_layout.specs.Columns.{with_bars}
use Rattle.tbl_layout.proofs.columns.set_bars.Given as goal

abbrev pub invariant-loop-at : goal.invariant-loop-at
invariant-loop-at l = record {
  done : take l.at l.columns ++ with_bars (drop l.at l.asked) (drop l.at l.columns) ≡ with_bars l.asked l.fn.columns;
  same : length l.columns ≡ length l.fn.columns;
}
