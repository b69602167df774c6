use Rattle.std.proofs.Common.{◌≡◌, ◌++◌, length, take, drop}
use Rattle.tbl_layout.specs.Columns.{with_widths}
use Rattle.tbl_layout.proofs.columns.set_needed.Given as goal

abbrev pub invariant-loop-at : goal.invariant-loop-at
invariant-loop-at l = record {
  done : take l.at l.columns ++ with_widths (drop l.at l.asked) (drop l.at l.columns) ≡ with_widths l.asked l.fn.columns;
  same : length l.columns ≡ length l.fn.columns;
}
