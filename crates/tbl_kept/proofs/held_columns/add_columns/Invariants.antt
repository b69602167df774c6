use Rattle.std.proofs.Common.{◌≡◌, ◌-◌, ◌++◌, length, replicate, vec_capacity}
use Rattle.tbl_kept.specs.Rows.{no_column}
use Rattle.tbl_kept.proofs.held_columns.add_columns.Given as goal

abbrev pub decreases-loop-columns : goal.decreases-loop-columns
decreases-loop-columns l = l.count - length l.columns.items

abbrev pub invariant-loop-columns : goal.invariant-loop-columns
invariant-loop-columns l = record {
  done : l.columns.items ++ replicate (l.count - length l.columns.items) no_column ≡ l.fn.columns.items ++ replicate (l.count - length l.fn.columns.items) no_column;
  capacity : vec_capacity l.columns ≡ vec_capacity l.fn.columns;
}
