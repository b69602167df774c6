use Rattle.std.proofs.Common.{◌≡◌, ◌+◌, ◌-◌, ◌++◌, false, length, replicate, vec_capacity}
use Rattle.tbl_line_cells.proofs.running.fill_false.Given as goal

abbrev pub invariant-loop-at : goal.invariant-loop-at
invariant-loop-at l = record {
  items : l.flags.items ++ replicate (l.count - l.at) false ≡ replicate l.count false;
  many : length l.flags.items ≡ l.at;
  capacity : vec_capacity l.flags ≡ vec_capacity l.fn.flags;
}
