use Rattle.std.proofs.Common.{◌≡◌, ◌+◌, ◌-◌, ◌++◌, length, replicate, vec_capacity}
use Rattle.tbl_tall.proofs.shown_bars.push_nothing.Given as goal

abbrev pub invariant-loop-at : goal.invariant-loop-at
invariant-loop-at l = record {
  items : l.bars.items ++ replicate (l.count - l.at) 0 ≡ l.fn.bars.items ++ replicate l.count 0;
  many : length l.bars.items ≡ length l.fn.bars.items + l.at;
  capacity : vec_capacity l.bars ≡ vec_capacity l.fn.bars;
}
