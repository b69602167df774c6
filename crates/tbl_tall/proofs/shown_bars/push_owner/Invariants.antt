use Rattle.std.proofs.Common.{◌≡◌, ◌+◌, ◌-◌, ◌++◌, length, replicate, vec_capacity}
use Rattle.tbl_tall.proofs.shown_bars.push_owner.Given as goal

abbrev pub invariant-loop-at : goal.invariant-loop-at
invariant-loop-at l = record {
  items : l.through.items ++ replicate (l.count - l.at) l.owner ≡ l.fn.through.items ++ replicate l.count l.owner;
  many : length l.through.items ≡ length l.fn.through.items + l.at;
  capacity : vec_capacity l.through ≡ vec_capacity l.fn.through;
}
