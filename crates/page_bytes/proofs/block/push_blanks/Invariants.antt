use Rattle.std.proofs.Common.{◌≤◌, ◌-◌, ◌++◌, length, vec_capacity}
use Rattle.page_model.specs.Columns.{spaces}
use Rattle.page_bytes.specs.Sinks.{HoldsBack}
use Rattle.page_bytes.proofs.block.push_blanks.Given as goal

abbrev pub invariant-loop-left : goal.invariant-loop-left
invariant-loop-left g l = record {
  capacity : vec_capacity l.initial.bytes ≤ vec_capacity l.bytes;
  few : length l.bytes.items ≤ 8192;
  part : l.left ≤ l.count;
  held : HoldsBack (g.O.ByteSink.sunk l.initial.out) (g.O.ByteSink.sunk l.out) (l.initial.bytes.items ++ spaces (l.count - l.left)) l.bytes.items;
}

abbrev pub decreases-loop-left : goal.decreases-loop-left
decreases-loop-left g l = l.left
