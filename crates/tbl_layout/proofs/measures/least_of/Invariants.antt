use Rattle.std.proofs.Common.{◌≡◌, ◌+◌, ◌-◌, ◌^◌, ◌≤◌, min, drop}
use Rattle.tbl_layout.specs.Spans.{least_of}
use Rattle.tbl_layout.proofs.measures.least_of.Given as goal

abbrev pub invariant-loop-column : goal.invariant-loop-column
invariant-loop-column l = record {
  counted : min (l.width + least_of (drop l.column-index l.asked)) (2 ^ 64 - 1) ≡ min (least_of l.asked) (2 ^ 64 - 1);
  most : l.width ≤ 2 ^ 64 - 1;
}
