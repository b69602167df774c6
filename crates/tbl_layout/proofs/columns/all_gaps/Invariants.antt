use Rattle.std.proofs.Common.{◌≡◌, ◌+◌, ◌-◌, ◌^◌, ◌≤◌, min, drop}
use Rattle.tbl_layout.specs.Columns.{gaps, gaps_from, total}
use Rattle.tbl_layout.proofs.columns.all_gaps.Given as goal

abbrev pub invariant-loop-at : goal.invariant-loop-at
invariant-loop-at l = record {
  counted : min (l.all + total (gaps_from l.bars l.gap (drop l.at l.asked))) (2 ^ 64 - 1) ≡ min (total (gaps l.bars l.asked)) (2 ^ 64 - 1);
  most : l.all ≤ 2 ^ 64 - 1;
}
