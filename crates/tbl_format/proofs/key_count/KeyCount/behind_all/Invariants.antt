use Rattle.std.proofs.Common.{◌+◌, ◌≤◌, take}
use Rattle.tbl_format.specs.Format.{Format, format_read}
use Rattle.tbl_format.specs.KeyCounts.{Counts, IsCount}
use Rattle.tbl_format.proofs.key_count.KeyCount.behind_all.Given as goal

abbrev pub invariant-loop-at : goal.invariant-loop-at
invariant-loop-at l = record {
  counts : (f : Format) → Counts f l.fn.self → Counts (format_read f (take l.at l.bytes)) l.count;
  is : IsCount l.at l.count;
  few : l.count.columns ≤ l.fn.self.columns + l.at;
}
