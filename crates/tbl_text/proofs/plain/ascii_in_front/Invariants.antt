use Rattle.std.proofs.Common.{◌≡◌, ◌≤◌, ◌-◌, length, take, sum_by}
use Rattle.roff_num.specs.Widths.{byte_width}
use Rattle.tbl_text.specs.Laws.{ArePlain}
use Rattle.tbl_text.proofs.plain.ascii_in_front.Given as goal

abbrev pub invariant-loop-count : goal.invariant-loop-count
invariant-loop-count l = record {
  within : l.count ≤ length l.bytes;
  plain : ArePlain (take l.count l.bytes);
  width : sum_by byte_width (take l.count l.bytes) ≡ l.count;
}

abbrev pub decreases-loop-count : goal.decreases-loop-count
decreases-loop-count l = length l.bytes - l.count
