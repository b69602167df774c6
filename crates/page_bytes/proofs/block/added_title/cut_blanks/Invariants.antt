use Rattle.std.proofs.Common.{◌≡◌, ◌≤◌, length, vec_capacity}
use Rattle.page_model.specs.Columns.{trimmed}
use Rattle.page_bytes.proofs.block.added_title.cut_blanks.Given as goal

abbrev pub invariant-loop-last : goal.invariant-loop-last
invariant-loop-last l = record {
  capacity : vec_capacity l.initial.bytes ≤ vec_capacity l.bytes;
  few : length l.bytes.items ≤ 8192;
  cut : trimmed l.bytes.items ≡ trimmed l.initial.bytes.items;
}

abbrev pub decreases-loop-last : goal.decreases-loop-last
decreases-loop-last l = length l.bytes.items
