use Rattle.std.proofs.Common.{◌≡◌, ◌≤◌, ◌++◌, length, vec_capacity}
use Rattle.page_model.specs.Titles.{part_text}
use Rattle.page_bytes.proofs.block.added_title.add_part_text.Given as goal

abbrev pub invariant-loop-byte : goal.invariant-loop-byte
invariant-loop-byte l = record {
  capacity : vec_capacity l.initial.bytes ≤ vec_capacity l.bytes;
  few : length l.bytes.items ≤ 8192;
  whole : l.bytes.items ++ part_text l.number l.rest ≡ l.initial.bytes.items ++ part_text l.number l.part;
}

abbrev pub decreases-loop-byte : goal.decreases-loop-byte
decreases-loop-byte l = length l.rest
