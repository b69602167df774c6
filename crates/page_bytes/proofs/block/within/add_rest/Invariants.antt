use Rattle.std.proofs.Common.{◌≡◌, ◌≤◌, ◌++◌, length, vec_capacity}
use Rattle.page_bytes.proofs.block.within.add_rest.Given as goal

abbrev pub invariant-loop-byte : goal.invariant-loop-byte
invariant-loop-byte l = record {
  capacity : vec_capacity l.initial.bytes ≤ vec_capacity l.bytes;
  few : length l.bytes.items ≤ 8192;
  whole : l.bytes.items ++ l.to_come ≡ l.initial.bytes.items ++ l.fn.rest;
}

abbrev pub decreases-loop-byte : goal.decreases-loop-byte
decreases-loop-byte l = length l.to_come
