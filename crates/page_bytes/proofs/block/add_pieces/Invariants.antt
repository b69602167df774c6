use Rattle.std.proofs.Common.{◌-◌, ◌≤◌, length, vec_capacity}
use Rattle.page_bytes.specs.LineBytes.Fronts.{Moves}
use Rattle.page_bytes.proofs.block.add_pieces.Given as goal

abbrev pub invariant-loop-piece : goal.invariant-loop-piece
invariant-loop-piece l = record {
  capacity : vec_capacity l.initial.bytes ≤ vec_capacity l.bytes;
  few : length l.bytes.items ≤ 8192;
  moves : Moves l.initial.bytes.items l.bytes.items l.initial.to_come l.to_come;
}

abbrev pub decreases-loop-piece : goal.decreases-loop-piece
decreases-loop-piece l = 8192 - length l.bytes.items
