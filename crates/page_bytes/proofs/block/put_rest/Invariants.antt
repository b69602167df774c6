use Rattle.std.proofs.Common.{◌≡◌, ◌≤◌, ◌++◌, ℕ, List, length, vec_capacity}
use Rattle.page_bytes.specs.Sinks.{Sunk, HoldsBack}
use Rattle.page_bytes.proofs.block.put_rest.Given as goal

-- a beginning of the bytes was written but its end, which is held back, and the rest is to come
pub record Begun (all to_come held : List ℕ) (old new : Sunk) : Type 0 where
  pub front : List ℕ
  pub whole : front ++ to_come ≡ all
  pub so_far : HoldsBack old new front held

abbrev pub invariant-loop-byte : goal.invariant-loop-byte
invariant-loop-byte g l = record {
  capacity : vec_capacity l.initial.bytes ≤ vec_capacity l.bytes;
  few : length l.bytes.items ≤ 8192;
  begun : Begun (l.initial.bytes.items ++ l.fn.rest) l.to_come l.bytes.items (g.O.ByteSink.sunk l.initial.out) (g.O.ByteSink.sunk l.out);
}

abbrev pub decreases-loop-byte : goal.decreases-loop-byte
decreases-loop-byte g l = length l.to_come
