use Rattle.std.proofs.Common.{◌≡◌, ◌≤◌, ◌*◌, [], replicate, vec_capacity}
use Rattle.page_bytes.specs.Sinks.{Writes}
use Rattle.page_bytes.proofs.block.Block.put_newlines.Given as goal

abbrev pub invariant-loop : goal.invariant-loop
invariant-loop g l = record {
  room : 8192 ≤ vec_capacity l.bytes;
  empty : l.bytes.items ≡ [];
  written : Writes (g.O.ByteSink.sunk l.initial.out) (g.O.ByteSink.sunk l.out) (replicate (l.counter * 8192) 10);
}
