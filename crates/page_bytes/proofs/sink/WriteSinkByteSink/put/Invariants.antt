use Rattle.std.proofs.Common.{◌≡◌, ℕ, ◌++◌, List, length}
use Rattle.page_bytes.specs.Sinks.{Writes}
use Rattle.page_bytes.proofs.sink.WriteSinkByteSink.put.Given as goal

abbrev pub invariant-loop-rest : goal.invariant-loop-rest
invariant-loop-rest g l = record {
  front : List ℕ;
  split : l.piece ≡ front ++ l.rest;
  writes : Writes (g.W.BlockWrite.sunk l.initial.self-inside.writer) (g.W.BlockWrite.sunk l.self-inside.writer) front;
}

abbrev pub decreases-loop-rest : goal.decreases-loop-rest
decreases-loop-rest g l = length l.rest
