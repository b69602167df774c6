use Rattle.std.proofs.Common.{◌-◌}
use Rattle.roff_store.proofs.Sharing.{Releasing}
use Rattle.roff_store.proofs.chunks.Chunks.release.Given as goal

abbrev pub invariant-loop : goal.invariant-loop
invariant-loop l = Releasing l.fn.self l.fn.strand l.self l.chunk (l.fn.strand.chunks - l.counter)
