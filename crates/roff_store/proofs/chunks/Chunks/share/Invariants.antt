use Rattle.std.proofs.Common.{◌-◌}
use Rattle.roff_store.proofs.Sharing.{Sharing}
use Rattle.roff_store.proofs.chunks.Chunks.share.Given as goal

abbrev pub invariant-loop : goal.invariant-loop
invariant-loop l = Sharing l.fn.self l.fn.strand l.self l.chunk (l.fn.strand.chunks - l.counter)
