use Rattle.roff_store.proofs.Appending.{Appending}
use Rattle.roff_store.proofs.chunks.Chunks.append.Given as goal

abbrev pub invariant-loop-from : goal.invariant-loop-from
invariant-loop-from l = Appending l.fn.self l.fn.to l.fn.from l.self l.to l.from

abbrev pub decreases-loop-from : goal.decreases-loop-from
decreases-loop-from l = l.from.rest
