use Rattle.roff_store.proofs.Sharing.{Passing}
use Rattle.roff_store.proofs.chunks.Chunks.pass.Given as goal

abbrev pub invariant-loop-count : goal.invariant-loop-count
invariant-loop-count l = Passing l.fn.self l.fn.strand l.fn.count l.self l.strand l.count

abbrev pub decreases-loop-count : goal.decreases-loop-count
decreases-loop-count l = l.count
