use Rattle.std.proofs.Common.{length}
use Rattle.roff_store.proofs.ExtendingOn.{Extending}
use Rattle.roff_store.proofs.chunks.Chunks.extend.Given as goal

abbrev pub invariant-loop-behind : goal.invariant-loop-behind
invariant-loop-behind l = Extending l.fn.self l.fn.strand l.fn.text l.self l.strand l.behind

abbrev pub decreases-loop-behind : goal.decreases-loop-behind
decreases-loop-behind l = length l.behind
