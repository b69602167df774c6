use Rattle.std.proofs.Common.{length}
use Rattle.run_state.proofs.GivenPages.{ListedSoFar}
use Rattle.run_state.proofs.composer.Composer.list_pages.Given as goal

abbrev pub invariant-loop-range : goal.invariant-loop-range
invariant-loop-range l = ListedSoFar l.initial.self l.self l.fn.ranges l.rest

abbrev pub decreases-loop-range : goal.decreases-loop-range
decreases-loop-range l = length l.rest
