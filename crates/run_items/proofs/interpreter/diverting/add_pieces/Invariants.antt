use Rattle.std.proofs.Common.{length}
use Rattle.run_items.proofs.TextsAdded.{AddedSoFar}
use Rattle.run_items.proofs.interpreter.diverting.add_pieces.Given as goal

abbrev pub invariant-loop-rest : goal.invariant-loop-rest
invariant-loop-rest l = AddedSoFar l.fn.index l.fn.text l.rest l.initial.unread l.unread

abbrev pub decreases-loop-rest : goal.decreases-loop-rest
decreases-loop-rest l = length l.rest
