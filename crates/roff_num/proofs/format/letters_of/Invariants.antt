use Rattle.roff_num.proofs.Letters.{IsWordSoFar}
use Rattle.roff_num.proofs.format.letters_of.Given as goal

abbrev pub invariant-loop-left : goal.invariant-loop-left
invariant-loop-left l = IsWordSoFar l.size l.left l.start l.letters

abbrev pub decreases-loop-left : goal.decreases-loop-left
decreases-loop-left l = l.left
