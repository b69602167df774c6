use Rattle.roff_num.proofs.Letters.{IsWordSoFar-end, IsWordSoFar-step}
use Rattle.roff_num.proofs.format.letters_of.Goals as goal

pub loop-left-preserved : goal.loop-left-preserved
loop-left-preserved c = IsWordSoFar-step c.args.size c.loop-left.left c.loop-left.start c.loop-left.letters c.loop-left.invariant c.loop-left-test.true

pub returns-clause-letters : goal.returns-clause-letters
returns-clause-letters c = IsWordSoFar-end c.args.size c.loop-left.left c.loop-left.start c.loop-left.letters c.loop-left.invariant c.loop-left-test.false
