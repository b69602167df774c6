use Rattle.roff_num.proofs.LeftFold.{expression_of-terms}
use Rattle.roff_num.proofs.laws.left_fold.Goals as goal

pub returns : goal.returns
returns c = expression_of-terms
