use Rattle.tbl_tall.proofs.LinesOver.{over-boxed}
use Rattle.tbl_tall.proofs.laws.over_boxed.Goals as goal

pub returns : goal.returns
returns c = over-boxed
