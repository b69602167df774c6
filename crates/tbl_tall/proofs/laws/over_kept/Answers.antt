use Rattle.tbl_tall.proofs.LinesOver.{below-kept}
use Rattle.tbl_tall.proofs.laws.over_kept.Goals as goal

pub returns : goal.returns
returns c = below-kept
