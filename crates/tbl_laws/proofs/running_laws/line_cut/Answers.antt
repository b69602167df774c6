use Rattle.tbl_laws.proofs.LongestFronts.{line-cut}
use Rattle.tbl_laws.proofs.running_laws.line_cut.Goals as goal

pub returns : goal.returns
returns c = line-cut
