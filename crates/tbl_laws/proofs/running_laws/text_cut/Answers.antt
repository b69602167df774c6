use Rattle.tbl_laws.proofs.LongestFronts.{text-cut}
use Rattle.tbl_laws.proofs.running_laws.text_cut.Goals as goal

pub returns : goal.returns
returns c = text-cut
