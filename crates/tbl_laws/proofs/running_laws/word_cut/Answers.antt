use Rattle.tbl_laws.proofs.LongestFronts.{word-cut}
use Rattle.tbl_laws.proofs.running_laws.word_cut.Goals as goal

pub returns : goal.returns
returns c = word-cut
