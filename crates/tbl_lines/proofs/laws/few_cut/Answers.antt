use Rattle.tbl_lines.proofs.CutEntries.{cut-few}
use Rattle.tbl_lines.proofs.laws.few_cut.Goals as goal

pub returns : goal.returns
returns c = cut-few
