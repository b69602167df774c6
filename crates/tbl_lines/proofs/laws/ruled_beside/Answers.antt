use Rattle.tbl_lines.proofs.RulesBeside.{ruled-beside}
use Rattle.tbl_lines.proofs.laws.ruled_beside.Goals as goal

pub returns : goal.returns
returns c = ruled-beside
