use Rattle.tbl_lines.proofs.RulesFree.{whole-alike}
use Rattle.tbl_lines.proofs.laws.whole_alike.Goals as goal

pub returns : goal.returns
returns c = whole-alike
