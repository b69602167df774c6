use Rattle.tbl_lines.proofs.RulesFree.{nothing-alike}
use Rattle.tbl_lines.proofs.laws.nothing_alike.Goals as goal

pub returns : goal.returns
returns c = nothing-alike
