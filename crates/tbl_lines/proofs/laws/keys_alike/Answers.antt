use Rattle.tbl_lines.proofs.RulesFree.{keys-alike}
use Rattle.tbl_lines.proofs.laws.keys_alike.Goals as goal

pub returns : goal.returns
returns c = keys-alike
