use Rattle.tbl_laws.proofs.RuleApart.{rule-apart}
use Rattle.tbl_laws.proofs.piece_laws.rule_apart.Goals as goal

pub returns : goal.returns
returns c = rule-apart
