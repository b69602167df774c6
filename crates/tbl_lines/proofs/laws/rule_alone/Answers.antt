use Rattle.tbl_lines.proofs.RulesAlone.{rule-alone}
use Rattle.tbl_lines.proofs.laws.rule_alone.Goals as goal

pub returns : goal.returns
returns c = rule-alone
