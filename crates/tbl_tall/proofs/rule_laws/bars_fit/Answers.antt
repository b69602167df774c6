use Rattle.tbl_tall.proofs.RuleFits.{rule-fits}
use Rattle.tbl_tall.proofs.rule_laws.bars_fit.Goals as goal

pub returns : goal.returns
returns c = rule-fits
