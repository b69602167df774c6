use Rattle.tbl_laws.proofs.CellsStand.{rule-stands}
use Rattle.tbl_laws.proofs.piece_laws.rule_stands.Goals as goal

pub returns : goal.returns
returns c = rule-stands
