use Rattle.tbl_laws.proofs.InTurn.{rule-in-turn}
use Rattle.tbl_laws.proofs.piece_laws.rule_in_turn.Goals as goal

pub returns : goal.returns
returns c = rule-in-turn
