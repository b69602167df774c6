use Rattle.tbl_laws.proofs.InTurn.{row-in-turn}
use Rattle.tbl_laws.proofs.piece_laws.row_in_turn.Goals as goal

pub returns : goal.returns
returns c = row-in-turn
