use Rattle.tbl_laws.proofs.CellsStand.{row-stands}
use Rattle.tbl_laws.proofs.piece_laws.row_stands.Goals as goal

pub returns : goal.returns
returns c = row-stands
