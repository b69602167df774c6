use Rattle.tbl_laws.proofs.CellsStay.{cells-stay}
use Rattle.tbl_laws.proofs.piece_laws.cells_stay.Goals as goal

pub returns : goal.returns
returns c = cells-stay
