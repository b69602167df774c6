use Rattle.tbl_laws.proofs.CellsFresh.{cells-begin}
use Rattle.tbl_laws.proofs.piece_laws.cells_begin.Goals as goal

pub returns : goal.returns
returns c = cells-begin
