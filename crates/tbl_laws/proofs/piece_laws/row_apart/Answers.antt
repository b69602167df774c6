use Rattle.tbl_laws.proofs.RowApart.{row-apart}
use Rattle.tbl_laws.proofs.piece_laws.row_apart.Goals as goal

pub returns : goal.returns
returns c = row-apart
