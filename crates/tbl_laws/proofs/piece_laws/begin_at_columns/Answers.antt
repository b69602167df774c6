use Rattle.tbl_laws.proofs.PiecesBehind.{begin-at-columns}
use Rattle.tbl_laws.proofs.piece_laws.begin_at_columns.Goals as goal

pub returns : goal.returns
returns c = begin-at-columns
