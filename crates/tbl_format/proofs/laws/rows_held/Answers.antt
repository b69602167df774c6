use Rattle.tbl_format.proofs.RowsHeld.{read-held}
use Rattle.tbl_format.proofs.laws.rows_held.Goals as goal

pub returns : goal.returns
returns c = λ f read. (read-held f read).rows
