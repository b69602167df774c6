use Rattle.tbl_kept.proofs.RowsAlone.{plain-laid}
use Rattle.tbl_kept.proofs.laws.plain_rows.Goals as goal

pub returns : goal.returns
returns c = plain-laid
