use Rattle.tbl_lines.proofs.PlainKeys.{row-alone}
use Rattle.tbl_lines.proofs.laws.row_alone.Goals as goal

pub returns : goal.returns
returns c = row-alone
