use Rattle.tbl_lines.proofs.PlainKeys.{cells-alone}
use Rattle.tbl_lines.proofs.laws.cells_alone.Goals as goal

pub returns : goal.returns
returns c = cells-alone
