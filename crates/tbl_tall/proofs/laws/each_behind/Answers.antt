use Rattle.tbl_line_cells.proofs.FirstLines.{each-behind}
use Rattle.tbl_tall.proofs.laws.each_behind.Goals as goal

pub returns : goal.returns
returns c = each-behind
