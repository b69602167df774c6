use Rattle.tbl_line_cells.proofs.FirstLines.{joined-shown}
use Rattle.tbl_tall.proofs.laws.joined_shown.Goals as goal

pub returns : goal.returns
returns c = joined-shown
