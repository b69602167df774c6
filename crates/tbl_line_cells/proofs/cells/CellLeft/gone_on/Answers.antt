use Rattle.tbl_line_cells.proofs.CellsKept.{gone-kept}
use Rattle.tbl_line_cells.proofs.cells.CellLeft.gone_on.Goals as goal

pub returns-clause-left : goal.returns-clause-left
returns-clause-left c = λ bytes l is. gone-kept bytes c.args.self l c.args.key is
