use Rattle.std.proofs.Common.{refl}
use Rattle.tbl_line_cells.proofs.LineCut.{nothing-cut}
use Rattle.tbl_line_cells.proofs.line_cells.LineCells.clear.Goals as goal

pub returns-clause-cut : goal.returns-clause-cut
returns-clause-cut c = λ columns. nothing-cut columns _ c.clear-2.ensures.items refl
