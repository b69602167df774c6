use Rattle.std.proofs.Common.{sym}
use Rattle.tbl_format.proofs.CellsRead.{columns_of-got}
use Rattle.tbl_format.proofs.cells.columns_of.Goals as goal

pub returns-in-Some-clause-value : goal.returns-in-Some-clause-value
returns-in-Some-clause-value c = columns_of-got c.args.keys.now c.in-Some.key.now (sym c.in-Some.ensures.value)
