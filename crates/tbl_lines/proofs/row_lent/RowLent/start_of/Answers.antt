use Rattle.std.proofs.Common.{sym, arith}
use Rattle.tbl_format.proofs.CellColumns.{start_of-ones}
use Rattle.tbl_lines.proofs.CellsLent.{cell-lies}
use Rattle.tbl_lines.proofs.row_lent.RowLent.start_of.Goals as goal

pub start_of-requires : goal.start_of-requires
start_of-requires c =
    let row = c.args.self.now in
    omega (arith, (cell-lies row.keys.now row.columns.now c.args.cell c.requires.lies.cells c.requires.within).few, c.requires.lies.few)

pub returns-then-self : goal.returns-then-self
returns-then-self c =
    let lies = c.requires.lies in
    sym (start_of-ones c.args.self.now.keys.now c.args.cell lies.cells.cells (lies.plain c.if-self.true))
