use Rattle.std.proofs.Common.{sym, ◌∙◌, arith}
use Rattle.tbl_lines.proofs.CellsLent.{length-cells_of}
use Rattle.tbl_lines.proofs.row_lent.RowLent.cells.Goals as goal

pub returns-then-self : goal.returns-then-self
returns-then-self c =
    let row = c.args.self.now in
    let lies = c.requires in
    omega (arith, length-cells_of row.keys.now row.columns.now lies.cells, lies.cells.short, lies.plain c.if-self.true)

pub returns-else-self : goal.returns-else-self
returns-else-self c =
    let row = c.args.self.now in
    c.cell_count.ensures ∙ sym (length-cells_of row.keys.now row.columns.now c.requires.cells)
