use Rattle.tbl_format.specs.RowsServed.{all_rows}
use Rattle.tbl_kept.specs.RowsLaying.{element_at}
use Rattle.tbl_kept.proofs.KeptCells.{below-has}
use Rattle.tbl_kept.proofs.rows.TableRows.cell_below.Goals as goal

pub returns-in-Some-cells_at : goal.returns-in-Some-cells_at
returns-in-Some-cells_at c = λ bytes.
    let elements = c.args.self.now.elements in
    let first = c.in-Some.cells in
    let second = c.in-Some-cells_at.other in
    below-has (all_rows c.args.format.now.format) bytes c.args.cell (element_at elements c.args.at) (element_at elements c.args.below)
    first.keys.now second.keys.now first.entries.now second.entries.now c.cell_below.result c.in-Some.ensures.row c.in-Some-cells_at.ensures.row
    (c.cell_below.ensures bytes)
