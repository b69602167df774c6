use Rattle.tbl_format.specs.RowsServed.{all_rows}
use Rattle.tbl_kept.specs.RowsLaying.{element_at}
use Rattle.tbl_kept.proofs.KeptCells.{above-has}
use Rattle.tbl_kept.proofs.rows.TableRows.cell_above.Goals as goal

pub returns-in-Some-cells_at : goal.returns-in-Some-cells_at
returns-in-Some-cells_at c = λ bytes.
    let elements = c.args.self.now.elements in
    let first = c.in-Some.other in
    let second = c.in-Some-cells_at.cells in
    above-has (all_rows c.args.format.now.format) bytes c.args.cell (element_at elements c.args.above) (element_at elements c.args.at)
    first.keys.now second.keys.now first.entries.now second.entries.now c.cell_above.result c.in-Some.ensures.row c.in-Some-cells_at.ensures.row
    (c.cell_above.ensures bytes)
