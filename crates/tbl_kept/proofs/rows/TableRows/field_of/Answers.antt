use Rattle.tbl_format.specs.RowsServed.{all_rows}
use Rattle.tbl_kept.specs.RowsLaying.{element_at}
use Rattle.tbl_kept.proofs.KeptCells.{field-has}
use Rattle.tbl_kept.proofs.rows.TableRows.field_of.Goals as goal

pub returns-in-Some : goal.returns-in-Some
returns-in-Some c =
    let cells = c.in-Some.cells in
    field-has (all_rows c.args.format.now.format) c.args.cell (element_at c.args.self.now.elements c.args.at) cells.keys.now cells.entries.now
    c.entry_at.result c.in-Some.ensures.row c.entry_at.ensures
