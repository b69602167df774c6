use Rattle.std.proofs.Common.{[], length}
use Rattle.tbl_format.specs.RowsServed.{all_rows}
use Rattle.tbl_kept.specs.Rows.{Command}
use Rattle.tbl_kept.specs.RowsLaying.{element_at}
use Rattle.tbl_tall.proofs.CellsNext.{all-at}
use Rattle.tbl_tall.proofs.LinesBelow.{under-end, under-small}
use Rattle.tbl_tall.proofs.lines_over.cell_under.Goals as goal
use Rattle.tbl_tall.specs.TallRows.{ElementLies}

pub returns-clause-small : goal.returns-clause-small
returns-clause-small c =
    let rows = c.args.rows.now in
    let formats = all_rows c.args.format.now.format in
    under-small [] formats (length rows.columns) (element_at rows.elements c.args.row) (element_at rows.elements c.args.at) c.args.cell c.args.end
    c.cell_below.result (c.cell_below.ensures [])
    (all-at (ElementLies formats (length rows.columns)) rows.elements c.args.at (Command 0 0) c.requires.at c.requires.lie) c.requires.end c.requires.near

pub returns-clause-end : goal.returns-clause-end
returns-clause-end c =
    let rows = c.args.rows.now in
    let formats = all_rows c.args.format.now.format in
    under-end [] formats (element_at rows.elements c.args.row) (element_at rows.elements c.args.at) c.args.cell c.args.end
    c.cell_below.result (c.cell_below.ensures []) c.requires.end
