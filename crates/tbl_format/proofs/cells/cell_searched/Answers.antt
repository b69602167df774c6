use Rattle.std.proofs.Common.{sym, arith}
use Rattle.tbl_format.proofs.CellsBehind.{cell_behind-first, cell_behind-none, start_of-many}
use Rattle.tbl_format.proofs.cells.cell_searched.Goals as goal

pub overflow_add-result : goal.overflow_add-result
overflow_add-result c =
    omega (arith, c.start_of-from.ensures, start_of-many c.args.keys.now c.cells_up_to-cell.result c.requires, c.if-column-from.false, c.ranges.column.fits)

pub returns-then-column-from : goal.returns-then-column-from
returns-then-column-from c =
    let found = c.cells_up_to-cell in
    sym (cell_behind-none c.args.keys.now found.result c.args.column c.requires found.ensures.few found.ensures.before
    (omega (arith, c.start_of-from.ensures, c.if-column-from.true)))

pub returns-else-column-from : goal.returns-else-column-from
returns-else-column-from c =
    let found = c.cells_up_to-cell in
    sym (cell_behind-first c.args.keys.now found.result c.args.column c.start_of-from.result c.requires c.start_of-from.ensures c.if-column-from.false
    found.ensures.few (found.ensures.behind found.result (omega arith)))
