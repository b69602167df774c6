use Rattle.tbl_kept.specs.Rows.{no_column}
use Rattle.tbl_kept.proofs.RowsNext.{held_at-counted, held_at-free, held_at-many, held_at-one}
use Rattle.std.proofs.Common.{◌-◌, arith}
use Rattle.tbl_kept.proofs.held_columns.hold_entry.Goals as goal

pub returns-then-cell : goal.returns-then-cell
returns-then-cell c =
    let cell = c.args.cell in
    held_at-free cell.from (cell.end - cell.from) c.args.columns.now cell.has_no_width c.args.entry c.if-cell.true

pub returns-then-cell-eq1 : goal.returns-then-cell-eq1
returns-then-cell-eq1 c =
    let cell = c.args.cell in
    held_at-counted cell.from (cell.end - cell.from) c.args.columns.now _ cell.has_no_width c.args.entry c.if-cell.false
    (held_at-one cell.from (cell.end - cell.from) c.args.columns.now no_column c.with-column.result c.args.entry c.if-cell-eq1.true
    (omega (arith, c.requires.order, c.requires.within)) c.with-column.ensures)

pub returns-else-cell-eq1 : goal.returns-else-cell-eq1
returns-else-cell-eq1 c =
    let cell = c.args.cell in
    held_at-counted cell.from (cell.end - cell.from) c.args.columns.now _ cell.has_no_width c.args.entry c.if-cell.false
    (held_at-many cell.from (cell.end - cell.from) c.args.columns.now c.args.entry c.if-cell-eq1.false)
