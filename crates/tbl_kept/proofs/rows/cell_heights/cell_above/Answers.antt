use Rattle.std.proofs.Common.{true, false, sym, ◌∙◌}
use Rattle.tbl_kept.proofs.CellHeights.{cell_above-own}
use Rattle.tbl_kept.proofs.rows.cell_heights.cell_above.Goals as goal

pub returns-then-goes_on : goal.returns-then-goes_on
returns-then-goes_on c = λ bytes bars.
    c.same_cell.ensures
    ∙ cell_above-own bytes bars c.args.above.now c.args.cells.keys.now c.args.cells.entries.now c.args.cell c.entry_at-own.result true (c.entry_at-own.ensures bars)
    (sym c.goes_on.ensures ∙ c.if-goes_on.true)

pub returns-else-goes_on : goal.returns-else-goes_on
returns-else-goes_on c = λ bytes bars.
    cell_above-own bytes bars c.args.above.now c.args.cells.keys.now c.args.cells.entries.now c.args.cell c.entry_at-own.result false (c.entry_at-own.ensures bars)
    (sym c.goes_on.ensures ∙ c.if-goes_on.false)
