use Rattle.std.proofs.Common.{true, false, sym, ◌∙◌}
use Rattle.tbl_kept.proofs.CellHeights.{cell_below-own}
use Rattle.tbl_kept.proofs.rows.cell_heights.cell_below.Goals as goal

pub returns-then-goes_on : goal.returns-then-goes_on
returns-then-goes_on c = λ bytes bars.
    cell_below-own bytes bars c.args.keys.now c.args.below.keys.now c.args.below.entries.now c.args.cell c.in-Some.other c.entry_at-own.result true
    (sym c.in-Some.is ∙ c.same_cell.ensures) (c.entry_at-own.ensures bars) (sym c.goes_on.ensures ∙ c.if-goes_on.true)

pub returns-else-goes_on : goal.returns-else-goes_on
returns-else-goes_on c = λ bytes bars.
    cell_below-own bytes bars c.args.keys.now c.args.below.keys.now c.args.below.entries.now c.args.cell c.in-Some.other c.entry_at-own.result false
    (sym c.in-Some.is ∙ c.same_cell.ensures) (c.entry_at-own.ensures bars) (sym c.goes_on.ensures ∙ c.if-goes_on.false)
