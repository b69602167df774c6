use Rattle.std.proofs.Common.{sym, ◌∙◌}
use Rattle.tbl_format.proofs.CellsBehind.{cell_behind-found}
use Rattle.tbl_format.proofs.cells.cell_behind.Goals as goal

pub returns-then-start_of-column : goal.returns-then-start_of-column
returns-then-start_of-column c =
    sym (cell_behind-found c.args.keys.now c.args.column c.args.column c.requires (sym c.start_of.ensures ∙ c.if-start_of-column.true))
