use Rattle.std.proofs.Common.{◌+◌, ◌-◌, ℕ, get_or, ap, ◌∙◌, arith}
use Rattle.tbl_kept.specs.Rows.{no_column}
use Rattle.tbl_lines.proofs.CellsLent.{cell-lies}
use Rattle.tbl_lines.proofs.row_lent.RowLent.width_of.Goals as goal

pub end_of-requires : goal.end_of-requires
end_of-requires c =
    let row = c.args.self.now in
    omega (arith, (cell-lies row.keys.now row.columns.now c.args.cell c.requires.lies.cells c.requires.within).few, c.requires.lies.few)

pub overflow_sub-last : goal.overflow_sub-last
overflow_sub-last c =
    let row = c.args.self.now in
    let lies = cell-lies row.keys.now row.columns.now c.args.cell c.requires.lies.cells c.requires.within in
    omega (arith, lies.order, c.end_of.ensures.value)

pub offset_bounds-self-end_of : goal.offset_bounds-self-end_of
offset_bounds-self-end_of c =
    let row = c.args.self.now in
    let lies = cell-lies row.keys.now row.columns.now c.args.cell c.requires.lies.cells c.requires.within in
    omega (arith, lies.within, c.requires.lies.few, c.end_of.ensures.value)

pub bounds-self-end_of : goal.bounds-self-end_of
bounds-self-end_of c =
    let row = c.args.self.now in
    let lies = cell-lies row.keys.now row.columns.now c.args.cell c.requires.lies.cells c.requires.within in
    omega (arith, lies.order, lies.within, c.end_of.ensures.value)

pub returns : goal.returns
returns c =
    let columns = c.args.self.now.columns.now in
    c.saturating_sub.ensures
    ∙ ap (λ (n : ℕ). (get_or columns (n - 1) no_column).start + (get_or columns (n - 1) no_column).width - c.args.start) c.end_of.ensures.value
