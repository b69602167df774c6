use Rattle.std.proofs.Common.{◌≡◌, ℕ, suc, ◌+◌, ◌-◌, ◌∷◌, drop, get_or, sym, ap, ◌∙◌, arith}
use Rattle.tbl_format.specs.Cells.{end_of, start_of}
use Rattle.tbl_format.proofs.CellColumns.{start_of-ones}
use Rattle.tbl_kept.specs.Rows.{no_column}
use Rattle.tbl_layout.specs.declared.columns.Column.{Column}
use Rattle.tbl_lines.specs.RowsLent.{lent_columns}
use Rattle.tbl_lines.proofs.CellsLent.{cell-lies, cells_of-at, from-first-to-last, narrow-cells, narrow-of, one-alone}
use Rattle.tbl_lines.proofs.row_lent.RowLent.cell.Goals as goal

pub offset_bounds-self-start_of : goal.offset_bounds-self-start_of
offset_bounds-self-start_of c =
    let row = c.args.self.now in
    let lies = cell-lies row.keys.now row.columns.now c.args.cell c.requires.lies.cells c.requires.within in
    omega (arith, lies.order, lies.within, c.requires.lies.few, c.start_of.ensures)

pub bounds-self-start_of : goal.bounds-self-start_of
bounds-self-start_of c =
    let row = c.args.self.now in
    let lies = cell-lies row.keys.now row.columns.now c.args.cell c.requires.lies.cells c.requires.within in
    omega (arith, lies.order, lies.within, c.start_of.ensures)

pub returns-then-not-self-clause-at : goal.returns-then-not-self-clause-at
returns-then-not-self-clause-at c =
    let row = c.args.self.now in
    let columns = row.columns.now in
    let rest = drop (suc c.args.cell) (lent_columns row) in
    let lies = cell-lies row.keys.now columns c.args.cell c.requires.lies.cells c.requires.within in
    let from = start_of row.keys.now c.args.cell in
    let end = end_of row.keys.now c.args.cell in
    let last = get_or columns (end - 1) no_column in
    let up_to : ℕ → Column = λ i. record (get_or columns i no_column) { width = last.start + last.width - (get_or columns i no_column).start } in
    cells_of-at row.keys.now columns c.args.cell c.requires.lies.cells c.requires.within
    ∙ ap (λ (x : Column). x ∷ rest)
    (from-first-to-last columns from end no_column lies.order lies.within
    ∙ ap up_to (sym c.start_of.ensures)
    ∙ ap (λ (w : ℕ). record (get_or columns c.start_of.result no_column) { width = w }) (sym c.width_of.ensures))

pub returns-then-not-self-clause-narrow : goal.returns-then-not-self-clause-narrow
returns-then-not-self-clause-narrow c =
    let row = c.args.self.now in
    let first = get_or row.columns.now c.start_of.result no_column in
    narrow-of c.args.cell (lent_columns row) (record first { width = c.width_of.result }) (drop (suc c.args.cell) (lent_columns row))
    (narrow-cells row.keys.now row.columns.now c.requires.lies.narrow) (returns-then-not-self-clause-at c)

pub returns-else-not-self-clause-at : goal.returns-else-not-self-clause-at
returns-else-not-self-clause-at c =
    let row = c.args.self.now in
    let columns = row.columns.now in
    let keys = row.keys.now in
    let cell = c.args.cell in
    let rest = drop (suc cell) (lent_columns row) in
    let lies = cell-lies keys columns cell c.requires.lies.cells c.requires.within in
    let ones = c.requires.lies.plain c.if-not-self.false in
    let from_is = start_of-ones keys cell c.requires.lies.cells.cells ones in
    let end_is = start_of-ones keys (suc cell) c.requires.lies.cells.cells ones in
    let one : end_of keys cell - start_of keys cell ≡ 1 = omega (arith, from_is, end_is) in
    cells_of-at keys columns cell c.requires.lies.cells c.requires.within
    ∙ ap (λ (x : Column). x ∷ rest) (one-alone columns (start_of keys cell) (end_of keys cell) no_column (omega (arith, lies.order, lies.within)) one)
    ∙ ap (λ (n : ℕ). get_or columns n no_column ∷ rest) (sym c.start_of.ensures)
