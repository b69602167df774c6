use Rattle.std.proofs.Common.{ℕ, ◌-◌, [], ◌∷◌, sym, ap, ◌∙◌, Option}
use Rattle.tbl_layout.specs.Entries.{field_at, key_at}
use Rattle.tbl_layout.specs.Heights.{left_of_cell, lines_in}
use Rattle.tbl_kept.specs.KeptHeights.{cells_of}
use Rattle.tbl_kept.proofs.CellHeights.{lines-own}
use Rattle.tbl_kept.proofs.rows.cell_heights.left_of.Goals as goal

pub returns-in-Some : goal.returns-in-Some
returns-in-Some c = λ bytes bars laid.
    let left = c.args.left_above.now in
    let own = lines_in (key_at (record { keys = c.args.cells.keys.now; bars = bars }) c.args.cell)
    (field_at (cells_of bytes bars c.args.cells.keys.now c.args.cells.entries.now) c.args.cell) in
    ap (λ (n : ℕ). n ∷ []) (c.fewer.ensures ∙ ap (λ (n : ℕ). n - c.args.between) c.left_at.ensures)
    ∙ ap (λ (o : Option ℕ). left_of_cell o left c.args.between own ∷ []) (sym c.in-Some.is ∙ c.cell_above.ensures bytes bars)

pub returns-in-None : goal.returns-in-None
returns-in-None c = λ bytes bars laid.
    let left = c.args.left_above.now in
    let own = lines_in (key_at (record { keys = c.args.cells.keys.now; bars = bars }) c.args.cell)
    (field_at (cells_of bytes bars c.args.cells.keys.now c.args.cells.entries.now) c.args.cell) in
    ap (λ (n : ℕ). n ∷ []) (lines-own bytes bars c.args.cells.keys.now c.args.cells.entries.now c.args.cell c.lines_of.result c.entry_at-own.result (c.entry_at-own.ensures bars) laid
    (c.lines_of.ensures bytes))
    ∙ ap (λ (o : Option ℕ). left_of_cell o left c.args.between own ∷ []) (sym c.in-None.is ∙ c.cell_above.ensures bytes bars)
