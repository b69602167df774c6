use Rattle.std.proofs.Common.{ℕ, ◌+◌, Option, Some, ap, ◌∙◌}
use Rattle.tbl_layout.specs.Columns.{place_in}
use Rattle.tbl_line_cells.proofs.LaidShown.{is-written, text-begins}
use Rattle.tbl_line_cells.proofs.laid_cells.text_at.Goals as goal
use Rattle.tbl_line_cells.specs.declared.laid_cells.TextAt.{TextAt}

pub returns-in_default : goal.returns-in_default
returns-in_default c = λ bytes l end is stays.
    let column = c.args.column in
    let text : ℕ → Option TextAt = λ place. Some (record { at = column.start + place; rows = c.args.cell.rows }) in
    let other = c.in_default in
    ap text (c.place_of.ensures ∙ ap (place_in column c.args.cell.key.key) c.stands.ensures)
    ∙ text-begins bytes c.args.cell column end is.laid l is
    (is-written c.args.cell.entry.kind other.not-Ruled other.not-Short other.not-Repeated) stays
