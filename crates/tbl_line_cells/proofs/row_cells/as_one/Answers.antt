use Rattle.std.proofs.Common.{ℕ, get_or, sym, ap, ◌∙◌}
use Rattle.tbl_kept.specs.Rows.{no_column}
use Rattle.tbl_layout.specs.declared.columns.Column.{Column}
use Rattle.tbl_lines.proofs.CellsLent.{from-first-to-last}
use Rattle.tbl_line_cells.proofs.row_cells.as_one.Goals as goal

pub returns-clause-value : goal.returns-clause-value
returns-clause-value c =
    let columns = c.args.columns.now in
    let first = get_or columns c.args.start no_column in
    let up_to : ℕ → Column = λ width. record first { width = width } in
    sym (from-first-to-last columns c.args.start c.args.end no_column c.requires.order c.requires.within ∙ ap up_to (sym c.saturating_sub.ensures))
