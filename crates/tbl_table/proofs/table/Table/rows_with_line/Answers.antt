use Rattle.std.proofs.Common.{ℕ, Bool, sym, ap, ◌∙◌, arith, if◌then◌else◌}
use Rattle.std.proofs.lemmas.List.{length-map}
use Rattle.tbl_format.specs.RowsServed.{all_rows}
use Rattle.tbl_kept.specs.Rows.{element_of}
use Rattle.tbl_table.specs.Table.{rows, rows_behind}
use Rattle.tbl_table.proofs.table.Table.rows_with_line.Goals as goal

pub returns-then-ends_row : goal.returns-then-ends_row
unfolding rows_behind rows
returns-then-ends_row c =
    let a = c.self.inside in
    let one : Bool → ℕ = λ e. if e then 1 else 0 in
    let ends = rw (← c.self.view_is) at c.ends_row.ensures in
    rw (← c.self.view_is)
    (omega (arith, c.count.ensures, length-map a.kept.rows.elements (element_of a.text.settled (all_rows a.kept.format.format)), ap one (sym ends ∙ c.if-ends_row.true)))

pub returns-else-ends_row : goal.returns-else-ends_row
unfolding rows_behind rows
returns-else-ends_row c =
    let a = c.self.inside in
    let one : Bool → ℕ = λ e. if e then 1 else 0 in
    let ends = rw (← c.self.view_is) at c.ends_row.ensures in
    rw (← c.self.view_is)
    (omega (arith, c.count-else-ends_row.ensures, length-map a.kept.rows.elements (element_of a.text.settled (all_rows a.kept.format.format)), ap one (sym ends ∙ c.if-ends_row.false)))
