use Rattle.std.proofs.Common.{Bool, if◌then◌else◌, sym, ap, ◌∙◌}
use Rattle.tbl_layout.specs.LayoutLaws.{last_end}
use Rattle.tbl_line_cells.proofs.ColumnsAt.{last-is}
use Rattle.tbl_line_cells.proofs.rule_places.right_end.Goals as goal

pub returns-else-is_ruled-clause-value : goal.returns-else-is_ruled-clause-value
returns-else-is_ruled-clause-value c =
    c.end_of.ensures ∙ last-is 0 c.args.columns.now _ c.requires.some
    ∙ ap (λ (b : Bool). if b then c.args.right else last_end 0 c.args.columns.now) (sym c.if-is_ruled.false)
