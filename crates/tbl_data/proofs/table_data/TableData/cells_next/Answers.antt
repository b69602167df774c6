use Rattle.std.proofs.Common.{List, length, ap, ◌∙◌}
use Rattle.tbl_format.specs.Cells.{cell_count}
use Rattle.tbl_format.specs.declared.format.FormatKey.{FormatKey}
use Rattle.tbl_data.proofs.table_data.TableData.cells_next.Goals as goal

pub returns : goal.returns
returns c =
    let d = c.args.self.now in
    c.cell_count.ensures
    ∙ ap (cell_count c.row_of_all.result.now) c.columns.ensures.value
    ∙ ap (λ (ks : List FormatKey). cell_count ks (length d.format.format.asked)) c.row_of_all.ensures.keys
