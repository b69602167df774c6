use Rattle.std.proofs.Common.{List, ap, ◌∙◌}
use Rattle.tbl_format.specs.RowsServed.{all_rows, row_at}
use Rattle.tbl_format.specs.declared.format.FormatKey.{FormatKey}
use Rattle.tbl_layout.specs.Entries.{key_at}
use Rattle.tbl_data.proofs.table_data.TableData.key_next.Goals as goal

pub returns : goal.returns
returns c =
    let d = c.args.self.now in
    let row = row_at (all_rows d.format.format) d.keys in
    c.key_at.ensures row.bars
    ∙ ap (λ (ks : List FormatKey). key_at (record { keys = ks; bars = row.bars }) c.row_len.result) c.row_of_all.ensures.keys
    ∙ ap (key_at row) c.row_len.ensures
