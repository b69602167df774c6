use Rattle.std.proofs.Common.{sym, ◌∙◌}
use Rattle.tbl_data.specs.TableData.{table_by}
use Rattle.tbl_data.specs.declared.phase.Phase.TheVariants.{InData}
use Rattle.tbl_data.proofs.LineSteps.{closed-open, row-fits, some-open}
use Rattle.tbl_data.proofs.table_data.TableData.close_block.Goals as goal

pub returns-then-is_open-clause-table : goal.returns-then-is_open-clause-table
returns-then-is_open-clause-table c options bytes fits =
    let d = c.args.self.now in
    (c.end_row.ensures.ends bytes (row-fits bytes d c.requires.small fits)).table options
    ∙ closed-open bytes d (table_by InData options bytes d) fits (some-open d.open (sym c.is_open.ensures ∙ c.if-is_open.true))
