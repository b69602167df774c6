use Rattle.std.proofs.Common.{arith}
use Rattle.tbl_format.proofs.FormatBlocks.{count-rows}
use Rattle.tbl_format.proofs.format_rows.FormatRows.rows.Goals as goal

pub returns : goal.returns
returns c =
    let old = c.self.inside in
    rw (← c.self.view_is) (omega (arith, c.len.ensures, old.ends.ok.0, count-rows old.keys.items old.ends.items old.row_bars.items old.first))
