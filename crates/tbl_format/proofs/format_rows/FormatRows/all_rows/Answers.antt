use Rattle.std.proofs.Common.{arith}
use Rattle.tbl_format.proofs.FormatBlocks.{count-all}
use Rattle.tbl_format.proofs.format_rows.FormatRows.all_rows.Goals as goal

pub returns : goal.returns
returns c =
    let old = c.self.inside in
    rw (← c.self.view_is)
    (omega (arith, c.len.ensures, old.ends.ok.0, count-all old.keys.items old.ends.items old.row_bars.items old.first))
