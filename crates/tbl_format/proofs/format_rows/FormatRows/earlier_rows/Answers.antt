use Rattle.std.proofs.Common.{sym, arith, length-take-le}
use Rattle.tbl_format.specs.FormatRows.{rows_kept}
use Rattle.tbl_format.proofs.FormatBlocks.{length-rows}
use Rattle.tbl_format.proofs.format_rows.FormatRows.earlier_rows.Goals as goal

pub returns : goal.returns
returns c =
    let old = c.self.inside in
    let rows = rows_kept old.keys.items old.ends.items old.row_bars.items in
    rw (← c.self.view_is)
    (sym (length-take-le old.first rows (omega (arith, c.self.invariant.first, length-rows old.keys.items old.ends.items old.row_bars.items))))
