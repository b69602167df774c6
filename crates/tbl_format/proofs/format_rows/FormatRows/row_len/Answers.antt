use Rattle.std.proofs.Common.{length, arith}
use Rattle.tbl_format.proofs.Parts.{EndWithin-last}
use Rattle.tbl_format.proofs.format_rows.FormatRows.row_len.Goals as goal

pub overflow_sub-result : goal.overflow_sub-result
overflow_sub-result c =
    let old = c.self.inside in
    let end = rw c.as_slice.ensures.value at c.last_end.ensures in
    omega (arith, end, EndWithin-last (length old.keys.items) 0 old.ends.items c.self.invariant.ends, c.len.ensures, old.keys.ok.0)
