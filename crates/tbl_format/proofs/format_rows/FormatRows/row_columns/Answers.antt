use Rattle.std.proofs.Common.{length, ap, arith}
use Rattle.tbl_format.proofs.Parts.{EndWithin-last}
use Rattle.tbl_format.proofs.format_rows.FormatRows.row_columns.Goals as goal

pub offset_bounds-as_slice-last_end : goal.offset_bounds-as_slice-last_end
offset_bounds-as_slice-last_end c =
    let old = c.self.inside in
    let end = rw c.as_slice-2.ensures.value at c.last_end.ensures in
    omega (arith, end, EndWithin-last (length old.keys.items) 0 old.ends.items c.self.invariant.ends, ap length c.as_slice.ensures.value, c.as_slice.type_inv.1)

pub slice_bounds-columns_of-count : goal.slice_bounds-columns_of-count
slice_bounds-columns_of-count c =
    let old = c.self.inside in
    let end = rw c.as_slice-2.ensures.value at c.last_end.ensures in
    omega (arith, end, EndWithin-last (length old.keys.items) 0 old.ends.items c.self.invariant.ends, ap length c.as_slice.ensures.value)

pub slice_bounds-columns_of-start : goal.slice_bounds-columns_of-start
slice_bounds-columns_of-start c = slice_bounds-columns_of-count c
