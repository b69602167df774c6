use Rattle.std.proofs.Common.{◌+◌, ◌<◌, length, ap, arith}
use Rattle.std.proofs.lemmas.List.{get_or_read}
use Rattle.tbl_format.proofs.FormatBlocks.{count-rows, row-read}
use Rattle.tbl_format.proofs.Parts.{IsPart, IsPart-read, PartRead}
use Rattle.tbl_format.proofs.format_rows.FormatRows.row.Goals as goal
use Rattle.tbl_format.proofs.format_rows.FormatRows.row.Goals.{After-index}

read : (c : After-index) → PartRead c.self.inside.ends.items (c.self.inside.first + c.args.at) c.part_start.result c.index.result.now
read c =
    let old = c.self.inside in
    let inside = rw (← c.self.view_is) at c.requires in
    let some : old.first + c.args.at < length old.ends.items = omega (arith, inside, count-rows old.keys.items old.ends.items old.row_bars.items old.first) in
    record {
      some = some;
      start_is = rw c.as_slice-2.ensures.value at c.part_start.ensures;
      end_is = get_or_read old.ends.items (old.first + c.args.at) c.index.result.now some c.index.ensures 0;
    }

part : (c : After-index) → IsPart (length c.self.inside.keys.items) c.part_start.result c.index.result.now
part c = IsPart-read c.self.invariant.ends (read c)

pub overflow_add-row : goal.overflow_add-row
overflow_add-row c =
    let old = c.self.inside in
    let inside = rw (← c.self.view_is) at c.requires in
    omega (arith, inside, count-rows old.keys.items old.ends.items old.row_bars.items old.first, old.ends.ok.0)

pub part_start-requires : goal.part_start-requires
part_start-requires c =
    let old = c.self.inside in
    let inside = rw (← c.self.view_is) at c.requires in
    omega (arith, inside, count-rows old.keys.items old.ends.items old.row_bars.items old.first, ap length c.as_slice-2.ensures.value)

pub index-requires : goal.index-requires
index-requires c =
    let old = c.self.inside in
    let inside = rw (← c.self.view_is) at c.requires in
    omega (arith, inside, count-rows old.keys.items old.ends.items old.row_bars.items old.first, old.ends.ok.0)

pub offset_bounds-as_slice-part_start : goal.offset_bounds-as_slice-part_start
offset_bounds-as_slice-part_start c =
    let here = part (goal.at.offset_bounds-as_slice-part_start c).After-index in
    omega (arith, here.order, here.within, ap length c.as_slice.ensures.value, c.as_slice.type_inv.1)

pub slice_bounds-result-count : goal.slice_bounds-result-count
slice_bounds-result-count c = (part (goal.at.slice_bounds-result-count c).After-index).order

pub slice_bounds-result-start : goal.slice_bounds-result-start
slice_bounds-result-start c = slice_bounds-result-count c

pub slice_bounds-result-end : goal.slice_bounds-result-end
slice_bounds-result-end c = omega (arith, (part (goal.at.slice_bounds-result-end c).After-index).within, ap length c.as_slice.ensures.value)

pub returns : goal.returns
returns c =
    let old = c.self.inside in
    rw (← c.self.view_is, c.as_slice.ensures.value)
    (row-read old.keys.items old.ends.items old.row_bars.items old.first c.args.at (read (goal.at.returns c).After-index))
