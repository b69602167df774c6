use Rattle.std.proofs.Common.{drop, refl, sym, arith}
use Rattle.tbl_format.specs.FormatRows.{rows_kept}
use Rattle.roff_num.specs.Lists.{last_end}
use Rattle.tbl_format.proofs.FormatBlocks.{length-rows}
use Rattle.tbl_format.proofs.FormatReading.{has_some-drop, has_some-take}
use Rattle.tbl_format.proofs.RowsWithin.{has_some-begun}
use Rattle.tbl_format.proofs.format_rows.FormatRows.count.Goals as goal

pub returns-clause-value : goal.returns-clause-value
returns-clause-value c =
    let old = c.self.inside in
    let row = rw (← c.self.view_is) at c.row_columns.ensures.value in
    let all = rows_kept old.keys.items old.ends.items old.row_bars.items in
    let count = length-rows old.keys.items old.ends.items old.row_bars.items in
    rw (← c.self.view_is) (record {
      place = refl;
      is_further = has_some-take all old.first (omega (arith, c.self.invariant.first, count));
      has_row = sym (has_some-drop all old.first c.len.result (omega (arith, c.len.ensures, old.ends.ok.0, count)));
      begun = has_some-begun (drop (last_end 0 old.ends.items) old.keys.items) c.row_columns.result c.self.invariant.row.cells row;
      row = sym row;
      bars = refl;
      columns = omega (arith, c.len-2.ensures, old.asked.ok.0);
    })
