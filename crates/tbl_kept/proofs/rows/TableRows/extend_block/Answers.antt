use Rattle.std.proofs.Common.{◌-◌, sym, arith, length-drop}
use Rattle.tbl_kept.proofs.RowSteps.{block-kept}
use Rattle.tbl_kept.proofs.rows.TableRows.extend_block.Goals as goal

-- src/rows.rt:144:5
pub returns-then-row_len-gt0 : goal.returns-then-row_len-gt0
returns-then-row_len-gt0 c =
    let a = c.self.inside in
    let some = rw (← c.self.view_is) at c.row_len.ensures in
    rw (← c.self.view_is, c.with_end.ensures)
    (block-kept a.entries.items a.elements.items a.row_start a.columns.items a.entry_room a.element_room a.column_room c.self.invariant.start c.self.invariant.rows
    c.args.to (c.len-last.result - 1) c.index.result.now
    (omega (arith, some, c.if-row_len-gt0.true, c.len-last.ensures, a.entries.ok.0, length-drop a.row_start a.entries.items))
    (omega (arith, some, c.if-row_len-gt0.true, c.len-last.ensures, a.entries.ok.0, length-drop a.row_start a.entries.items))
    (sym c.index.ensures))
