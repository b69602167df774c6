use Rattle.std.proofs.Common.{◌<◌, length, sym, subst, ◌∙◌, arith}
use Rattle.tbl_format.specs.RowsServed.{all_rows}
use Rattle.tbl_kept.specs.Rows.{KeptElement}
use Rattle.tbl_kept.specs.RowsLaying.{ElementWithin}
use Rattle.tbl_kept.proofs.KeptCells.{has-cells}
use Rattle.tbl_kept.proofs.RowPlaces.{kept-there, length-kept, row-there}
use Rattle.tbl_kept.proofs.rows.TableRows.cells_at.Goals as goal

pub row_cells-requires : goal.row_cells-requires
row_cells-requires c =
    let at = rw (← c.self.view_is) at c.requires.at in
    let row = row-there c.self.invariant at c.index.ensures c.in-Row.is in
    let kept = kept-there c.self.inside at c.index.ensures c.in-Row.is in
    rw c.as_slice-entries.ensures.value (record {
      order = row.order;
      within = row.within;
      serves = subst (λ (e : KeptElement). ElementWithin (all_rows c.args.format.now.format) e) kept (rw (← c.self.view_is) at c.requires.within);
    })

pub returns-in-Row-clause-row : goal.returns-in-Row-clause-row
returns-in-Row-clause-row c =
    let a = c.self.inside in
    let at = rw (← c.self.view_is) at c.requires.at in
    let more : c.args.at < length a.elements.items = omega (arith, at, length-kept a.entries.items a.elements.items) in
    rw (← c.self.view_is)
    (has-cells (all_rows c.args.format.now.format) a.entries.items a.elements.items c.args.at c.index.result.now c.in-Row.row _ _ more
    (sym c.index.ensures ∙ c.in-Row.is) c.row_cells.ensures.keys (rw c.as_slice-entries.ensures.value at c.row_cells.ensures.entries))
