use Rattle.std.proofs.Common.{arith}
use Rattle.tbl_kept.proofs.RowPlaces.{drop-there, row-there}
use Rattle.tbl_kept.proofs.rows.TableRows.element.Goals as goal

pub slice_bounds-result-count : goal.slice_bounds-result-count
slice_bounds-result-count c = (row-there c.self.invariant (rw (← c.self.view_is) at c.requires) c.index.ensures c.in-Row.is).order

pub slice_bounds-result-start : goal.slice_bounds-result-start
slice_bounds-result-start c = slice_bounds-result-count c

pub slice_bounds-result-end : goal.slice_bounds-result-end
slice_bounds-result-end c =
    let row = row-there c.self.invariant (rw (← c.self.view_is) at c.requires) c.index.ensures c.in-Row.is in
    omega (arith, row.within, c.as_slice.ensures.len, c.self.inside.entries.ok.0)

pub returns-in-Row : goal.returns-in-Row
returns-in-Row c =
    let at = rw (← c.self.view_is) at c.requires in
    rw (← c.self.view_is, c.as_slice.ensures.value) (drop-there c.self.inside at c.index.ensures c.in-Row.is)

pub returns-in-Command : goal.returns-in-Command
returns-in-Command c =
    let at = rw (← c.self.view_is) at c.requires in
    rw (← c.self.view_is) (drop-there c.self.inside at c.index.ensures c.in-Command.is)

pub returns-in-Rule : goal.returns-in-Rule
returns-in-Rule c =
    let at = rw (← c.self.view_is) at c.requires in
    rw (← c.self.view_is) (drop-there c.self.inside at c.index.ensures c.in-Rule.is)
