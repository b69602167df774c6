use Rattle.std.proofs.Common.{◌≡◌, ◌+◌, ◌≤◌, ℕ, suc, true, List, drop, length, sym, subst, arith}
use Rattle.std.specs.List.{AllByRecursion}
use Rattle.tbl_format.specs.RowsServed.{all_rows, row_at}
use Rattle.tbl_kept.specs.Rows.{elements_of}
use Rattle.tbl_lines.specs.CellsLeft.{cells_next}
use Rattle.tbl_lines.specs.PictureLines.{boxed_from}
use Rattle.tbl_tall.proofs.CellsNext.{all-under}
use Rattle.tbl_tall.proofs.tall_row.TallRow.hand_on.Goals as goal
use Rattle.tbl_tall.specs.LinesOver.{heights_kept}
use Rattle.tbl_tall.specs.RowsNext.{Here, OneAbove}
use Rattle.tbl_tall.specs.TallRows.{Comes}
use Rattle.tbl_line_cells.specs.declared.cells.CellLeft.{CellLeft}

pub invariant_of-self : goal.invariant_of-self
invariant_of-self c =
    let a = c.self.inside in
    record {
      few = c.self.invariant.few;
      cells = omega (arith, c.self.invariant.above, rw c.swap.ensures.x_after at c.clear.ensures.capacity);
      above = rw c.swap.ensures.y_after c.self.invariant.cells;
      band = c.self.invariant.band;
      line = c.self.invariant.line;
      come = subst (λ (cs : List CellLeft). AllByRecursion (λ (k : CellLeft). k.rows ≤ a.come + 1) cs) (sym c.clear.ensures.items) tt;
      come_above = rw c.swap.ensures.y_after (all-under a.cells.items a.come c.self.invariant.come);
    }

pub returns-clause-comes : goal.returns-clause-comes
returns-clause-comes c = λ bytes s cells above keys rules height entries columns boxed places laid there ended.
    let formats = all_rows c.args.format.now.format in
    let elements = c.args.rows.now.elements in
    let boxing = c.args.boxing in
    let here = rw (← c.self.view_is) at ended in
    let n = length s.columns in
    let own = (row_at formats keys).keys in
    let next : c.args.element + 1 ≡ suc c.args.element = omega arith in
    subst (λ (at : ℕ). Comes bytes formats s c.come_to_row.new.self (heights_kept (drop at elements))
    (cells_next n own cells (heights_kept (drop at elements)) (boxed_from boxing true (elements_of bytes formats (drop at elements)))) above
    (boxed_from boxing true (elements_of bytes formats (drop at elements)))) next
    (c.come_to_row.ensures.comes bytes s (record { keys = own; cells = cells; line = above })
    (boxed_from boxing true (elements_of bytes formats (drop (c.args.element + 1) elements)))
    (record {
      columns = columns;
      boxed = boxed;
      places = places;
      laid = laid;
      left = rw c.swap.ensures.y_after here.left;
      shown = here.shown;
      fit = here.fit;
    }) (OneAbove there) Here)
