use Rattle.std.proofs.Common.{◌≤◌, List, length, refl, sym, subst, ◌∙◌, arith}
use Rattle.std.proofs.lemmas.List.{with_items_is}
use Rattle.std.specs.List.{AllByRecursion}
use Rattle.tbl_lines.specs.CellsLeft.{bars_at_end}
use Rattle.tbl_lines.specs.LinesLeft.{OfRow}
use Rattle.tbl_tall.proofs.KeysCover.{cover-some, fewer-room, stands-cover}
use Rattle.tbl_tall.proofs.RowsGoOn.{line-passed, row-ended}
use Rattle.tbl_tall.proofs.tall_row.TallRow.pass_line.Goals as goal
use Rattle.tbl_line_cells.specs.declared.cells.CellLeft.{CellLeft}

pub keep_bars-requires : goal.keep_bars-requires
keep_bars-requires c =
    let next = rw (← c.self.view_is) at c.requires.next in
    let cover = stands-cover next.stands in
    rw c.as_slice.ensures.value (record {
      cells = cover.order;
      some = cover-some _ _ cover next.stands.some;
      small = omega (arith, cover.all, next.stands.room, c.self.invariant.few);
      room = fewer-room c.self.invariant.band (omega (arith, cover.all, next.stands.room));
    })

pub pass_cells-requires : goal.pass_cells-requires
pass_cells-requires c = record {
  kept =
      let next = rw (← c.self.view_is) at c.requires.next in
      rw c.as_mut_slice.ensures.value (record { lefts = next.cells; left = next.stands.left });
}

pub invariant_of-self : goal.invariant_of-self
invariant_of-self c =
    let a = c.self.inside in
    let written = with_items_is a.cells c.pass_cells.new.cells (c.pass_cells.auto.cells ∙ c.as_mut_slice.ensures.len) in
    record {
      few = c.self.invariant.few;
      cells = c.self.invariant.cells;
      above = c.self.invariant.above;
      band = c.keep_bars.ensures.room a.room c.self.invariant.band;
      line = c.self.invariant.line;
      come = rw written (c.pass_cells.ensures.come a.come
          (subst (λ (cs : List CellLeft). AllByRecursion (λ (k : CellLeft). k.rows ≤ a.come) cs) (sym c.as_mut_slice.ensures.value) c.self.invariant.come));
      come_above = c.self.invariant.come_above;
    }

pub returns-clause-stands : goal.returns-clause-stands
returns-clause-stands c = λ s format cells more stands.
    let here = rw (← c.self.view_is) at stands in
    let left = (rw c.as_mut_slice.ensures.value at c.pass_cells.ensures.left) cells here.left in
    let written = with_items_is c.self.inside.cells c.pass_cells.new.cells (c.pass_cells.auto.cells ∙ c.as_mut_slice.ensures.len) in
    rw written (line-passed here left c.one_less-self-inside.ensures refl refl refl)

pub returns-clause-ended : goal.returns-clause-ended
returns-clause-ended c = λ s format cells boxed places stands.
    let a = c.self.inside in
    let here = rw (← c.self.view_is) at stands in
    let row = OfRow cells (bars_at_end (length s.columns) format) in
    let left = (rw c.as_mut_slice.ensures.value at c.pass_cells.ensures.left) cells here.left in
    let written = with_items_is a.cells c.pass_cells.new.cells (c.pass_cells.auto.cells ∙ c.as_mut_slice.ensures.len) in
    let kept = rw (c.as_slice.ensures.value, (stands-cover here).all, here.last, ← boxed) at c.keep_bars.ensures.above in
    rw written (row-ended here places left (kept here.height c.args.bytes.now cells here.left here.first))
