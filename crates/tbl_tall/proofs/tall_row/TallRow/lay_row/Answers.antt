use Rattle.std.proofs.Common.{ℕ, length, subst, arith}
use Rattle.tbl_lines.specs.LinesLeft.{row_cut, row_line}
use Rattle.tbl_lines.specs.PictureLines.{Sheet}
use Rattle.tbl_tall.proofs.KeysCover.{cover-some, fewer-line, stands-cover}
use Rattle.tbl_tall.proofs.tall_row.TallRow.lay_row.Goals as goal
use Rattle.tbl_line_cells.specs.LinesDrawn.{CutOn, Draws, kept_line}

pub lay_row-requires : goal.lay_row-requires
lay_row-requires c =
    let can = rw (← c.self.view_is) at c.requires.next in
    let cover = stands-cover can.stands in
    rw c.as_slice.ensures.value (record {
      some = cover-some _ _ cover can.stands.some;
      within = record { cells = cover.order; short = omega (arith, cover.all) };
      narrow = can.narrow;
      few = omega (arith, can.stands.room, c.self.invariant.few);
      room = fewer-line c.self.invariant.line (omega (arith, can.stands.room));
      kept = record { lefts = can.cells; left = can.stands.left };
      wide = can.wide;
    })

pub invariant_of-self : goal.invariant_of-self
invariant_of-self c = record {
  few = c.self.invariant.few;
  cells = c.self.invariant.cells;
  above = c.self.invariant.above;
  band = c.self.invariant.band;
  line = c.lay_row.ensures.room c.self.inside.room c.self.invariant.line;
  come = c.self.invariant.come;
  come_above = c.self.invariant.come_above;
}

pub returns-clause-draws : goal.returns-clause-draws
returns-clause-draws c = λ format cells lines stands.
    let here = rw (← c.self.view_is) at stands in
    let s : Sheet = record { bars = c.args.bars; width = c.args.width; columns = c.args.columns.now } in
    subst (λ (last : ℕ). Draws c.args.bytes.now s.bars s.width (kept_line c.lay_row.new.self) (row_line s last cells)) here.last
    ((rw c.as_slice.ensures.value at c.lay_row.ensures.draws) cells here.left)

pub returns-clause-cut : goal.returns-clause-cut
returns-clause-cut c = λ format cells lines stands.
    let here = rw (← c.self.view_is) at stands in
    let s : Sheet = record { bars = c.args.bars; width = c.args.width; columns = c.args.columns.now } in
    subst (λ (last : ℕ). CutOn (length s.columns) (kept_line c.lay_row.new.self) (row_cut s last cells)) here.last
    ((rw c.as_slice.ensures.value at c.lay_row.ensures.cut) cells here.left)
