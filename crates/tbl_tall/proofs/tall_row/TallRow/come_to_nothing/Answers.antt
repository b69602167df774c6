use Rattle.std.proofs.Common.{◌≡◌, ℕ, List, length, map, refl, sym, ap, subst, ◌∙◌, arith}
use Rattle.tbl_layout.specs.declared.columns.Column.{Column}
use Rattle.tbl_lines.specs.CellsLeft.{keys_behind, nothing_left}
use Rattle.tbl_lines.specs.LinesLeft.{Nothing}
use Rattle.tbl_tall.proofs.KeysCover.{fewer-room}
use Rattle.tbl_tall.proofs.RowsBegun.{none-goes, nothing-comes}
use Rattle.tbl_tall.proofs.tall_row.TallRow.come_to_nothing.Goals as goal
use Rattle.tbl_tall.specs.Bands.{KeptBand, ShowBars, kept_band}
use Rattle.tbl_line_cells.specs.KeptCells.{AllLeft}
use Rattle.tbl_tall.specs.TallRows.{KeptTall, kept_by}

pub fill_nothing-requires-clause-small : goal.fill_nothing-requires-clause-small
fill_nothing-requires-clause-small c =
    let room = rw (← c.self.view_is) at c.requires.room in
    omega (arith, room, c.self.invariant.few)

pub fill_nothing-requires-clause-room : goal.fill_nothing-requires-clause-room
fill_nothing-requires-clause-room c =
    let room = rw (← c.self.view_is) at c.requires.room in
    omega (arith, room, c.self.invariant.cells)

pub fill_nothing-requires-clause-empty : goal.fill_nothing-requires-clause-empty
fill_nothing-requires-clause-empty c = rw (← c.self.view_is) at c.requires.empty

pub end_nothing-requires-clause-small : goal.end_nothing-requires-clause-small
end_nothing-requires-clause-small c =
    let room = rw (← c.self.view_is) at c.requires.room in
    omega (arith, room, c.self.invariant.few)

pub end_nothing-requires-clause-room : goal.end_nothing-requires-clause-room
end_nothing-requires-clause-room c =
    let room = rw (← c.self.view_is) at c.requires.room in
    fewer-room (c.set_lines.ensures.room c.self.inside.room c.self.invariant.band) room

pub invariant_of-self : goal.invariant_of-self
invariant_of-self c = record {
  few = c.self.invariant.few;
  cells = omega (arith, c.self.invariant.cells, c.fill_nothing.ensures.capacity);
  above = c.self.invariant.above;
  band = c.end_nothing.ensures.room c.self.inside.room (c.set_lines.ensures.room c.self.inside.room c.self.invariant.band);
  line = c.self.invariant.line;
  come = c.fill_nothing.ensures.come c.self.inside.come;
  come_above = c.self.invariant.come_above;
}

pub returns-clause-comes : goal.returns-clause-comes
returns-clause-comes c = λ d up heights all stand many then_none.
    let a = c.self.inside in
    let s = d.sheet in
    let here = rw (← c.self.view_is) at stand in
    let room = rw (← c.self.view_is) at c.requires.room in
    let lines = c.set_lines.ensures.lines in
    let rest = c.end_nothing.ensures.rest in
    let columns = c.args.columns in
    let n = length s.columns in
    let same : columns ≡ n = sym many ∙ ap (λ (cs : List Column). length cs) (sym here.columns) in
    let band = kept_band c.end_nothing.new.self in
    let new : KeptTall = record (kept_by a) { last = 0; cells = c.fill_nothing.new.cells.items; lines_left = 0; band = band } in
    let above : new.band.above ≡ a.band.above.items = ap (λ (b : KeptBand). b.above) rest ∙ ap (λ (b : KeptBand). b.above) lines in
    let shown : ShowBars s.bars.boxing n new.band.above up.line = subst (λ (xs : List ℕ). ShowBars s.bars.boxing n xs up.line) (sym above) here.shown in
    let below : ShowBars s.bars.boxing n new.band.below Nothing
    = subst (λ (m : ℕ). ShowBars s.bars.boxing m new.band.below Nothing) same (c.end_nothing.ensures.below s.bars.boxing) in
    let as_many : length new.band.through ≡ n = c.end_nothing.ensures.columns ∙ same in
    let none = ap (λ (b : KeptBand). b.at) rest ∙ ap (λ (b : KeptBand). b.at) lines in
    let wholes = ap (λ (b : KeptBand). b.wholes) rest ∙ ap (λ (b : KeptBand). b.wholes) lines in
    let first = ap (λ (b : KeptBand). b.first) rest ∙ ap (λ (b : KeptBand). b.first) lines in
    let count = ap (λ (b : KeptBand). b.count) rest ∙ ap (λ (b : KeptBand). b.count) lines in
    nothing-comes d.bytes d.formats s new c.args.rules up.keys up.cells heights up.line all (record {
      left = subst (λ (m : ℕ). AllLeft d.bytes c.fill_nothing.new.cells.items (map nothing_left (keys_behind m 0 0))) same (c.fill_nothing.ensures.left d.bytes);
      fits = record {
        some = omega (arith, as_many, same, c.requires.some);
        few = omega (arith, as_many, same, room, c.self.invariant.few);
        boundaries = omega (arith, shown.boundaries, as_many);
        boundaries_below = omega (arith, below.boundaries, as_many);
        given = omega (arith, none);
        rows = omega (arith, first, count);
        places = omega (arith, first, count);
        small = omega (arith, wholes, count, c.requires.few);
      };
      as_many = as_many;
      through = c.end_nothing.ensures.through (map nothing_left (keys_behind n 0 0)) s.columns (none-goes n);
      below = below;
      shown = shown;
      none = none;
      wholes = wholes;
      first = first;
      count = count;
      high = refl;
      last = refl;
      fit = here.fit;
      some = omega (arith, same, c.requires.some);
      room = omega (arith, same, room);
    }) then_none
