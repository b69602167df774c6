use Rattle.std.proofs.Common.{◌≡◌, ◌+◌, ◌<◌, ◌≤◌, ℕ, true, List, length, map, refl, sym, ap, subst, ◌∙◌, arith}
use Rattle.std.specs.List.{AllByRecursion}
use Rattle.tbl_format.specs.Format.{columns_of_keys}
use Rattle.tbl_format.specs.RowsServed.{all_rows, row_at}
use Rattle.tbl_lines.specs.LinesLeft.{OfRow}
use Rattle.tbl_tall.proofs.CellsNext.{all-less, row-within}
use Rattle.tbl_tall.proofs.KeysCover.{cover-all, cover-some, fewer-room}
use Rattle.tbl_tall.proofs.RowsFilled.{filled-comes}
use Rattle.tbl_tall.proofs.tall_row.TallRow.come_to.Goals as goal
use Rattle.tbl_tall.specs.Bands.{KeptBand, ShowBars, kept_band}
use Rattle.tbl_line_cells.specs.LinesDrawn.{keys_in}
use Rattle.tbl_line_cells.specs.KeptCells.{behind_rules}
use Rattle.tbl_tall.specs.TallRows.{KeptTall, kept_by}
use Rattle.tbl_line_cells.specs.declared.cells.CellLeft.{CellLeft}

pub fill_cells-requires-clause-first : goal.fill_cells-requires-clause-first
fill_cells-requires-clause-first c = λ is. c.as_slice.ensures.value ∙ (rw (← c.self.view_is) at c.requires.none) is

pub fill_cells-requires-clause-small : goal.fill_cells-requires-clause-small
fill_cells-requires-clause-small c =
    let room = rw (← c.self.view_is) at c.requires.room in
    omega (arith, room, c.self.invariant.few)

pub fill_cells-requires-clause-room : goal.fill_cells-requires-clause-room
fill_cells-requires-clause-room c =
    let room = rw (← c.self.view_is) at c.requires.room in
    omega (arith, room, c.self.invariant.cells)

pub fill_cells-requires-clause-come : goal.fill_cells-requires-clause-come
fill_cells-requires-clause-come c =
    let come = rw (← c.self.view_is) at c.requires.come in
    let few : c.self.inside.come ≤ 9223372036854775808 = omega (arith, come) in
    subst (λ (cs : List CellLeft). AllByRecursion (λ (k : CellLeft). k.rows < 9223372036854775808) cs) (sym c.as_slice.ensures.value)
    (all-less c.self.inside.above.items c.self.inside.come 9223372036854775808 few c.self.invariant.come_above)

pub fill_cells-requires-clause-empty : goal.fill_cells-requires-clause-empty
fill_cells-requires-clause-empty c = rw (← c.self.view_is) at c.requires.empty

pub invariant_of-self : goal.invariant_of-self
invariant_of-self c = record {
  few = c.self.invariant.few;
  cells = omega (arith, c.self.invariant.cells, c.fill_cells.ensures.capacity);
  above = c.self.invariant.above;
  band = c.end.ensures.room c.self.inside.room (c.set_lines.ensures.room c.self.inside.room c.self.invariant.band);
  line = c.self.invariant.line;
  come = c.fill_cells.ensures.come c.self.inside.come
      (subst (λ (cs : List CellLeft). AllByRecursion (λ (k : CellLeft). k.rows < c.self.inside.come) cs) (sym c.as_slice.ensures.value) c.self.invariant.come_above);
  come_above = c.self.invariant.come_above;
}

pub returns-clause-comes : goal.returns-clause-comes
returns-clause-comes c = λ bytes s up all stand above then_come.
    let a = c.self.inside in
    let rows = c.args.rows.now in
    let formats = all_rows c.args.format.now.format in
    let here = rw (← c.self.view_is) at stand in
    let room = rw (← c.self.view_is) at c.requires.room in
    let cells = c.fill_cells.new.cells.items in
    let last = c.bars_at_end-self-inside in
    let lines = c.set_lines.ensures.lines in
    let rest = c.end.ensures.rest in
    let own = c.as_slice-2.ensures.value in
    let new : KeptTall = record (kept_by a) {
      last = last.result;
      cells = cells;
      lines_left = c.args.row.height;
      is_first = true;
      band = kept_band c.end.new.self;
    } in
    let same_wholes = ap (λ (b : KeptBand). b.wholes) rest in
    let same_count = ap (λ (b : KeptBand). b.count) rest in
    let set_wholes = ap (λ (b : KeptBand). b.wholes) lines in
    let same_lines : c.set_lines.new.self.wholes + c.set_lines.new.self.count ≡ new.band.wholes + new.band.count = omega (arith, same_wholes, same_count) in
    filled-comes bytes formats c.args.boxing rows s c.args.row c.args.rules (kept_by a) new up all c.requires.lie c.requires.at c.requires.row here
    (record {
      left = c.fill_cells.ensures.left bytes up.keys up.cells here.laid.elements above
          (rw c.as_slice.ensures.value here.left);
      has = c.fill_cells.ensures.keys;
      through = λ lefts_own columns kept many. (rw own at c.end.ensures.through) bytes lefts_own columns kept many;
      below = λ lefts_own kept.
          subst (λ (n : ℕ). ShowBars c.args.boxing (columns_of_keys (keys_in cells)) new.band.below (OfRow (map (behind_rules n) lefts_own) last.result)) same_lines
          ((rw own at c.end.ensures.below) bytes lefts_own kept);
      as_many = rw own at c.end.ensures.columns;
      wholes = same_wholes ∙ set_wholes ∙ c.rules_in_front-wholes.ensures.value;
      most = omega (arith, same_wholes, set_wholes, c.rules_in_front-wholes.ensures.most);
      first = ap (λ (b : KeptBand). b.first) rest ∙ ap (λ (b : KeptBand). b.first) lines ∙ c.saturating_sub.ensures;
      count = same_count ∙ ap (λ (b : KeptBand). b.count) lines;
      none = ap (λ (b : KeptBand). b.at) rest ∙ ap (λ (b : KeptBand). b.at) lines;
      above = ap (λ (b : KeptBand). b.above) rest ∙ ap (λ (b : KeptBand). b.above) lines;
      high = refl;
      last = last.ensures;
      room = refl;
    }) c.requires.few c.requires.few_keys c.requires.some room c.self.invariant.few c.stays_within.ensures then_come

pub end-requires : goal.end-requires
end-requires c =
    let n = length c.args.rows.now.columns in
    let formats = all_rows c.args.format.now.format in
    let within = row-within formats n c.args.rows.now.elements c.args.row c.requires.at c.requires.row c.requires.lie in
    let cover = cover-all n (row_at formats c.args.row.keys) c.fill_cells.new.cells.items within c.fill_cells.ensures.keys in
    let room = rw (← c.self.view_is) at c.requires.room in
    let wholes = ap (λ (b : KeptBand). b.wholes) c.set_lines.ensures.lines in
    let count = ap (λ (b : KeptBand). b.count) c.set_lines.ensures.lines in
    rw c.as_slice-2.ensures.value (record {
      cells = cover.order;
      some = cover-some _ _ cover c.requires.some;
      small = omega (arith, cover.all, room, c.self.invariant.few);
      room = fewer-room (c.set_lines.ensures.room c.self.inside.room c.self.invariant.band) (omega (arith, cover.all, room));
      lines = omega (arith, wholes, count, c.rules_in_front-wholes.ensures.most, c.requires.few, c.requires.few_keys);
    })
