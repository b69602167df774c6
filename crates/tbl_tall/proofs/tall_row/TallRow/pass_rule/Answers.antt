use Rattle.std.proofs.Common.{◌≤◌, ℕ, List, length, map, refl, sym, ap, subst, ◌∙◌, arith}
use Rattle.std.proofs.lemmas.List.{with_items_is}
use Rattle.std.specs.List.{AllByRecursion}
use Rattle.tbl_format.specs.RowsServed.{all_rows}
use Rattle.tbl_lines.specs.LinesLeft.{OfRules, overs}
use Rattle.tbl_lines.specs.PictureLeft.{through_rule}
use Rattle.tbl_tall.proofs.BandsAlike.{overs-alike}
use Rattle.tbl_tall.proofs.KeysCover.{fewer-room}
use Rattle.tbl_tall.proofs.RowsGoOn.{rule-passed}
use Rattle.tbl_tall.proofs.RuleGivens.{next-line}
use Rattle.tbl_tall.proofs.tall_row.TallRow.pass_rule.Goals as goal
use Rattle.tbl_tall.specs.Bands.{AlikeOvers, BandStands, KeptBand, kept_band}
use Rattle.tbl_tall.specs.TallRows.{row_below}
use Rattle.tbl_line_cells.specs.declared.cells.CellLeft.{CellLeft}

pub pass_cells-requires : goal.pass_cells-requires
pass_cells-requires c = record {
  kept =
      let next = rw (← c.self.view_is) at c.requires.next in
      rw c.as_mut_slice.ensures.value (record { lefts = next.cells; left = next.comes.left });
}

pub pass-requires-clause-fits : goal.pass-requires-clause-fits
pass-requires-clause-fits c =
    let next = rw (← c.self.view_is) at c.requires.next in
    next.comes.band.fits

pub pass-requires-clause-line : goal.pass-requires-clause-line
pass-requires-clause-line c =
    let next = rw (← c.self.view_is) at c.requires.next in
    (next-line next.comes next.rule).more

pub pass-requires-clause-room : goal.pass-requires-clause-room
pass-requires-clause-room c =
    let next = rw (← c.self.view_is) at c.requires.next in
    fewer-room c.self.invariant.band (omega (arith, next.comes.band.as_many, next.comes.room))

pub invariant_of-self : goal.invariant_of-self
invariant_of-self c =
    let a = c.self.inside in
    let written = with_items_is a.cells c.pass_cells.new.cells (c.pass_cells.auto.cells ∙ c.as_mut_slice.ensures.len) in
    record {
      few = c.self.invariant.few;
      cells = c.self.invariant.cells;
      above = c.self.invariant.above;
      band = c.pass.ensures.room a.room c.self.invariant.band;
      line = c.self.invariant.line;
      come = rw written (c.pass_cells.ensures.come a.come
          (subst (λ (cs : List CellLeft). AllByRecursion (λ (k : CellLeft). k.rows ≤ a.come) cs) (sym c.as_mut_slice.ensures.value) c.self.invariant.come));
      come_above = c.self.invariant.come_above;
    }

pub returns-clause-comes : goal.returns-clause-comes
returns-clause-comes c = λ s heights cells above elements rest line boxed comes rule places.
    let a = c.self.inside in
    let formats = all_rows c.args.format.now.format in
    let bytes = c.args.bytes.now in
    let written = with_items_is a.cells c.pass_cells.new.cells (c.pass_cells.auto.cells ∙ c.as_mut_slice.ensures.len) in
    let here = rw (← c.self.view_is) at comes in
    let n = length s.columns in
    let all = overs 0 cells s.columns in
    let other = overs 0 (map through_rule cells) s.columns in
    let below = row_below n cells elements in
    let next = next-line here rule in
    let back = overs-alike cells s.columns in
    let alike : AlikeOvers all other = record { free = λ column. sym (back.free column); within = λ boundary. sym (back.within boundary) } in
    let stands : BandStands formats s.bars n (kept_band c.pass.new.self) other (OfRules line all above) below
    = subst (λ (m : ℕ). BandStands formats s.bars m (kept_band c.pass.new.self) other (OfRules line all above) below) here.band.as_many
    (c.pass.ensures.stands s.bars all other line above below boxed
    (subst (λ (m : ℕ). BandStands formats s.bars m (kept_band a.band) all above below) (sym here.band.as_many) here.band) alike next.alike) in
    let told = c.pass.ensures.rest in
    let left = (rw c.as_mut_slice.ensures.value at c.pass_cells.ensures.left) cells here.left in
    rw written (rule-passed here rule places left stands (ap (λ (b : KeptBand). b.wholes) told) (ap (λ (b : KeptBand). b.first) told)
    (ap (λ (b : KeptBand). b.count) told) (ap (λ (b : KeptBand). b.at) told) refl refl refl)
