use Rattle.std.proofs.Common.{◌≤◌, ℕ, List, refl, sym, subst, ◌∙◌}
use Rattle.std.proofs.lemmas.List.{with_items_is}
use Rattle.std.specs.List.{AllByRecursion}
use Rattle.tbl_format.specs.Format.{FormatRow}
use Rattle.tbl_format.specs.FormatRows.{AreWithin}
use Rattle.tbl_lines.specs.CellsLeft.{Left, all_keys}
use Rattle.tbl_lines.specs.CutEntries.{all_with_cut, with_cut}
use Rattle.tbl_tall.proofs.CutsMarked.{marked-cut}
use Rattle.tbl_tall.proofs.KeysCover.{lefts-all, lefts-order}
use Rattle.tbl_tall.proofs.MarksApart.{alike-marked, comes-marked, stands-marked}
use Rattle.tbl_tall.proofs.tall_row.TallRow.mark_cut.Goals.{After-mark_cut}
use Rattle.tbl_tall.proofs.tall_row.TallRow.mark_cut.Goals as goal
use Rattle.tbl_line_cells.specs.KeptCells.{AllLeft}
use Rattle.tbl_line_cells.specs.LinesDrawn.{CutOn, kept_line}
use Rattle.tbl_tall.specs.TallRows.{HaveKeys, kept_by, next_format}
use Rattle.tbl_line_cells.specs.declared.cells.CellLeft.{CellLeft}

-- in the cells something is cut
left : (c : After-mark_cut) (bytes : List ℕ) (format : FormatRow) {columns : ℕ} {cells cut : List Left}
    → CutOn columns (kept_line c.self.inside.line) cut → AreWithin columns format.keys → HaveKeys cells (all_keys columns format)
    → AllLeft bytes c.self.inside.cells.items cells → AllLeft bytes c.mark_cut.new.cells (all_with_cut cut cells)
left c bytes format {columns} {cells} {cut} on within keys all =
    let order = lefts-order columns format cells within keys in
    let same = marked-cut columns (kept_line c.self.inside.line) cut cells on order (lefts-all columns format cells within keys) in
    subst (λ (ls : List Left). AllLeft bytes c.mark_cut.new.cells ls) same
    ((rw (c.as_mut_slice.ensures.value, c.as_slice.ensures.value) at c.mark_cut.ensures.left) bytes cells all)

pub invariant_of-self : goal.invariant_of-self
invariant_of-self c =
    let a = c.self.inside in
    let written = with_items_is a.cells c.mark_cut.new.cells (c.mark_cut.auto.cells ∙ c.as_mut_slice.ensures.len) in
    record {
      few = c.self.invariant.few;
      cells = c.self.invariant.cells;
      above = c.self.invariant.above;
      band = c.self.invariant.band;
      line = c.self.invariant.line;
      come = rw written (c.mark_cut.ensures.come a.come
          (subst (λ (cs : List CellLeft). AllByRecursion (λ (k : CellLeft). k.rows ≤ a.come) cs) (sym c.as_mut_slice.ensures.value) c.self.invariant.come));
      come_above = c.self.invariant.come_above;
    }

pub returns-clause-count : goal.returns-clause-count
returns-clause-count c = λ columns cut on. let here = rw (← c.self.view_is) at on in here.first

pub returns-clause-comes : goal.returns-clause-comes
returns-clause-comes c = λ bytes formats s heights cells above elements cut on comes.
    let a = c.self.inside in
    let here = rw (← c.self.view_is) at comes in
    let cut_here = rw (← c.self.view_is) at on in
    let written = with_items_is a.cells c.mark_cut.new.cells (c.mark_cut.auto.cells ∙ c.as_mut_slice.ensures.len) in
    let now = left (goal.at.returns-clause-comes c).After-mark_cut bytes (next_format elements) cut_here here.within here.keys here.left in
    rw written (comes-marked bytes s (kept_by a) c.mark_cut.new.cells (with_cut cut) (λ l. refl) cells (alike-marked (with_cut cut) (λ l. refl) cells) now
    formats heights above elements here)

pub returns-clause-stands : goal.returns-clause-stands
returns-clause-stands c = λ bytes s format cells lines cut on stands.
    let a = c.self.inside in
    let here = rw (← c.self.view_is) at stands in
    let cut_here = rw (← c.self.view_is) at on in
    let written = with_items_is a.cells c.mark_cut.new.cells (c.mark_cut.auto.cells ∙ c.as_mut_slice.ensures.len) in
    let now = left (goal.at.returns-clause-stands c).After-mark_cut bytes format cut_here here.within here.keys here.left in
    rw written (stands-marked bytes s (kept_by a) c.mark_cut.new.cells (with_cut cut) (λ l. refl) cells (alike-marked (with_cut cut) (λ l. refl) cells) now
    format lines here)
