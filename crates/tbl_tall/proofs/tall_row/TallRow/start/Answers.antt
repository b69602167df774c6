use Rattle.std.proofs.Common.{◌≡◌, ◌<◌, ◌≤◌, ◌==◌, ℕ, false, ◌&&◌, List, [], length, sym, ap, subst, ◌∙◌, arith}
use Rattle.std.specs.List.{AllByRecursion}
use Rattle.tbl_format.specs.RowsServed.{all_rows}
use Rattle.tbl_kept.specs.Rows.{elements_of}
use Rattle.tbl_layout.specs.declared.columns.Column.{Column}
use Rattle.tbl_lines.specs.LinesLeft.{Nothing}
use Rattle.tbl_lines.specs.PictureLines.{boxed, boxed_from}
use Rattle.tbl_tall.proofs.BarsFit.{nothing-fits}
use Rattle.tbl_tall.proofs.RowsComing.{frame-first}
use Rattle.tbl_tall.proofs.tall_row.TallRow.start.Goals as goal
use Rattle.tbl_tall.specs.Bands.{ShowBars}
use Rattle.tbl_line_cells.specs.KeptCells.{AllLeft}
use Rattle.tbl_tall.specs.RowsNext.{NoneAbove, RulesThen}
use Rattle.tbl_line_cells.specs.declared.cells.CellLeft.{CellLeft}

pub invariant_of-self : goal.invariant_of-self
invariant_of-self c = record {
  few = c.self.invariant.few;
  cells = omega (arith, c.self.invariant.cells, c.clear.ensures.capacity);
  above = omega (arith, c.self.invariant.above, c.clear-2.ensures.capacity);
  band = c.begin_nothing.ensures.room c.self.inside.room c.self.invariant.band;
  line = c.self.invariant.line;
  come = subst (λ (cs : List CellLeft). AllByRecursion (λ (k : CellLeft). k.rows ≤ 0) cs) (sym c.clear.ensures.items) tt;
  come_above = subst (λ (cs : List CellLeft). AllByRecursion (λ (k : CellLeft). k.rows < 0) cs) (sym c.clear-2.ensures.items) tt;
}

pub returns-clause-comes : goal.returns-clause-comes
returns-clause-comes c = λ bytes s columns boxed_so places laid.
    let rows = c.args.rows.now in
    let boxing = c.args.boxing in
    let es = elements_of bytes (all_rows c.args.format.now.format) rows.elements in
    let same : length c.columns.result.now ≡ length s.columns
    = ap (λ (cs : List Column). length cs) c.columns.ensures ∙ ap (λ (cs : List Column). length cs) (sym columns) in
    c.come_to_row.ensures.comes bytes s (record { keys = []; cells = []; line = Nothing }) (boxed boxing es) (record {
      columns = columns;
      boxed = boxed_so;
      places = places;
      laid = laid;
      left = subst (λ (cs : List CellLeft). AllLeft bytes cs []) (sym c.clear-2.ensures.items) tt;
      shown = subst (λ (n : ℕ). ShowBars s.bars.boxing n c.begin_nothing.new.self.above.items Nothing) same (c.begin_nothing.ensures.above s.bars.boxing);
      fit = nothing-fits s;
    }) NoneAbove
    (subst (λ (n : ℕ). RulesThen n (boxed boxing es) (boxed_from boxing (false && (n == 0)) es)) (sym c.frame_lines.ensures.value) (frame-first boxing es))
