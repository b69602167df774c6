use Rattle.std.proofs.Common.{◌≡◌, ℕ, suc, ◌+◌, ◌<◌, List, ◌++◌, drop, get_or, length, refl, sym, ap, subst, ◌∙◌, arith, Option, vec_capacity}
use Rattle.tbl_layout.specs.declared.data_lines.RuleSign.{RuleSign}
use Rattle.tbl_lines.specs.LinesLeft.{over_at, over_shown, overs}
use Rattle.tbl_lines.specs.PictureLines.{Sheet}
use Rattle.tbl_lines.specs.declared.fronts.Front.{Front}
use Rattle.tbl_line_cells.specs.declared.laid_cells.LaidCell.{LaidCell}
use Rattle.tbl_line_cells.specs.LinesDrawn.{SoFar, kept_line, keys_in}
use Rattle.tbl_line_cells.specs.RulesDrawn.{LaidTo, RuleGiven, end_at}
use Rattle.tbl_line_cells.specs.declared.line_cells.LineCells.{LineCells}
use Rattle.tbl_line_cells.proofs.CellsOver.{first-column}
use Rattle.tbl_line_cells.proofs.ColumnsAt.{drop-one}
use Rattle.tbl_line_cells.proofs.FrontsOf.{no_column}
use Rattle.tbl_line_cells.proofs.LaidSteps.{laid-next, laid-none}
use Rattle.tbl_line_cells.proofs.LineSteps.{line-next, most-fronts}
use Rattle.tbl_line_cells.proofs.line_cells.LineCells.lay_columns.Goals as goal

pub cell_behind-next-requires-clause-column : goal.cell_behind-next-requires-clause-column
cell_behind-next-requires-clause-column c = c.loop-at.invariant.column c.loop-at-test.true

pub loop-at-preserved : goal.loop-at-preserved
loop-at-preserved c =
    let a = c.args in
    let i = c.loop-at.invariant in
    let at = c.loop-at.at in
    let columns = a.columns.now in
    let more : at < length columns = c.loop-at-test.true in
    let old = c.loop-at.self in
    let mid = c.lay_over.new.self in
    let new = c.lay_front.new.self in
    let next : suc at ≡ at + 1 = omega arith in
    let signs : old.signs.items ≡ a.self.now.signs.items = ap (λ (x : LineCells). x.signs.items) i.line in
    let signs_mid : mid.signs.items ≡ a.self.now.signs.items = ap (λ (x : LineCells). x.signs.items) c.lay_over.ensures.line ∙ signs in
    record {
      line = line-next a.self.now old mid new i.line c.lay_over.ensures.line c.lay_front.ensures.line;
      within = omega (arith, more);
      few = omega (arith, c.lay_over.ensures.few, i.few, ap (λ (x : LineCells). length x.cells.items) c.lay_front.ensures.line);
      few_fronts = omega (arith, c.lay_front.ensures.few, i.few_fronts, ap (λ (x : LineCells). length x.fronts.items) c.lay_over.ensures.line);
      most_fronts = most-fronts at (length columns) (length old.fronts.items) (length new.fronts.items) more i.few_fronts i.most_fronts
          (omega (arith, c.lay_front.ensures.few, ap (λ (x : LineCells). length x.fronts.items) c.lay_over.ensures.line))
          (λ last. ap (λ (fs : List Front). length fs) (c.lay_front.ensures.last last)
          ∙ ap (λ (x : LineCells). length x.fronts.items) c.lay_over.ensures.line);
      column = λ within. c.cell_behind-next.ensures (length columns) c.requires.cover within;
      laid = λ bytes lefts bars width line above below edge given so_far.
          let s : Sheet = record { bars = bars; width = width; columns = columns } in
          let here = subst (λ (ss : List (Option RuleSign)). RuleGiven bytes a.cells.now ss a.counts.now columns lefts bars line above below)
          (sym signs) given in
          let there = subst (λ (ss : List (Option RuleSign)). RuleGiven bytes a.cells.now ss a.counts.now columns lefts bars line above below)
          (sym signs_mid) given in
          subst (λ (n : ℕ). LaidTo bytes (kept_line new) s lefts line above below edge a.from a.to n) next
          (laid-next bytes s lefts line above below edge a.from a.to (kept_line old) (kept_line new) at (get_or columns at no_column)
          (drop (suc at) columns)
          (drop-one columns at no_column more) refl (i.laid bytes lefts bars width line above below edge given so_far)
          (λ done fronts before.
          c.lay_front.ensures.so_far bytes lefts bars width line above below _ fronts there
          (subst (λ (n : ℕ). SoFar bytes (kept_line mid)
          (done ++ over_shown line at (over_at (overs 0 lefts columns) at) n (end_at a.to (drop at columns))) fronts)
          c.rule_begin-begin.ensures.value
          (subst (λ (n : ℕ). SoFar bytes (kept_line mid)
          (done ++ over_shown line at (over_at (overs 0 lefts columns) at) c.rule_begin-begin.result n) fronts)
          c.rule_end-end.ensures.value
          (c.lay_over.ensures.so_far bytes a.counts.now lefts bars line above below done fronts here before)))));
      capacity = ap (λ (x : LineCells). vec_capacity x.cells) c.lay_front.ensures.line ∙ c.lay_over.ensures.capacity ∙ i.capacity;
      front_capacity = c.lay_front.ensures.capacity ∙ ap (λ (x : LineCells). vec_capacity x.fronts) c.lay_over.ensures.line ∙ i.front_capacity;
    }

pub loop-at-init : goal.loop-at-init
loop-at-init c =
    let a = c.args in
    let r = c.requires in
    let columns = a.columns.now in
    record {
      line = refl;
      within = omega arith;
      few = omega (arith, ap (λ (cells : List LaidCell). length cells) r.none);
      few_fronts = omega (arith, r.one);
      most_fronts = omega (arith, r.one, r.some);
      column = λ more. first-column (length columns) (keys_in a.cells.now) r.cover r.some;
      laid = λ bytes lefts bars width line above below edge given so_far.
          laid-none bytes (record { bars = bars; width = width; columns = columns }) lefts line above below edge a.from a.to (kept_line a.self.now)
          so_far;
      capacity = refl;
      front_capacity = refl;
    }

pub returns-clause-laid : goal.returns-clause-laid
returns-clause-laid c = λ bytes lefts bars width line above below edge given so_far.
    let i = c.loop-at.invariant in
    let columns = c.args.columns.now in
    let end : c.loop-at.at ≡ length columns = omega (arith, i.within, c.loop-at-test.false) in
    let s : Sheet = record { bars = bars; width = width; columns = columns } in
    subst (λ (n : ℕ). LaidTo bytes (kept_line c.loop-at.self) s lefts line above below edge c.args.from c.args.to n) end
    (i.laid bytes lefts bars width line above below edge given so_far)
