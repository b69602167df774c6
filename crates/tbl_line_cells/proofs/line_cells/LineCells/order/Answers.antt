use Rattle.std.proofs.Common.{◌≡◌, ℕ, suc, ◌+◌, ◌<◌, List, length, refl, sym, ap, subst, ◌∙◌, arith}
use Rattle.tbl_line_cells.specs.LinesDrawn.{kept_line}
use Rattle.tbl_line_cells.specs.declared.laid_cells.LaidCell.{LaidCell}
use Rattle.tbl_line_cells.specs.declared.line_cells.LineCells.{LineCells}
use Rattle.tbl_line_cells.proofs.ColumnsAt.{any-default}
use Rattle.tbl_line_cells.proofs.LineCut.{front-kept, no_laid}
use Rattle.tbl_line_cells.proofs.LineOrdered.{OrderNext, order-behind, order-brought, order-other}
use Rattle.tbl_line_cells.proofs.LineShown.{OrderedTo, ordered-all, ordered-none}
use Rattle.tbl_line_cells.proofs.line_cells.LineCells.order.Goals.{in-None, in-Some+else-text-last_text, in-Some+then-text-last_text}
use Rattle.tbl_line_cells.proofs.line_cells.LineCells.order.Goals as goal

pub loop-at-init : goal.loop-at-init
loop-at-init c = record {
  line = refl;
  so_far = λ bytes done fronts cut. ordered-none bytes c.args.self.now.cells.items done 0 cut.cells;
  count = refl;
  capacity = refl;
}

pub loop-at-preserved : goal.loop-at-preserved
loop-at-preserved c =
    let i = c.loop-at.invariant in
    let old = c.loop-at.self in
    let at = c.loop-at.at in
    let last = c.loop-at.last_text in
    let more : at < length old.cells.items = omega (arith, c.loop-at-test.true, i.count, c.len-at-end.ensures) in
    let cell = ap (λ (d : LaidCell). d.text) (any-default old.cells.items at no_laid _ more ∙ sym c.index.ensures) in
    let next : OrderNext old c.match-index.self at last c.match-index.last_text = elim c.match-index.branch [
      | in-Some+then-text-last_text w ↦
          subst (λ (x : LineCells). OrderNext old x at last c.match-index.last_text) (sym w.self-is)
          (subst (λ (n : ℕ). OrderNext old w.bring_forward.new.self at last n) (sym w.last_text-is)
          (order-brought old w.bring_forward.new.self at last more no_laid w.in-Some.text (cell ∙ w.in-Some.is) w.if-text-last_text.true
          w.bring_forward.ensures.line w.bring_forward.ensures.count w.bring_forward.ensures.capacity w.bring_forward.ensures.cells))
      | in-Some+else-text-last_text w ↦
          subst (λ (x : LineCells). OrderNext old x at last c.match-index.last_text) (sym w.self-is)
          (subst (λ (n : ℕ). OrderNext old old at last n) (sym w.last_text-is)
          (order-behind old at last more no_laid w.in-Some.text (cell ∙ w.in-Some.is) (omega (arith, w.if-text-last_text.false))))
      | in-None w ↦
          subst (λ (x : LineCells). OrderNext old x at last c.match-index.last_text) (sym w.self-is)
          (subst (λ (n : ℕ). OrderNext old old at last n) (sym w.last_text-is) (order-other old at last more no_laid (cell ∙ w.in-None.is)))
    ] in
    let one : suc at ≡ at + 1 = omega arith in
    record {
      line = next.line ∙ ap (λ (x : LineCells). record x { cells = c.match-index.self.cells }) i.line;
      so_far = λ bytes done fronts cut.
          subst (λ (n : ℕ). OrderedTo bytes c.match-index.self.cells.items done n c.match-index.last_text) one
          (next.so_far bytes done (i.so_far bytes done fronts cut));
      count = next.count ∙ i.count;
      capacity = next.capacity ∙ i.capacity;
    }

pub returns-clause-so_far : goal.returns-clause-so_far
returns-clause-so_far c = λ bytes done fronts cut.
    let i = c.loop-at.invariant in
    record {
      cells = ordered-all bytes c.loop-at.self.cells.items done c.loop-at.at c.loop-at.last_text (i.so_far bytes done fronts cut)
          (omega (arith, c.loop-at-test.false, i.count, c.len-at-end.ensures));
      front = front-kept (kept_line c.args.self.now) (kept_line c.loop-at.self) fronts (ap (λ (x : LineCells). x.fronts.items) i.line) cut.front;
    }
