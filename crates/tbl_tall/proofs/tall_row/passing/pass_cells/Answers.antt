use Rattle.std.proofs.Common.{◌≡◌, ◌+◌, ◌<◌, ◌≤◌, ℕ, suc, length, set, sym, subst, ◌∙◌, arith, length-set}
use Rattle.tbl_tall.proofs.CellsNext.{all-at}
use Rattle.tbl_tall.proofs.RowsPassed.{all-set, kept-at, passed-end, passed-next}
use Rattle.tbl_tall.proofs.tall_row.passing.pass_cells.Goals as goal
use Rattle.tbl_line_cells.specs.KeptCells.{AllLeft}
use Rattle.tbl_tall.specs.RowsPassed.{passed_at}
use Rattle.tbl_line_cells.specs.declared.cells.CellLeft.{CellLeft}

pub pass_cell-requires : goal.pass_cell-requires
pass_cell-requires c = record {
  kept =
      let i = c.loop-at.invariant in
      let p = c.requires.kept in
      let some : c.loop-at.at < length c.loop-at.cells = omega (arith, c.loop-at-test.true, i.many) in
      kept-at c.args.bytes.now c.loop-at.cells (passed_at c.args.is_rule c.loop-at.at p.lefts) c.loop-at.at _ some (i.left p.lefts p.left);
}

pub loop-at-preserved : goal.loop-at-preserved
loop-at-preserved c =
    let i = c.loop-at.invariant in
    let at = c.loop-at.at in
    let cells = c.loop-at.cells in
    let new = c.pass_cell.new.cell in
    let next : suc at ≡ at + 1 = omega arith in
    let some : at < length cells = omega (arith, c.loop-at-test.true, i.many) in
    record {
      left = λ lefts all. subst (λ (n : ℕ). AllLeft c.args.bytes.now (set cells at new) (passed_at c.args.is_rule n lefts)) next
          (passed-next c.args.bytes.now c.args.is_rule cells lefts at _ new some (λ l is. c.pass_cell.ensures.left l is) (i.left lefts all));
      come = λ n all. all-set (λ (k : CellLeft). k.rows ≤ n) cells at new
          (subst (λ (m : ℕ). m ≤ n) (sym c.pass_cell.ensures.rows) (all-at (λ (k : CellLeft). k.rows ≤ n) cells at _ some (i.come n all)))
          (i.come n all);
      many = length-set cells at new ∙ i.many;
      room = c.pass_cell.ensures.room ∙ i.room;
    }

pub returns-clause-left : goal.returns-clause-left
returns-clause-left c = λ lefts all.
    let i = c.loop-at.invariant in
    let past : length c.loop-at.cells ≤ c.loop-at.at = omega (arith, c.loop-at-test.false, i.many) in
    passed-end c.args.bytes.now c.args.is_rule c.loop-at.cells lefts c.loop-at.at past (i.left lefts all)
