use Rattle.std.proofs.Common.{◌≡◌, ◌+◌, ◌<◌, ◌≤◌, ℕ, suc, Bool, List, length, map, set, sym, ap, subst, ◌∙◌, arith, length-set}
use Rattle.std.proofs.lemmas.Bool.Decides.{nat_tests}
use Rattle.tbl_tall.proofs.CellsNext.{all-at}
use Rattle.tbl_tall.proofs.CutsMarked.{mark-end, mark-free, mark-next, marked-is, no-flags}
use Rattle.tbl_tall.proofs.RowsPassed.{all-set}
use Rattle.tbl_tall.proofs.tall_row.counting.mark_cut.Goals as goal
use Rattle.tbl_line_cells.specs.KeptCells.{AllLeft}
use Rattle.tbl_tall.specs.CutsMarked.{marked, marked_at}
use Rattle.tbl_line_cells.specs.declared.cells.CellLeft.{CellLeft}

pub loop-at-preserved : goal.loop-at-preserved
loop-at-preserved c =
    let i = c.loop-at.invariant in
    let at = c.loop-at.at in
    let cells = c.loop-at.cells in
    let flags = c.args.flags.now in
    let new = c.with_mark.result in
    let next : suc at ≡ at + 1 = omega arith in
    let some : at < length cells = omega (arith, c.loop-at-test.true, i.many) in
    record {
      left = λ bytes lefts all. subst (λ (n : ℕ). AllLeft bytes (set cells at new) (marked_at flags n lefts)) next
          (mark-next bytes flags cells lefts at _ new some (λ l is. marked-is bytes flags _ new l c.with_mark.ensures is) (i.left bytes lefts all));
      come = λ n all. all-set (λ (k : CellLeft). k.rows ≤ n) cells at new
          (subst (λ (m : ℕ). m ≤ n) (sym (ap (λ (k : CellLeft). k.rows) c.with_mark.ensures))
          (all-at (λ (k : CellLeft). k.rows ≤ n) cells at _ some (i.come n all)))
          (i.come n all);
      many = length-set cells at new ∙ i.many;
    }

pub returns-then-is_empty-clause-left : goal.returns-then-is_empty-clause-left
returns-then-is_empty-clause-left c = λ bytes lefts all.
    let none : length c.args.flags.now ≡ 0 = grind (arith, nat_tests, c.if-is_empty.ensures) in
    subst (λ (flags : List Bool). AllLeft bytes c.args.cells.now (map (marked flags) lefts)) (no-flags c.args.flags.now none)
    (mark-free bytes c.args.cells.now lefts all)

pub returns-clause-left : goal.returns-clause-left
returns-clause-left c = λ bytes lefts all.
    let i = c.loop-at.invariant in
    let past : length c.loop-at.cells ≤ c.loop-at.at = omega (arith, c.loop-at-test.false, i.many) in
    mark-end bytes c.args.flags.now c.loop-at.cells lefts c.loop-at.at past (i.left bytes lefts all)
