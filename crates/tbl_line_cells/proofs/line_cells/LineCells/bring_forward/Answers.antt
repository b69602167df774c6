use Rattle.std.proofs.Common.{ℕ, ◌-◌, List, ◌++◌, length, Some, refl, sym, ap, ◌∙◌, arith}
use Rattle.std.specs.List.{insert, swap}
use Rattle.std.proofs.lemmas.List.Edits.{length-swap}
use Rattle.tbl_line_cells.proofs.CellInserted.{swap-among}
use Rattle.tbl_line_cells.proofs.LineShown.{from-within, insert-last, one-behind, take-few}
use Rattle.tbl_line_cells.proofs.line_cells.LineCells.bring_forward.Goals as goal
use Rattle.tbl_line_cells.specs.declared.laid_cells.LaidCell.{LaidCell}
use Rattle.tbl_line_cells.specs.declared.line_cells.LineCells.{LineCells}

pub loop-at-preserved : goal.loop-at-preserved
loop-at-preserved c =
    let at = c.loop-at.at in
    let going = c.loop-at.invariant in
    record {
      line = ap (λ (s : LineCells). record s { cells = c.swap.new.self }) going.line;
      from = omega (arith, c.loop-at-test.true);
      within = omega (arith, going.within);
      count = ap (λ (xs : List LaidCell). length xs) c.swap.ensures.items ∙ length-swap c.loop-at.self.cells.items (at - 1) at ∙ going.count;
      capacity = c.swap.ensures.capacity ∙ going.capacity;
      cells = λ first cell rest is many.
          c.swap.ensures.items
          ∙ ap (λ (xs : List LaidCell). swap xs (at - 1) at) (going.cells first cell rest is many)
          ∙ swap-among at first rest cell (omega (arith, c.loop-at-test.true)) (omega (arith, going.within, many));
    }

pub loop-at-init : goal.loop-at-init
loop-at-init c = record {
  line = refl;
  from = from-within (Some c.args.text) _ c.args.cell c.place_of-place.result c.place_of-place.ensures (take-few _ _);
  within = omega arith;
  count = refl;
  capacity = refl;
  cells = λ first cell rest is many.
      is
      ∙ sym (one-behind first cell rest)
      ∙ ap (λ (xs : List LaidCell). xs ++ rest) (sym (insert-last first cell))
      ∙ ap (λ (n : ℕ). insert first n cell ++ rest) many;
}
