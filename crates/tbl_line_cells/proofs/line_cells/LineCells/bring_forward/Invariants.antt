use Rattle.std.proofs.Common.{◌-◌, ◌≡◌, ◌≤◌, List, ◌∷◌, ◌++◌, length, vec_capacity}
use Rattle.std.specs.List.{insert}
use Rattle.tbl_line_cells.specs.declared.laid_cells.LaidCell.{LaidCell}
use Rattle.tbl_line_cells.proofs.line_cells.LineCells.bring_forward.Given as goal

abbrev pub invariant-loop-at : goal.invariant-loop-at
invariant-loop-at l = record {
  line : l.self ≡ record l.fn.self { cells = l.self.cells };
  from : l.place ≤ l.at;
  within : l.at ≤ l.cell;
  count : length l.self.cells.items ≡ length l.fn.self.cells.items;
  capacity : vec_capacity l.self.cells ≡ vec_capacity l.fn.self.cells;
  cells : (first : List LaidCell) (c : LaidCell) (rest : List LaidCell) → l.fn.self.cells.items ≡ first ++ c ∷ rest → length first ≡ l.cell
      → l.self.cells.items ≡ insert first l.at c ++ rest;
}

abbrev pub decreases-loop-at : goal.decreases-loop-at
decreases-loop-at l = l.at - l.place
