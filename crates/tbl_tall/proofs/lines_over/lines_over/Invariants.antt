use Rattle.std.proofs.Common.{◌≡◌, ℕ, suc, ◌+◌, ◌*◌, ◌<◌, ◌≤◌, List, drop, length}
use Rattle.tbl_format.specs.RowsServed.{all_rows}
use Rattle.tbl_kept.specs.RowsLaying.{element_at}
use Rattle.tbl_tall.proofs.lines_over.lines_over.Given as goal
use Rattle.tbl_tall.specs.LinesOver.{lines_kept}
use Rattle.tbl_tall.specs.RowsNext.{end_kept}

abbrev pub invariant-loop-at : goal.invariant-loop-at
invariant-loop-at l = record {
  total : (bytes : List ℕ)
      → l.lines + lines_kept bytes (all_rows l.format.format) l.is_inside (element_at l.rows.elements l.row) l.own l.rules (drop l.at l.rows.elements)
      ≡ lines_kept bytes (all_rows l.format.format) l.is_inside (element_at l.rows.elements l.element) l.cell 0 (drop (suc l.element) l.rows.elements);
  row : l.row < length l.rows.elements;
  small : l.own < 4611686018427387904;
  end : l.end ≡ end_kept (all_rows l.format.format) (element_at l.rows.elements l.row) l.own;
  rules : l.rules ≤ l.at;
  most : l.lines ≤ l.at * 4611686018427387904;
}
