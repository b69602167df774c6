use Rattle.std.proofs.Common.{◌≡◌, ◌+◌, ◌-◌, ◌≤◌, max}
use Rattle.tbl_format.specs.RowsServed.{all_rows}
use Rattle.tbl_lines.specs.PictureLines.{Neighbour, behind_rules, shown_at_edge}
use Rattle.tbl_picture.specs.RulesWalked.{rows_at}
use Rattle.tbl_picture.proofs.walk.beside.most_at_edge.Given as goal

abbrev pub invariant-loop-row : goal.invariant-loop-row
invariant-loop-row l = record {
  order : l.fn.rules.first ≤ l.row;
  until : l.row ≤ l.fn.rules.first + l.fn.rules.count;
  most : (line : Neighbour)
      → shown_at_edge l.boxing (behind_rules (rows_at (all_rows l.format.format) l.fn.rules.first (l.row - l.fn.rules.first)) line) l.at
      ≡ max l.most (shown_at_edge l.boxing line l.at);
}
