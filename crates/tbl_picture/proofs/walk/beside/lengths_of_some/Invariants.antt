use Rattle.std.proofs.Common.{◌+◌, ◌≤◌}
use Rattle.tbl_format.specs.RowsServed.{all_rows}
use Rattle.tbl_picture.proofs.RuleLengths.{LengthsTo}
use Rattle.tbl_picture.proofs.walk.beside.lengths_of_some.Given as goal

abbrev pub invariant-loop-at : goal.invariant-loop-at
invariant-loop-at l = record {
  until : l.at ≤ l.fn.rules.first + l.fn.rules.count;
  so_far : LengthsTo (all_rows l.format.format) l.fn.rules.first l.fn.rules.count l.at l.lengths;
}
