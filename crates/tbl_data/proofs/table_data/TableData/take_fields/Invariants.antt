use Rattle.std.proofs.Common.{◌≡◌, ◌-◌}
use Rattle.tbl_data.proofs.LineFields.{FieldsSoFar}
use Rattle.tbl_data.proofs.table_data.TableData.take_fields.Given as goal

abbrev pub invariant-loop-text : goal.invariant-loop-text
invariant-loop-text l = record {
  text : l.text ≡ l.fn.text;
  so_far : FieldsSoFar l.fn.text l.line l.first l.at l.had_surplus l.fn.self l.self;
}

abbrev pub decreases-loop-text : goal.decreases-loop-text
decreases-loop-text l = l.line.to - l.at
