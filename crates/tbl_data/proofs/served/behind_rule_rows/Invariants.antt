use Rattle.std.proofs.Common.{◌≡◌, ◌+◌, ◌-◌, ◌≤◌, drop, length}
use Rattle.tbl_format.specs.RowsServed.{all_rows}
use Rattle.tbl_layout.specs.RuleKeys.{rule_rows}
use Rattle.tbl_data.proofs.served.behind_rule_rows.Given as goal

abbrev pub invariant-loop-at : goal.invariant-loop-at
invariant-loop-at l = record {
  to : l.at ≤ length (all_rows l.format.format);
  rules : l.at + rule_rows (drop l.at (all_rows l.format.format)) ≡ l.first + rule_rows (drop l.first (all_rows l.format.format));
}

abbrev pub decreases-loop-at : goal.decreases-loop-at
decreases-loop-at l = l.count - l.at
