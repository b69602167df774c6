use Rattle.std.proofs.Common.{◌≡◌, ◌≤◌, [], drop, length}
use Rattle.tbl_layout.specs.KeptEntries.{no_entry, said_by_key}
use Rattle.tbl_layout.specs.RuleKeys.{under_keys}
use Rattle.tbl_layout.proofs.rule_keys.filled_columns.Given as goal

abbrev pub decreases-loop-count : goal.decreases-loop-count
decreases-loop-count l = l.count

abbrev pub invariant-loop-count : goal.invariant-loop-count
invariant-loop-count l = record {
  none : under_keys said_by_key no_entry (drop l.count l.keys) ≡ [];
  within : l.count ≤ length l.keys;
}
