use Rattle.std.proofs.Common.{length, ◌-◌, ◌≡◌, ◌++◌, take, drop}
use Rattle.tbl_core.specs.Passing.{IsWithinLine, before_table}
use Rattle.tbl_core.proofs.tables.passing.before_table.Given as goal

abbrev pub invariant-loop-count : goal.invariant-loop-count
invariant-loop-count l = record {
  so_far : take l.count l.line ++ before_table l.front (drop l.count l.line) ≡ before_table l.initial.front l.line;
  within : IsWithinLine (drop l.count l.line);
}

abbrev pub decreases-loop-count : goal.decreases-loop-count
decreases-loop-count l = length l.line - l.count
