use Rattle.std.proofs.Common.{length, ◌-◌, ◌≡◌, drop}
use Rattle.tbl_core.specs.Passing.{StaysOutside, front_over}
use Rattle.tbl_core.proofs.tables.passing.front_over.Given as goal

abbrev pub invariant-loop-count : goal.invariant-loop-count
invariant-loop-count l = record {
  so_far : front_over l.front (drop l.count l.bytes) ≡ front_over l.initial.front l.bytes;
  stays : StaysOutside l.front (drop l.count l.bytes);
}

abbrev pub decreases-loop-count : goal.decreases-loop-count
decreases-loop-count l = length l.bytes - l.count
