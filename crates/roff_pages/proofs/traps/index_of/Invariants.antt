use Rattle.std.proofs.Common.{◌≡◌, ◌+◌, length}
use Rattle.roff_pages.specs.Pages.FirstTraps.{first_index, is_sought}
use Rattle.roff_pages.proofs.traps.index_of.Given as goal

abbrev pub invariant-loop-trap : goal.invariant-loop-trap
invariant-loop-trap l = record {
  found : l.index + first_index (is_sought l.sought) l.rest ≡ first_index (is_sought l.sought) l.traps;
  passed : l.index + length l.rest ≡ length l.traps;
}

abbrev pub decreases-loop-trap : goal.decreases-loop-trap
decreases-loop-trap l = length l.rest
