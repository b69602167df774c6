use Rattle.std.proofs.Common.{◌≡◌, ◌≤◌, min, length}
use Rattle.page_model.specs.Stops.{next_stop}
use Rattle.roff_pages.proofs.traps.next_stop.Given as goal

abbrev pub invariant-loop-trap : goal.invariant-loop-trap
invariant-loop-trap l = record {
  so_far : min l.stop (next_stop l.length l.place l.rest) ≡ next_stop l.length l.place l.traps;
  within : l.stop ≤ l.length;
}

abbrev pub decreases-loop-trap : goal.decreases-loop-trap
decreases-loop-trap l = length l.rest
