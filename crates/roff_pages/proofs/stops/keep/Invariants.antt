use Rattle.std.proofs.Common.{ℕ, ◌-◌, ◌≤◌, List, length, vec_capacity}
use Rattle.page_model.specs.declared.trap.Trap.{Trap}
use Rattle.roff_pages.specs.Pages.KnownStops.{IsNext, AreNext}
use Rattle.roff_pages.proofs.stops.keep.Given as goal

abbrev pub invariant-loop-beyond : goal.invariant-loop-beyond
invariant-loop-beyond l = record {
  next : (lines : ℕ) (traps : List Trap) → AreNext lines traps l.fn.beyond.items → IsNext lines l.found.from traps l.found.stop
      → AreNext lines traps l.beyond.items;
  few : length l.beyond.items ≤ l.most;
  room : l.most ≤ vec_capacity l.beyond;
  capacity : vec_capacity l.fn.beyond ≤ vec_capacity l.beyond;
  wanted : l.wanted ≤ l.most;
}

abbrev pub decreases-loop-beyond : goal.decreases-loop-beyond
decreases-loop-beyond l = l.wanted - length l.beyond.items
