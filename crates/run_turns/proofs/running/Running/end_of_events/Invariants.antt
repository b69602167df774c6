use Rattle.std.specs.Prelude.{◌-◌, ◌≤◌}
use Rattle.run_turns.proofs.running.Running.end_of_events.Given as goal

abbrev pub invariant-loop-index : goal.invariant-loop-index
invariant-loop-index l = l.first ≤ l.index

abbrev pub decreases-loop-index : goal.decreases-loop-index
decreases-loop-index l = 36 - l.index
