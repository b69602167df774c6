use Rattle.std.proofs.Common.{◌≤◌, ◌-◌}
use Rattle.input_ahead.specs.InputAhead.Calls.{GivesFront}
use Rattle.input_ahead.proofs.input_ahead.InputAhead.give_front.Given as goal

abbrev pub invariant-loop-count : goal.invariant-loop-count
invariant-loop-count g l = record {
  gives : GivesFront l.initial.self l.self l.initial.escapes l.escapes l.count;
  few : l.count ≤ l.most;
}

abbrev pub decreases-loop-count : goal.decreases-loop-count
decreases-loop-count g l = l.most - l.count
