use Rattle.std.proofs.Common.{◌-◌, ◌≤◌}
use Rattle.roff_lines.specs.Env.Tells.{TellsOf}
use Rattle.roff_lines.proofs.env.Env.sentences_in_front.Given as goal

abbrev pub invariant-loop-count : goal.invariant-loop-count
invariant-loop-count l = record {
  few : l.told ≤ l.count;
  told : TellsOf l.count l.bytes l.told l.fn.self l.self;
}

abbrev pub decreases-loop-count : goal.decreases-loop-count
decreases-loop-count l = l.count - l.told
