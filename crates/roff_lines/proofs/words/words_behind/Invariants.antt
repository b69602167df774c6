use Rattle.std.proofs.Common.{◌-◌, ◌≤◌}
use Rattle.roff_lines.specs.Env.Tells.{ReadsWords}
use Rattle.roff_lines.proofs.words.words_behind.Given as goal

abbrev pub invariant-loop-from : goal.invariant-loop-from
invariant-loop-from l = record {
  few : l.from.read ≤ l.most;
  reads : ReadsWords l.bytes l.from.read l.from.told l.from.words;
}

abbrev pub decreases-loop-from : goal.decreases-loop-from
decreases-loop-from l = l.most - l.from.read
