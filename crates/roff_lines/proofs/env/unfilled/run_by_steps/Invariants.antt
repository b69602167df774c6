use Rattle.std.proofs.Common.{◌≡◌, ◌-◌, ◌<◌, ◌≤◌, take}
use Rattle.page_model.specs.Glyphs.{gaps_in}
use Rattle.roff_lines.specs.Env.Tells.{IsRun}
use Rattle.roff_lines.proofs.env.unfilled.run_by_steps.Given as goal

abbrev pub invariant-loop-read : goal.invariant-loop-read
invariant-loop-read l = record {
  some : 0 < l.read;
  few : l.read ≤ l.count;
  run : IsRun l.bytes l.read;
  gaps : gaps_in (take l.read l.bytes) ≡ l.gaps;
  less : l.gaps ≤ l.read;
}

abbrev pub decreases-loop-read : goal.decreases-loop-read
decreases-loop-read l = l.count - l.read
