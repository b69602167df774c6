use Rattle.std.proofs.Common.{◌≡◌, ◌-◌, ◌≤◌, length}
use Rattle.roff_lines.proofs.CopiedSteps.{Stands}
use Rattle.roff_lines.proofs.copying.copy_front.Given as goal

abbrev pub invariant-loop-copied : goal.invariant-loop-copied
invariant-loop-copied l = record {
  text : l.copied ≤ length l.text;
  same : length l.out ≡ length l.initial.out;
  written : Stands l.place l.text l.initial.out l.out l.copied;
}

abbrev pub decreases-loop-copied : goal.decreases-loop-copied
decreases-loop-copied l = l.count - l.copied
