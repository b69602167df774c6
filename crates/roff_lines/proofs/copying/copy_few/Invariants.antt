use Rattle.std.proofs.Common.{◌≡◌, ◌+◌, ◌++◌, length, take}
use Rattle.roff_lines.proofs.copying.copy_few.Given as goal

abbrev pub invariant-loop-copied : goal.invariant-loop-copied
invariant-loop-copied l = record {
  same : length l.out ≡ length l.initial.out;
  written : take (l.place + l.copied) l.out ≡ take l.place l.initial.out ++ take l.copied l.text;
}
