use Rattle.std.proofs.Common.{◌≡◌, ◌+◌, ◌++◌, length, take, replicate}
use Rattle.roff_lines.proofs.copying.put_times.Given as goal

abbrev pub invariant-loop-put : goal.invariant-loop-put
invariant-loop-put l = record {
  same : length l.out ≡ length l.initial.out;
  written : take (l.place + l.put) l.out ≡ take l.place l.initial.out ++ replicate l.put l.byte;
}
