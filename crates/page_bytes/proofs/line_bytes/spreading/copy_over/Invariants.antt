use Rattle.std.proofs.Common.{◌≡◌, ◌+◌, ◌++◌, length, map, take}
use Rattle.page_bytes.specs.LineBytes.Fronts.{written_mark}
use Rattle.page_bytes.proofs.line_bytes.spreading.copy_over.Given as goal

abbrev pub invariant-loop-taken : goal.invariant-loop-taken
invariant-loop-taken l = record {
  same : length l.out ≡ length l.initial.out;
  written : take (l.start + l.taken) l.out ≡ take l.start l.initial.out ++ map written_mark (take l.taken l.text);
}
