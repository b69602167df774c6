use Rattle.std.proofs.Common.{◌≡◌, ◌+◌, ◌++◌, length, take}
use Rattle.page_model.specs.Columns.{spaces}
use Rattle.page_bytes.proofs.line_bytes.spreading.write_blanks.Given as goal

abbrev pub invariant-loop-written : goal.invariant-loop-written
invariant-loop-written l = record {
  same : length l.out ≡ length l.initial.out;
  written : take (l.place + l.written) l.out ≡ take l.place l.initial.out ++ spaces l.written;
}
