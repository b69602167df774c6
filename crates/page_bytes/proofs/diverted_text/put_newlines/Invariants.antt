use Rattle.std.proofs.Common.{◌≡◌, ◌+◌, ◌++◌, length, replicate, take}
use Rattle.page_bytes.proofs.diverted_text.put_newlines.Given as goal

abbrev pub invariant-loop-written : goal.invariant-loop-written
invariant-loop-written l = record {
  same : length l.buffer ≡ length l.initial.buffer;
  written : take (l.place + l.written) l.buffer ≡ take l.place l.initial.buffer ++ replicate l.written 10;
}
