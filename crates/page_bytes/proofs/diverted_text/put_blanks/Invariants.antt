use Rattle.std.proofs.Common.{◌≡◌, ◌+◌, ◌*◌, ◌++◌, length, take}
use Rattle.page_model.specs.Columns.{spaces}
use Rattle.page_model.specs.Diverted.{escaped}
use Rattle.page_bytes.proofs.diverted_text.put_blanks.Given as goal

abbrev pub invariant-loop-written : goal.invariant-loop-written
invariant-loop-written l = record {
  same : length l.buffer ≡ length l.initial.buffer;
  written : take (l.place + 2 * l.written) l.buffer ≡ take l.place l.initial.buffer ++ escaped (spaces l.written);
}
