use Rattle.std.proofs.Common.{◌≡◌, ◌+◌, ◌-◌, ◌≤◌, ◌^◌, length, min}
use Rattle.page_model.specs.Diverted.{escaped}
use Rattle.page_bytes.proofs.diverted_title.kept_of_text.Given as goal

abbrev pub invariant-loop-byte : goal.invariant-loop-byte
invariant-loop-byte l = record {
  within : l.count ≤ 2 ^ 64 - 1;
  same : min (l.count + length (escaped l.rest)) (2 ^ 64 - 1) ≡ min (length (escaped l.text)) (2 ^ 64 - 1);
}

abbrev pub decreases-loop-byte : goal.decreases-loop-byte
decreases-loop-byte l = length l.rest
