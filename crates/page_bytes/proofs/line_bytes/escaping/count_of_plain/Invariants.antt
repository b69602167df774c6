use Rattle.std.proofs.Common.{◌≡◌, ◌≤◌, ◌-◌, ◌++◌, length, take, drop}
use Rattle.page_bytes.specs.DivertedBytes.{plain_in_front}
use Rattle.page_bytes.proofs.line_bytes.escaping.count_of_plain.Given as goal

abbrev pub invariant-loop-count : goal.invariant-loop-count
invariant-loop-count l = record {
  text : l.count ≤ length l.text;
  most : l.count ≤ l.most;
  plain : take l.count l.text ++ plain_in_front (drop l.count l.text) ≡ plain_in_front l.text;
}

abbrev pub decreases-loop-count : goal.decreases-loop-count
decreases-loop-count l = l.most - l.count
