use Rattle.std.proofs.Common.{◌≡◌, ◌+◌, ◌-◌, ◌≤◌, ◌++◌, drop, length, vec_len, vec_capacity}
use Rattle.tbl_picture.proofs.walk.lines.push_all.Given as goal

abbrev pub invariant-loop-at : goal.invariant-loop-at
invariant-loop-at l = record {
  items : l.places.items ++ drop l.at l.more ≡ l.fn.places.items ++ l.more;
  few : vec_len l.places + (length l.more - l.at) ≤ vec_len l.fn.places + length l.more;
  capacity : vec_capacity l.places ≡ vec_capacity l.fn.places;
}
