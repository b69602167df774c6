use Rattle.std.proofs.Common.{◌≡◌, ◌+◌, ◌-◌, ◌≤◌, ◌++◌, drop, length, map, vec_len, vec_capacity}
use Rattle.tbl_layout.specs.KeptEntries.{all_entries}
use Rattle.tbl_picture.specs.Walks.{first_place}
use Rattle.tbl_picture.proofs.walk.push_places.Given as goal

abbrev pub invariant-loop-at : goal.invariant-loop-at
invariant-loop-at l = record {
  items : l.places.items ++ map first_place (drop l.at (all_entries (record { keys = l.keys; bars = 0 }) l.entries))
      ≡ l.fn.places.items ++ map first_place (all_entries (record { keys = l.keys; bars = 0 }) l.entries);
  few : vec_len l.places + (length (all_entries (record { keys = l.keys; bars = 0 }) l.entries) - l.at)
      ≤ vec_len l.fn.places + length (all_entries (record { keys = l.keys; bars = 0 }) l.entries);
  capacity : vec_capacity l.places ≡ vec_capacity l.fn.places;
}
