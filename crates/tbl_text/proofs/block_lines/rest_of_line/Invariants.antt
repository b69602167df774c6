use Rattle.std.proofs.Common.{◌≡◌, ◌≤◌, max}
use Rattle.tbl_text.specs.BlockLines.{behind_rest, rest_of_line, width_behind}
use Rattle.tbl_text.specs.BlockPlaces.{IsWithin, left_at, parts_at}
use Rattle.tbl_text.proofs.block_lines.rest_of_line.Given as goal

abbrev pub invariant-loop-wider : goal.invariant-loop-wider
invariant-loop-wider l = record {
  within : IsWithin l.bytes l.at;
  less : left_at l.bytes l.at ≤ left_at l.bytes l.fn.place;
  width : width_behind l.fn.width (rest_of_line l.measure l.fn.width (parts_at l.bytes l.fn.place))
      ≡ width_behind l.line (rest_of_line l.measure l.line (parts_at l.bytes l.at));
  behind : behind_rest l.measure l.fn.width (parts_at l.bytes l.fn.place) ≡ behind_rest l.measure l.line (parts_at l.bytes l.at);
  narrow : l.line ≤ max l.fn.width l.measure;
  room : l.escapes.room ≡ l.initial.escapes.room;
}

abbrev pub decreases-loop-wider : goal.decreases-loop-wider
decreases-loop-wider l = left_at l.bytes l.at
