use Rattle.std.proofs.Common.{◌≡◌}
use Rattle.tbl_text.specs.BlockLines.{behind_rest}
use Rattle.tbl_text.specs.BlockPlaces.{IsWithin, ReadsAll, left_at, parts_at}
use Rattle.tbl_line_cells.proofs.block_places.behind_words.Given as goal

abbrev pub invariant-loop-wider : goal.invariant-loop-wider
invariant-loop-wider l = record {
  within : IsWithin l.block l.at;
  all : ReadsAll l.fn.place → ReadsAll l.at;
  behind : behind_rest l.measure l.fn.width (parts_at l.block l.fn.place) ≡ behind_rest l.measure l.line (parts_at l.block l.at);
  room : l.escapes.room ≡ l.initial.escapes.room;
}

abbrev pub decreases-loop-wider : goal.decreases-loop-wider
decreases-loop-wider l = left_at l.block l.at
