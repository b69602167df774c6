use Rattle.std.proofs.Common.{◌≡◌, ◌+◌, ◌*◌, ◌≤◌, ◌||◌, length, max, IfSome}
use Rattle.tbl_text.specs.BlockLines.{has_word, lines_of, widest}
use Rattle.tbl_text.specs.BlockPlaces.{IsWithin, PartLies, parts_at, parts_with}
use Rattle.tbl_text.specs.FilledLines.{left_with}
use Rattle.tbl_text.proofs.block_lines.fill.Given as goal

abbrev pub invariant-loop-next : goal.invariant-loop-next
invariant-loop-next l = record {
  next : IfSome l.next (λ n. PartLies l.bytes n.0 × IsWithin l.bytes n.1);
  lines : l.filled.lines + length (lines_of l.measure (parts_with l.bytes l.next)) ≡ length (lines_of l.measure (parts_at l.bytes l.fn.place));
  width : max l.filled.width (widest (lines_of l.measure (parts_with l.bytes l.next)))
      ≡ widest (lines_of l.measure (parts_at l.bytes l.fn.place));
  word : (l.filled.has_word || has_word (parts_with l.bytes l.next)) ≡ has_word (parts_at l.bytes l.fn.place);
  few : l.filled.lines + left_with l.bytes l.next ≤ length l.bytes + 1;
  narrow : l.filled.width ≤ max l.measure (2 * length l.bytes + 2);
  room : l.escapes.room ≡ l.initial.escapes.room;
}

abbrev pub decreases-loop-next : goal.decreases-loop-next
decreases-loop-next l = left_with l.bytes l.next
