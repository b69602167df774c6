use Rattle.std.proofs.Common.{length, ◌≡◌, ◌≤◌, IfSome}
use Rattle.tbl_text.specs.BlockPlaces.{left_from, lines_from}
use Rattle.tbl_text.specs.BlockWords.{parts_behind}
use Rattle.tbl_text.proofs.block_parts.part_of_lines.Given as goal

abbrev pub invariant-loop-next : goal.invariant-loop-next
invariant-loop-next l = record {
  within : IfSome l.next (λ at. at ≤ length l.bytes);
  same : parts_behind l.before (lines_from l.bytes l.fn.line) ≡ parts_behind l.before (lines_from l.bytes l.next);
  less : left_from l.bytes l.next ≤ left_from l.bytes l.fn.line;
  room : l.escapes.room ≡ l.initial.escapes.room;
}

abbrev pub decreases-loop-next : goal.decreases-loop-next
decreases-loop-next l = left_from l.bytes l.next
