use Rattle.std.proofs.Common.{◌≡◌, ◌-◌, ◌≤◌, drop, length}
use Rattle.tbl_text.specs.Items.{items}
use Rattle.tbl_text.specs.Measuring.{notes_from}
use Rattle.tbl_text.proofs.measure.next_note.Given as goal

abbrev pub invariant-loop-at : goal.invariant-loop-at
invariant-loop-at l = record {
  notes : notes_from l.fn.at (items (drop l.fn.at l.text)) ≡ notes_from l.at (items (drop l.at l.text));
  further : l.fn.at ≤ l.at;
  room : l.escapes.room ≡ l.fn.escapes.room;
}

abbrev pub decreases-loop-at : goal.decreases-loop-at
decreases-loop-at l = length l.text - l.at
