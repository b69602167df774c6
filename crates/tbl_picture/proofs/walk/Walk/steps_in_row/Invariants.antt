use Rattle.std.proofs.Common.{◌≡◌, ℕ, List, false, if◌then◌else◌}
use Rattle.tbl_picture.specs.Walks.{IsUnderWay, RowSoFar, lent_row, row_steps}
use Rattle.tbl_picture.proofs.walk.Walk.steps_in_row.Given as goal

abbrev pub invariant-loop-has_ended : goal.invariant-loop-has_ended
invariant-loop-has_ended l = record {
  steps : (frame : List ℕ) → RowSoFar l.has_ended frame (lent_row l.row) l.initial.self l.self l.initial.pieces l.pieces;
  under : l.has_ended ≡ false → IsUnderWay l.self.next (lent_row l.row) l.self;
  room : l.self.room ≡ l.initial.self.room;
  escapes : l.escapes.room ≡ l.initial.escapes.room;
}

abbrev pub decreases-loop-has_ended : goal.decreases-loop-has_ended
decreases-loop-has_ended l = if l.has_ended then 0 else row_steps l.self.next (lent_row l.row) l.self
