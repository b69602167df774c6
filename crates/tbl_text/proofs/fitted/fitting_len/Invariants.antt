use Rattle.std.proofs.Common.{◌≡◌, ◌-◌, length}
use Rattle.tbl_text.proofs.FittedSoFar.{IsFitted}
use Rattle.tbl_text.proofs.fitted.fitting_len.Given as goal

abbrev pub invariant-loop-at : goal.invariant-loop-at
invariant-loop-at l = record {
  fits : IsFitted l.columns l.text l.at l.left;
  room : l.escapes.room ≡ l.fn.escapes.room;
}

abbrev pub decreases-loop-at : goal.decreases-loop-at
decreases-loop-at l = length l.text - l.at
