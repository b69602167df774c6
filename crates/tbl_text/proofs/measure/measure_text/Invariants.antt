use Rattle.std.proofs.Common.{◌≡◌, ◌-◌, length}
use Rattle.tbl_text.proofs.Measured.{IsMeasured}
use Rattle.tbl_text.proofs.measure.measure_text.Given as goal

abbrev pub invariant-loop-measuring : goal.invariant-loop-measuring
invariant-loop-measuring l = record {
  read : IsMeasured l.text l.measuring;
  room : l.escapes.room ≡ l.fn.escapes.room;
}

abbrev pub decreases-loop-measuring : goal.decreases-loop-measuring
decreases-loop-measuring l = length l.text - l.measuring.at
