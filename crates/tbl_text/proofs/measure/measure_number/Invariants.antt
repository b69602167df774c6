use Rattle.std.proofs.Common.{◌≡◌, ◌-◌, length}
use Rattle.tbl_text.proofs.Numbers.{IsNumber}
use Rattle.tbl_text.proofs.measure.measure_number.Given as goal

abbrev pub invariant-loop-measuring : goal.invariant-loop-measuring
invariant-loop-measuring l = record {
  read : IsNumber l.text l.measuring l.splitting;
  room : l.escapes.room ≡ l.fn.escapes.room;
}

abbrev pub decreases-loop-measuring : goal.decreases-loop-measuring
decreases-loop-measuring l = length l.text - l.measuring.at
