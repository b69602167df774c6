use Rattle.std.proofs.Common.{◌≡◌, ◌-◌, ◌≤◌, drop, length}
use Rattle.tbl_giving.specs.Giving.{CanGive, coming}
use Rattle.tbl_giving.proofs.giving.Giving.pass.Given as goal

abbrev pub invariant-loop-left : goal.invariant-loop-left
invariant-loop-left l = record {
  drops : coming l.text l.rows l.format l.self ≡ drop (l.count - l.left) (coming l.text l.rows l.format l.initial.self);
  can : CanGive l.text l.rows l.format l.self;
  room : l.self.columns ≡ l.initial.self.columns;
  within : l.left ≤ length (coming l.text l.rows l.format l.self);
  few : l.left ≤ l.count;
}

abbrev pub decreases-loop-left : goal.decreases-loop-left
decreases-loop-left l = l.left
