use Rattle.std.proofs.Common.{◌≡◌}
use Rattle.tbl_text.specs.Items.{all_ended}
use Rattle.tbl_text.proofs.Endings.{endings}
use Rattle.tbl_text.proofs.items.end_before.Given as goal

abbrev pub invariant-loop-next : goal.invariant-loop-next
invariant-loop-next l = record {
  read : all_ended l.next (l.found, l.escapes.escapes) ≡ all_ended l.next (l.fn.found, l.fn.escapes.escapes);
  room : l.escapes.room ≡ l.fn.escapes.room;
}

abbrev pub decreases-loop-next : goal.decreases-loop-next
decreases-loop-next l = endings l.escapes.escapes
