use Rattle.std.proofs.Common.{length, ◌-◌, ◌≡◌}
use Rattle.tbl_text.proofs.RunsOfBytes.{Reads}
use Rattle.tbl_text.proofs.block_words.next_word.Given as goal

abbrev pub invariant-loop-at : goal.invariant-loop-at
invariant-loop-at l = record {
  reads : Reads l.line l.from l.at l.gap l.run;
  room : l.escapes.room ≡ l.initial.escapes.room;
}

abbrev pub decreases-loop-at : goal.decreases-loop-at
decreases-loop-at l = length l.line - l.at
