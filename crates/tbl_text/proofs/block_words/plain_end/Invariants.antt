use Rattle.std.proofs.Common.{length, ◌-◌, ◌≡◌, ◌≤◌, true, slice_range}
use Rattle.std.specs.List.{list_all}
use Rattle.tbl_text.specs.BlockWords.{is_plain}
use Rattle.tbl_text.proofs.block_words.plain_end.Given as goal

abbrev pub invariant-loop-at : goal.invariant-loop-at
invariant-loop-at l = record {
  order : l.from ≤ l.at;
  within : l.at ≤ length l.line;
  plain : list_all is_plain (slice_range l.line l.from l.at) ≡ true;
}

abbrev pub decreases-loop-at : goal.decreases-loop-at
decreases-loop-at l = length l.line - l.at
