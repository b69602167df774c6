use Rattle.std.proofs.Common.{◌≡◌, ◌+◌, ◌-◌, ◌≤◌, ◌++◌, length}
use Rattle.page_model.specs.Columns.{spaces, trimmed}
use Rattle.page_bytes.specs.TitleLeft.{title_of}
use Rattle.page_model.specs.Titles.{title_text}
use Rattle.page_bytes.proofs.block.within.length_of_title.Given as goal

abbrev pub invariant-loop-piece : goal.invariant-loop-piece
invariant-loop-piece l = record {
  room : l.left ≤ l.fn.room;
  whole : l.fn.room - l.left + length l.to_come ≡ length (trimmed (spaces l.fn.columns ++ title_text (title_of l.fn.title)));
}

abbrev pub decreases-loop-piece : goal.decreases-loop-piece
decreases-loop-piece l = length l.to_come
