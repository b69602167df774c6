use Rattle.std.proofs.Common.{◌≡◌, ◌≤◌, ◌++◌, ℕ, List, length, vec_capacity}
use Rattle.page_model.specs.Columns.{spaces, trimmed}
use Rattle.page_bytes.specs.Sinks.{Sunk, HoldsBack}
use Rattle.page_bytes.specs.TitleLeft.{title_of}
use Rattle.page_model.specs.Titles.{title_text}
use Rattle.page_bytes.proofs.block.Block.put_title.Given as goal

-- a beginning of a title was written but its end, which is held back, and the rest is to come
pub record Begun (whole to_come held : List ℕ) (old new : Sunk) : Type 0 where
  pub front : List ℕ
  pub split : front ++ to_come ≡ whole
  pub so_far : HoldsBack old new front held

abbrev pub invariant-loop-piece : goal.invariant-loop-piece
invariant-loop-piece g l = record {
  room : 8192 ≤ vec_capacity l.bytes;
  few : length l.bytes.items ≤ 8192;
  begun : Begun (trimmed (spaces l.fn.columns ++ title_text (title_of l.fn.title))) l.to_come l.bytes.items (g.O.ByteSink.sunk l.initial.out) (g.O.ByteSink.sunk l.out);
}

abbrev pub decreases-loop-piece : goal.decreases-loop-piece
decreases-loop-piece g l = length l.to_come
