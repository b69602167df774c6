use Rattle.std.proofs.Common.{◌≡◌, ◌-◌, length, drop}
use Rattle.tbl_layout.specs.KeptEntries.{stands_of}
use Rattle.tbl_layout.specs.Spans.{all_fitted, wide_entries}
use Rattle.tbl_kept.proofs.CellSteps.{CellsLeft}
use Rattle.tbl_kept.proofs.held_columns.fit_fields.Given as goal

abbrev pub invariant-loop-at : goal.invariant-loop-at
invariant-loop-at l = record {
  done : all_fitted l.bars l.asked (wide_entries stands_of l.from (drop l.at l.keys) (drop l.at l.entries)) l.columns
      ≡ all_fitted l.bars l.asked (wide_entries stands_of 0 l.keys l.entries) l.fn.columns;
  left : CellsLeft (length l.fn.columns) l.from (drop l.at l.keys) (length l.keys - l.at);
  same : length l.columns ≡ length l.fn.columns;
}
