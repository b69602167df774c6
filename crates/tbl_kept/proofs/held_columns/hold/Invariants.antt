use Rattle.std.proofs.Common.{◌≡◌, ◌-◌, ◌++◌, length, take, drop}
use Rattle.tbl_layout.specs.Columns.{row_stands}
use Rattle.tbl_layout.specs.KeptEntries.{stands_of}
use Rattle.tbl_kept.specs.Rows.{held_by}
use Rattle.tbl_kept.specs.RowsLaying.{AreOpened}
use Rattle.tbl_kept.proofs.CellSteps.{CellsLeft}
use Rattle.tbl_kept.proofs.held_columns.hold.Given as goal

abbrev pub invariant-loop-at : goal.invariant-loop-at
invariant-loop-at l = record {
  done : take l.from l.columns ++ held_by (row_stands stands_of l.from (drop l.at l.keys) (drop l.at l.entries)) (drop l.from l.columns)
      ≡ held_by (row_stands stands_of 0 l.keys l.entries) l.fn.columns;
  opened : AreOpened (drop l.at l.entries);
  left : CellsLeft (length l.fn.columns) l.from (drop l.at l.keys) (length l.entries - l.at);
  same : length l.columns ≡ length l.fn.columns;
}
