use Rattle.std.proofs.Common.{◌≡◌, ◌-◌, ◌++◌, length, take, drop}
use Rattle.tbl_layout.specs.Columns.{row_stands}
use Rattle.tbl_kept.specs.Rows.{height_of, held_by}
use Rattle.tbl_kept.specs.RowsLaying.{FieldsLie, block_stands, laid_row}
use Rattle.tbl_kept.proofs.CellSteps.{CellsLeft}
use Rattle.tbl_kept.proofs.RowsNext.{laid_from}
use Rattle.tbl_kept.proofs.held_columns.fill_fields.Given as goal

abbrev pub invariant-loop-at : goal.invariant-loop-at
invariant-loop-at l = record {
  entries : take l.at l.entries ++ laid_from l.bytes l.filling.bars l.filling.line_length l.filling.asked.now l.from (drop l.at l.keys) (drop l.at l.entries)
      ≡ laid_row l.bytes l.filling.bars l.filling.line_length l.filling.asked.now l.keys l.fn.entries;
  columns : take l.from l.columns ++ held_by (row_stands block_stands l.from (drop l.at l.keys)
      (laid_from l.bytes l.filling.bars l.filling.line_length l.filling.asked.now l.from (drop l.at l.keys) (drop l.at l.entries))) (drop l.from l.columns)
      ≡ held_by (row_stands block_stands 0 l.keys (laid_row l.bytes l.filling.bars l.filling.line_length l.filling.asked.now l.keys l.fn.entries)) l.fn.columns;
  height : l.height ≡ height_of (take l.at l.entries);
  lie : FieldsLie l.bytes (drop l.at l.entries);
  left : CellsLeft (length l.filling.asked.now) l.from (drop l.at l.keys) (length l.fn.entries - l.at);
  many : length l.entries ≡ length l.fn.entries;
  same : length l.columns ≡ length l.fn.columns;
  room : l.escapes.room ≡ l.fn.escapes.room;
}
