use Rattle.std.proofs.Common.{◌≡◌, ◌++◌, length, map, take, drop}
use Rattle.std.specs.List.{AllByRecursion}
use Rattle.tbl_format.specs.RowsServed.{all_rows}
use Rattle.tbl_kept.specs.Rows.{ElementKept, SameRoom}
use Rattle.tbl_kept.specs.RowsLaying.{all_held, laid_element}
use Rattle.tbl_kept.proofs.rows.TableRows.fill_rows.Given as goal

abbrev pub invariant-loop-at : goal.invariant-loop-at
invariant-loop-at l = record {
  elements : take l.at l.self.elements
      ++ map (laid_element l.bytes (all_rows l.format.format) l.filling.bars l.filling.line_length l.filling.asked.now) (drop l.at l.self.elements)
      ≡ map (laid_element l.bytes (all_rows l.format.format) l.filling.bars l.filling.line_length l.filling.asked.now) l.fn.self.elements;
  columns : all_held (all_rows l.format.format)
      (map (laid_element l.bytes (all_rows l.format.format) l.filling.bars l.filling.line_length l.filling.asked.now) (drop l.at l.self.elements)) l.self.columns
      ≡ all_held (all_rows l.format.format)
      (map (laid_element l.bytes (all_rows l.format.format) l.filling.bars l.filling.line_length l.filling.asked.now) l.fn.self.elements) l.fn.self.columns;
  kept : AllByRecursion (ElementKept l.bytes (all_rows l.format.format) (length l.fn.self.columns)) (drop l.at l.self.elements);
  wide : length l.self.columns ≡ length l.fn.self.columns;
  count : length l.self.elements ≡ length l.fn.self.elements;
  row : l.self.row ≡ l.fn.self.row;
  rooms : SameRoom l.fn.self l.self;
  room : l.escapes.room ≡ l.fn.escapes.room;
}
