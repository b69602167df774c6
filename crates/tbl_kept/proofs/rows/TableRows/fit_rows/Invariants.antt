use Rattle.std.proofs.Common.{◌≡◌, length, drop}
use Rattle.std.specs.List.{AllByRecursion}
use Rattle.tbl_format.specs.RowsServed.{all_rows}
use Rattle.tbl_kept.specs.Rows.{SameRoom}
use Rattle.tbl_kept.specs.RowsLaying.{ElementWithin, fitted_rows}
use Rattle.tbl_kept.proofs.rows.TableRows.fit_rows.Given as goal

abbrev pub invariant-loop-at : goal.invariant-loop-at
invariant-loop-at l = record {
  columns : fitted_rows (all_rows l.format.format) l.bars l.format.format.asked (drop l.at l.self.elements) l.self.columns
      ≡ fitted_rows (all_rows l.format.format) l.bars l.format.format.asked l.fn.self.elements l.fn.self.columns;
  kept : AllByRecursion (ElementWithin (all_rows l.format.format)) (drop l.at l.self.elements);
  wide : length l.self.columns ≡ length l.fn.self.columns;
  elements : l.self.elements ≡ l.fn.self.elements;
  row : l.self.row ≡ l.fn.self.row;
  rooms : SameRoom l.fn.self l.self;
}
