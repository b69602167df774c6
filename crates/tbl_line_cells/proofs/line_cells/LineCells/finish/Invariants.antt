use Rattle.std.proofs.Common.{◌≡◌, ◌++◌, drop, length, map, vec_capacity}
use Rattle.tbl_line_cells.specs.LinesDrawn.{laid_keys}
use Rattle.tbl_line_cells.specs.declared.laid_cells.LaidCell.{LaidCell}
use Rattle.tbl_line_cells.proofs.line_cells.LineCells.finish.Given as goal

abbrev pub invariant-loop-at : goal.invariant-loop-at
invariant-loop-at l = record {
  line : l.self
      ≡ record l.fn.self { columns = l.self.columns; keys = l.self.keys; entries = l.self.entries; places = l.self.places };
  columns : l.self.columns.items ++ map (λ (c : LaidCell). c.column) (drop l.at l.fn.self.cells.items)
      ≡ map (λ (c : LaidCell). c.column) l.fn.self.cells.items;
  keys : l.self.keys.items ++ laid_keys l.at (drop l.at l.fn.self.cells.items) ≡ laid_keys 0 l.fn.self.cells.items;
  entries : l.self.entries.items ++ map (λ (c : LaidCell). c.entry) (drop l.at l.fn.self.cells.items)
      ≡ map (λ (c : LaidCell). c.entry) l.fn.self.cells.items;
  places : l.self.places.items ++ map (λ (c : LaidCell). c.place) (drop l.at l.fn.self.cells.items)
      ≡ map (λ (c : LaidCell). c.place) l.fn.self.cells.items;
  count_columns : length l.self.columns.items ≡ l.at;
  count_keys : length l.self.keys.items ≡ l.at;
  count_entries : length l.self.entries.items ≡ l.at;
  count_places : length l.self.places.items ≡ l.at;
  room_columns : vec_capacity l.self.columns ≡ vec_capacity l.fn.self.columns;
  room_keys : vec_capacity l.self.keys ≡ vec_capacity l.fn.self.keys;
  room_entries : vec_capacity l.self.entries ≡ vec_capacity l.fn.self.entries;
  room_places : vec_capacity l.self.places ≡ vec_capacity l.fn.self.places;
}
