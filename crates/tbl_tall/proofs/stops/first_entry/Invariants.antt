use Rattle.std.proofs.Common.{◌≡◌, ℕ, ◌-◌, ◌≤◌, min, List, drop, length}
use Rattle.tbl_format.specs.Cells.{start_of}
use Rattle.tbl_format.specs.RowsServed.{all_rows}
use Rattle.tbl_kept.specs.Rows.{ElementLaid}
use Rattle.tbl_kept.specs.RowsLaying.{element_at}
use Rattle.tbl_lines.specs.CellsLeft.{all_keys, first_entry}
use Rattle.tbl_tall.proofs.stops.first_entry.Given as goal
use Rattle.tbl_tall.specs.StopsKept.{fields_kept, first_kept, format_kept}

abbrev pub decreases-loop-begin : goal.decreases-loop-begin
decreases-loop-begin l = l.most - l.begin

abbrev pub invariant-loop-begin : goal.invariant-loop-begin
invariant-loop-begin l = record {
  begins : l.begin ≡ start_of l.keys l.own;
  behind : l.from ≤ l.begin;
  value : (bytes : List ℕ) → ElementLaid bytes (all_rows l.format.format) (length l.rows.columns) (element_at l.rows.elements l.element)
      → min l.most (first_entry (length l.rows.columns) l.from l.begin
      (drop l.own (all_keys (length l.rows.columns) (format_kept (all_rows l.format.format) (element_at l.rows.elements l.element))))
      (drop l.own (fields_kept bytes (all_rows l.format.format) (element_at l.rows.elements l.element))))
      ≡ min l.most (first_kept bytes (all_rows l.format.format) (length l.rows.columns) l.from (element_at l.rows.elements l.element) l.cell);
}
