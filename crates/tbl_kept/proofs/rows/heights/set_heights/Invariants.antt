use Rattle.std.proofs.Common.{◌≡◌, ◌≤◌, ℕ, List, ◌++◌, length, map, take, drop}
use Rattle.std.specs.List.{AllByRecursion}
use Rattle.tbl_format.specs.Cells.{AreCells}
use Rattle.tbl_format.specs.RowsServed.{all_rows}
use Rattle.tbl_kept.specs.KeptHeights.{raised, raised_behind}
use Rattle.tbl_kept.specs.Rows.{ElementLaid}
use Rattle.tbl_kept.specs.RowsInside.{HaveRoom, LieBetween, kept_in}
use Rattle.tbl_kept.proofs.rows.heights.set_heights.Given as goal

abbrev pub invariant-loop-at : goal.invariant-loop-at
invariant-loop-at l = record {
  rest : drop l.at l.elements ≡ drop l.at l.fn.elements;
  many : length l.elements ≡ length l.fn.elements;
  cells : AreCells 0 l.pass.above.now;
  rules : l.pass.rules ≤ l.at;
  raised : (bytes : List ℕ) → AllByRecursion (ElementLaid bytes (all_rows l.fields.format.now.format) (length l.fields.format.now.format.asked)) (map (kept_in l.fields.entries.now) l.fn.elements)
      → map (kept_in l.fields.entries.now) (take l.at l.elements)
      ++ raised_behind bytes (all_rows l.fields.format.now.format) l.is_inside (length l.fields.format.now.format.asked) l.pass.above.now l.lefts.above.items l.pass.rules
      (map (kept_in l.fields.entries.now) (drop l.at l.elements))
      ≡ raised bytes (all_rows l.fields.format.now.format) l.is_inside (length l.fields.format.now.format.asked) (map (kept_in l.fields.entries.now) l.fn.elements);
  places : (from to : ℕ) → LieBetween from l.fn.elements to → LieBetween from l.elements to;
  room : (n : ℕ) → HaveRoom n l.fn.lefts → HaveRoom n l.lefts;
}
