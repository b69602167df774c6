use Rattle.std.proofs.Common.{◌≡◌, ℕ, List, length, map, drop}
use Rattle.std.specs.List.{AllByRecursion}
use Rattle.tbl_format.specs.RowsServed.{all_rows}
use Rattle.tbl_format.specs.declared.format.FormatKey.{FormatKey}
use Rattle.tbl_layout.specs.Heights.{ends_in_front_of}
use Rattle.tbl_kept.specs.Rows.{elements_of}
use Rattle.tbl_kept.specs.RowsInside.{LiesIn, kept_in}
use Rattle.tbl_kept.proofs.rows.heights.cells_from.Given as goal

abbrev pub invariant-loop-at : goal.invariant-loop-at
invariant-loop-at l = record {
  lie : AllByRecursion (LiesIn (length l.fields.entries.now) (length (all_rows l.fields.format.now.format))) (drop l.at l.elements);
  rest : (bytes : List ℕ) (keys : List FormatKey) (cell : ℕ)
      → ends_in_front_of keys (elements_of bytes (all_rows l.fields.format.now.format) (map (kept_in l.fields.entries.now) (drop l.first l.elements))) cell
      ≡ ends_in_front_of keys (elements_of bytes (all_rows l.fields.format.now.format) (map (kept_in l.fields.entries.now) (drop l.at l.elements))) cell;
}
