use Rattle.std.proofs.Common.{◌≡◌, ℕ, ◌+◌, ◌≤◌, List, drop, is_some}
use Rattle.tbl_format.specs.RowsServed.{all_rows}
use Rattle.tbl_layout.specs.Entries.{Element}
use Rattle.tbl_tall.proofs.tall_row.TallRow.come_to_row.Given as goal
use Rattle.tbl_tall.specs.LinesOver.{heights_kept}
use Rattle.tbl_tall.specs.RowsNext.{RulesThen, boxed_behind}

abbrev pub invariant-loop-at : goal.invariant-loop-at
invariant-loop-at l = record {
  then_come : (bytes : List ℕ) (all : List Element)
      → RulesThen l.before all (boxed_behind bytes (all_rows l.format.format) l.boxing (is_some l.above) l.before (drop l.first l.rows.elements))
      → RulesThen l.rules all (boxed_behind bytes (all_rows l.format.format) l.boxing (is_some l.above) l.rules (drop l.at l.rows.elements));
  heights : heights_kept (drop l.first l.rows.elements) ≡ heights_kept (drop l.at l.rows.elements);
  few : l.rules ≤ l.at + 1;
  same : l.self ≡ l.fn.self;
}
