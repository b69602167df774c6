use Rattle.std.proofs.Common.{◌≡◌, ◌≤◌, ◌++◌, length, map, take, drop}
use Rattle.tbl_layout.specs.Columns.{total}
use Rattle.tbl_layout.specs.Spans.{spread_over}
use Rattle.tbl_layout.specs.declared.columns.Column.{Column}
use Rattle.tbl_layout.proofs.spread.spread_over.Given as goal

abbrev pub invariant-loop-at : goal.invariant-loop-at
invariant-loop-at l = record {
  done : take l.at l.columns ++ spread_over l.more l.count l.at (drop l.at l.columns) ≡ spread_over l.more l.count 0 l.fn.columns;
  same : length l.columns ≡ length l.fn.columns;
  room : total (map (λ (c : Column). c.width) (drop l.at l.columns)) ≤ total (map (λ (c : Column). c.width) l.fn.columns);
}
