use Rattle.std.proofs.Common.{◌≡◌, ◌+◌, ◌-◌, ◌^◌, ◌≤◌, min, drop, map}
use Rattle.tbl_layout.specs.Columns.{total}
use Rattle.tbl_layout.specs.declared.columns.Column.{Column}
use Rattle.tbl_layout.proofs.columns.total_width.Given as goal

abbrev pub invariant-loop-column : goal.invariant-loop-column
invariant-loop-column l = record {
  counted : min (l.width + total (map (λ (c : Column). c.width) (drop l.column-index l.columns))) (2 ^ 64 - 1) ≡ min (total (map (λ (c : Column). c.width) l.columns)) (2 ^ 64 - 1);
  most : l.width ≤ 2 ^ 64 - 1;
}
