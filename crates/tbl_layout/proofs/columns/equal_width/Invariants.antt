use Rattle.std.proofs.Common.{◌≡◌, max, drop}
use Rattle.tbl_layout.specs.Columns.{equal_widths, greatest}
use Rattle.tbl_layout.proofs.columns.equal_width.Given as goal

abbrev pub invariant-loop-at : goal.invariant-loop-at
invariant-loop-at l = max l.width (greatest (equal_widths (drop l.at l.asked) (drop l.at l.columns))) ≡ greatest (equal_widths l.asked l.columns)
