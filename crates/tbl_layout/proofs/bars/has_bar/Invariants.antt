use Rattle.std.proofs.Common.{◌≡◌, drop}
use Rattle.tbl_layout.specs.Widths.{has_bar}
use Rattle.tbl_layout.proofs.bars.has_bar.Given as goal

abbrev pub invariant-loop-column : goal.invariant-loop-column
invariant-loop-column l = has_bar (drop l.column-index l.asked) ≡ has_bar l.asked
