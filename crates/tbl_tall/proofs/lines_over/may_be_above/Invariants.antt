use Rattle.std.proofs.Common.{drop}
use Rattle.tbl_tall.proofs.NoneBelow.{AllBegin}
use Rattle.tbl_tall.proofs.lines_over.may_be_above.Given as goal

abbrev pub invariant-loop-at : goal.invariant-loop-at
invariant-loop-at l = AllBegin (drop l.at l.entries) → AllBegin l.entries
