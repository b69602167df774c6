use Rattle.std.proofs.Common.{suc, drop}
use Rattle.tbl_format.specs.RowsServed.{all_rows}
use Rattle.tbl_tall.proofs.lines_over.may_go_on.Given as goal
use Rattle.tbl_tall.specs.LinesOver.{NoneOver}

abbrev pub invariant-loop-at : goal.invariant-loop-at
invariant-loop-at l =
    NoneOver (all_rows l.format.format) (drop l.at l.rows.elements) → NoneOver (all_rows l.format.format) (drop (suc l.element) l.rows.elements)
