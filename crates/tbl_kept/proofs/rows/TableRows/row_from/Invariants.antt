use Rattle.std.proofs.Common.{◌≡◌, drop}
use Rattle.tbl_kept.specs.KeptHeights.{first_row}
use Rattle.tbl_kept.proofs.rows.TableRows.row_from.Given as goal

abbrev pub invariant-loop-at : goal.invariant-loop-at
invariant-loop-at l = record {
  rest : first_row l.first (drop l.first l.self.elements) ≡ first_row l.at (drop l.at l.self.elements);
}
