use Rattle.std.proofs.Common.{drop}
use Rattle.tbl_format.specs.RowsServed.{all_rows}
use Rattle.tbl_kept.specs.RowsLaying.{AllFormatsCount}
use Rattle.tbl_kept.proofs.rows.laying.has_free.Given as goal

abbrev pub invariant-loop-row : goal.invariant-loop-row
invariant-loop-row l = record {
  rest : AllFormatsCount (drop l.row (all_rows l.format.format)) → AllFormatsCount (all_rows l.format.format);
}
