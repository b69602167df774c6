use Rattle.std.proofs.Common.{drop}
use Rattle.tbl_format.specs.RowsServed.{all_rows}
use Rattle.tbl_kept.specs.RowsLaying.{NoFormatsGoOn}
use Rattle.tbl_kept.proofs.rows.laying.has_above.Given as goal

abbrev pub invariant-loop-row : goal.invariant-loop-row
invariant-loop-row l = record {
  rest : NoFormatsGoOn (drop l.row (all_rows l.format.format)) → NoFormatsGoOn (all_rows l.format.format);
}
