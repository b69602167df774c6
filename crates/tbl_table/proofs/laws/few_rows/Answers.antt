use Rattle.tbl_table.proofs.RowsBehind.{rows-few, rows_behind_line}
use Rattle.tbl_table.proofs.laws.few_rows.Goals as goal

pub returns : goal.returns
returns c = record { behind_line = rows_behind_line; one = λ bytes t. rows-few t bytes }
