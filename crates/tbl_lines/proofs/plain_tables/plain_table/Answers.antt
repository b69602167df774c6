use Rattle.tbl_lines.proofs.PlainTables.{plain-table}
use Rattle.tbl_lines.proofs.plain_tables.plain_table.Goals as goal

pub returns : goal.returns
returns c = plain-table
