-- What is kept of a table that passes as it was read.
use Rattle.std.specs.Prelude.{length}
use Rattle.tbl_data.specs.declared.table_data.OpenBlock.TheVariants.{Nothing}
use Rattle.tbl_data.specs.declared.table_data.TableData.{TableData}
use Rattle.tbl_kept.specs.Rows.{cleared, with_columns}

-- what stands in it is given up, and its columns are empty
abbrev pub without_rows : TableData → TableData
without_rows d = record d { rows = with_columns (length d.format.format.asked) (cleared d.rows); «open» = Nothing }
