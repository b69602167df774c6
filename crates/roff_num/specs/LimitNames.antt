-- The names of the limits, as messages and options print them.
use Rattle.std.specs.Prelude.{ℕ, List, codes}
use Rattle.roff_num.specs.declared.limit.Limit.{Limit}
use Rattle.roff_num.specs.declared.limit.Limit.TheVariants.{Bytes, Stack, Depth, Line, Traps, Diversions, Environments, Conditions, Output, Store, Names, Rows, Columns, Text, Width, TblBytes, Messages}

-- what a limit is called; the bytes that are read before tables are formatted are called as those of the formatter
abbrev pub limit_name : Limit → List ℕ
limit_name Bytes = codes "bytes"
limit_name Stack = codes "stack"
limit_name Depth = codes "depth"
limit_name Line = codes "line"
limit_name Traps = codes "traps"
limit_name Diversions = codes "diversions"
limit_name Environments = codes "environments"
limit_name Conditions = codes "conditions"
limit_name Output = codes "output"
limit_name Store = codes "store"
limit_name Names = codes "names"
limit_name Rows = codes "rows"
limit_name Columns = codes "columns"
limit_name Text = codes "text"
limit_name Width = codes "width"
limit_name TblBytes = codes "bytes"
limit_name Messages = codes "messages"
