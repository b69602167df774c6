-- The values of the limits of tables.
use Rattle.std.specs.Prelude.{ℕ}
use Rattle.roff_num.specs.declared.limit.Limit.{Limit}
use Rattle.roff_num.specs.declared.limit.Limit.TheVariants.{Bytes, Stack, Depth, Line, Traps, Diversions, Environments, Conditions, Output, Store, Names, Rows, Columns, Text, Width, TblBytes, Messages}
use Rattle.tbl_format.specs.declared.limits.TblLimits.{TblLimits}

-- the value of a limit; 0 for those of the formatter alone, which never stop tables
abbrev pub tbl_value_of : TblLimits → Limit → ℕ
tbl_value_of l Bytes = 0
tbl_value_of l Stack = 0
tbl_value_of l Depth = 0
tbl_value_of l Line = 0
tbl_value_of l Traps = 0
tbl_value_of l Diversions = 0
tbl_value_of l Environments = 0
tbl_value_of l Conditions = 0
tbl_value_of l Output = l.output
tbl_value_of l Store = 0
tbl_value_of l Names = 0
tbl_value_of l Rows = l.rows
tbl_value_of l Columns = l.columns
tbl_value_of l Text = l.text
tbl_value_of l Width = l.width
tbl_value_of l TblBytes = l.bytes
tbl_value_of l Messages = l.messages

-- the limits with one of them set; those of the formatter alone aren't here, and change nothing
abbrev pub tbl_limits_with : TblLimits → Limit → ℕ → TblLimits
tbl_limits_with l Bytes value = l
tbl_limits_with l Stack value = l
tbl_limits_with l Depth value = l
tbl_limits_with l Line value = l
tbl_limits_with l Traps value = l
tbl_limits_with l Diversions value = l
tbl_limits_with l Environments value = l
tbl_limits_with l Conditions value = l
tbl_limits_with l Output value = record l { output = value }
tbl_limits_with l Store value = l
tbl_limits_with l Names value = l
tbl_limits_with l Rows value = record l { rows = value }
tbl_limits_with l Columns value = record l { columns = value }
tbl_limits_with l Text value = record l { text = value }
tbl_limits_with l Width value = record l { width = value }
tbl_limits_with l TblBytes value = record l { bytes = value }
tbl_limits_with l Messages value = record l { messages = value }

-- the limits that hold where none is set: that on messages is the greatest that there is, above all that a run can tell
abbrev pub default_tbl_limits : TblLimits
default_tbl_limits = record { rows = 5000; columns = 40; text = 262144; width = 4096; bytes = 50000000; output = 200000000; messages = 18446744073709551615 }
