-- The values of the formatter's limits.
use Rattle.std.specs.Prelude.{ℕ}
use Rattle.roff_num.specs.declared.limit.Limit.{Limit}
use Rattle.roff_num.specs.declared.limit.Limit.TheVariants.{Bytes, Stack, Depth, Line, Traps, Diversions, Environments, Conditions, Output, Store, Names, Rows, Columns, Text, Width, TblBytes, Messages}
use Rattle.roff_num.specs.declared.limits.Limits.{Limits}

-- the value of a limit; 0 for those of tables, which never stop the formatter
abbrev pub value_of : Limits → Limit → ℕ
value_of l Bytes = l.bytes
value_of l Stack = l.stack
value_of l Depth = l.depth
value_of l Line = l.line
value_of l Traps = l.traps
value_of l Diversions = l.diversions
value_of l Environments = l.environments
value_of l Conditions = l.conditions
value_of l Output = l.output
value_of l Store = l.store
value_of l Names = l.names
value_of l Rows = 0
value_of l Columns = 0
value_of l Text = 0
value_of l Width = 0
value_of l TblBytes = 0
value_of l Messages = l.messages

-- the limits with one of them set; those of tables aren't here, and change nothing
abbrev pub limits_with : Limits → Limit → ℕ → Limits
limits_with l Bytes value = record l { bytes = value }
limits_with l Stack value = record l { stack = value }
limits_with l Depth value = record l { depth = value }
limits_with l Line value = record l { line = value }
limits_with l Traps value = record l { traps = value }
limits_with l Diversions value = record l { diversions = value }
limits_with l Environments value = record l { environments = value }
limits_with l Conditions value = record l { conditions = value }
limits_with l Output value = record l { output = value }
limits_with l Store value = record l { store = value }
limits_with l Names value = record l { names = value }
limits_with l Rows value = l
limits_with l Columns value = l
limits_with l Text value = l
limits_with l Width value = l
limits_with l TblBytes value = l
limits_with l Messages value = record l { messages = value }

-- the limits that hold where none is set: that on messages is the greatest that there is, above all that a run can tell
abbrev pub default_limits : Limits
default_limits = record {
  bytes = 50000000;
  store = 1048576;
  stack = 262144;
  depth = 200;
  names = 2000;
  line = 4096;
  traps = 64;
  output = 200000000;
  diversions = 16;
  environments = 32;
  conditions = 64;
  messages = 18446744073709551615;
}
