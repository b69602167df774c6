-- A table that is being read, and what is kept of it.
use Rattle.std.specs.Prelude.{ℕ, nat_lt, List, [], ◌∷◌, ◌++◌, Option, Some, None, if◌then◌else◌}
use Rattle.roff_num.specs.declared.limit.Limit.{Limit}
use Rattle.roff_num.specs.declared.limit.Limit.TheVariants.{Rows, Width}
use Rattle.input_source.specs.Bytes.{newline}
use Rattle.tbl_format.specs.declared.limits.TblLimits.{TblLimits}
use Rattle.tbl_options.specs.declared.message.Told.{Told}
use Rattle.tbl_table.specs.Table.{TableRead, no_lines, line_read, closed, rows, notes, ended, width, output}

-- the table of its complete lines, their bytes, and those of the line that is begun
pub record Reading : Type 0 where
  pub table : TableRead
  pub read : List ℕ
  pub line : List ℕ

-- directly behind the `.TS` line
abbrev pub begun : Reading
begun = record { table = no_lines; read = []; line = [] }

-- a byte of the line
abbrev pub byte_read : ℕ → Reading → Reading
byte_read b r = record r { line = r.line ++ b ∷ [] }

-- more bytes of the line
abbrev pub all_read : List ℕ → Reading → Reading
all_read bytes r = record r { line = r.line ++ bytes }

-- the newline behind this line
abbrev pub line_ended : ℕ → Reading → Reading
line_ended line r = record { table = line_read line r.line r.table; read = r.read ++ r.line ++ newline ∷ []; line = [] }

-- all its bytes
abbrev pub bytes_read : Reading → List ℕ
bytes_read r = r.read ++ r.line

-- the table at the input's end: a line that is begun is one
abbrev pub last_read : ℕ → Reading → TableRead
last_read line r = elim r.line [ [] ↦ closed r.table | b ∷ bytes ↦ closed (line_read line (b ∷ bytes) r.table) ]

-- the limit that a table meets at its end: on its rows, those counted there too, or on the columns of its picture
abbrev pub limit_of : TblLimits → ℕ → TableRead → Option Limit
limit_of l line_length t =
    if nat_lt l.rows (rows t) then Some Rows
    else if nat_lt l.width (width line_length t) then Some Width
    else None

abbrev pub limit_at_end : TblLimits → ℕ → TableRead → Option Limit
limit_at_end l line_length t = limit_of l line_length (closed t)

-- what stands in the output for the bytes of its lines
abbrev pub output_or_read : Option (List ℕ) → List ℕ → List ℕ
output_or_read None bytes = bytes
output_or_read (Some bytes) others = bytes

-- What is kept of a table: the limits, what is being read, the messages to tell, and the bytes to give.
pub record KeptTable : Type 0 where
  pub limits : TblLimits
  pub reading : Reading
  pub told : List Told
  pub to_come : List ℕ

-- before the first line
abbrev pub kept_nothing : TblLimits → KeptTable
kept_nothing l = record { limits = l; reading = begun; told = []; to_come = [] }

-- the messages at its `.TE` line
abbrev pub told_behind : Option Limit → ℕ → ℕ → TableRead → List Told
told_behind (Some limit) number line_length t = notes (closed t)
told_behind None number line_length t = notes (ended number line_length t)

abbrev pub told_at_end : TblLimits → ℕ → ℕ → TableRead → List Told
told_at_end l number line_length t = told_behind (limit_at_end l line_length t) number line_length t

-- the bytes that are given there: those of the picture, or of the lines as they were read, and the `.TE` line as far as it
-- was read
abbrev pub given_behind : Option Limit → ℕ → ℕ → Reading → List ℕ
given_behind (Some limit) number line_length r = []
given_behind None number line_length r = output_or_read (output line_length (ended number line_length r.table)) r.read ++ r.line

abbrev pub given_at_end : TblLimits → ℕ → ℕ → Reading → List ℕ
given_at_end l number line_length r = given_behind (limit_at_end l line_length r.table) number line_length r
