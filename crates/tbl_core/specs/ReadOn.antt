-- Bytes of a line of the data that are read on, many at once.
use Rattle.std.specs.Prelude.{◌≡◌, ℕ, ◌+◌, ◌≤◌, List, length}
use Rattle.tbl_format.specs.declared.limits.TblLimits.{TblLimits}
use Rattle.tbl_core.specs.declared.place.Count.{Count}
use Rattle.tbl_core.specs.declared.place.Front.TheVariants.{Other}
use Rattle.tbl_core.specs.Lines.{line_counted}
use Rattle.tbl_core.specs.Machine.{Now, Place, Outside, RestOfStart, Inside, Standing, Reads, Over}
use Rattle.tbl_core.specs.Passing.{IsWithinLine}
use Rattle.tbl_table.specs.Reading.{Reading, all_read, bytes_read}
use Rattle.tbl_table.specs.Table.{columns}
use Rattle.tbl_data.specs.declared.phase.Phase.TheVariants.{InData}

-- how the run stands behind bytes of a line of a table
abbrev pub line_read_in : List ℕ → Count → Place → Now
line_read_in bytes count (Outside front) = record { count = count; place = Outside front }
line_read_in bytes count RestOfStart = record { count = count; place = RestOfStart }
line_read_in bytes count (Inside front r) =
    record { count = line_counted (length bytes) count; place = Inside front (all_read bytes r) }

abbrev pub line_read : List ℕ → Standing → Standing
line_read bytes (Reads now) = Reads (line_read_in bytes now.count now.place)
line_read bytes (Over limit line) = Over limit line

-- so many bytes of the data, one at least, meet no limit
pub record HasRoom (l : TblLimits) (taken : ℕ) (r : Reading) (n : ℕ) : Type 0 where
  pub some : 1 ≤ n
  pub bytes : taken + n ≤ l.bytes
  pub phase : r.table.phase ≡ InData
  pub columns : columns r.table ≤ l.columns
  pub text : length (bytes_read r) + n ≤ l.text

-- these bytes are of a line of the data that can't be the table's end, and meet no limit
pub record ReadsLine (l : TblLimits) (s : Standing) (bytes : List ℕ) : Type 0 where
  pub count : Count
  pub reading : Reading
  pub is : s ≡ Reads (record { count = count; place = Inside Other reading })
  pub line : IsWithinLine bytes
  pub room : HasRoom l count.taken reading (length bytes)
