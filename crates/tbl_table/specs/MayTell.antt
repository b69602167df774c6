-- How many messages a table has at the most, as far as it is read.
use Rattle.std.specs.Prelude.{ℕ, ◌+◌, length, Option, None, Some}
use Rattle.tbl_kept.specs.Joined.{Joined}
use Rattle.tbl_layout.specs.Texts.{texts_among, texts_of}
use Rattle.tbl_data.specs.DataRead.{fields_with_block}
use Rattle.tbl_data.specs.TableRead.{RowBegun, TableRead}
use Rattle.tbl_data.specs.declared.phase.Phase.{Phase}
use Rattle.tbl_data.specs.declared.phase.Phase.TheVariants.{AtHead, Bad, InData, InFormat}

-- of a line that goes on, one for each byte, and one for what the line is
abbrev pub line_may_tell : Option Joined → ℕ
line_may_tell None = 0
line_may_tell (Some j) = length j.bytes + 1

-- of a fault, if there was none: behind it nothing is told
abbrev pub fault_may_come : Phase → ℕ
fault_may_come AtHead = 1
fault_may_come InFormat = 1
fault_may_come InData = 1
fault_may_come Bad = 0

-- those that it has, and these
unfoldable pub may_tell : TableRead → ℕ
may_tell t = length t.notes + line_may_tell t.pending + fault_may_come t.phase

-- the texts of a row that is begun
abbrev pub texts_begun : Option RowBegun → ℕ
texts_begun None = 0
texts_begun (Some row) = texts_among (fields_with_block row)

-- how many entries may be cut: each text, and one for each byte of a line that goes on, and for what the line is
unfoldable pub may_cut : TableRead → ℕ
may_cut t = texts_of t.body + texts_begun t.begun + line_may_tell t.pending
