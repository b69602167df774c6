-- How many messages and rows a table has.
use Rattle.std.specs.Prelude.{ℕ, ◌+◌, ◌≤◌, List, length}
use Rattle.tbl_table.specs.MayTell.{may_cut, may_tell}
use Rattle.tbl_table.specs.Table.{TableRead, closed, ended, line_read, notes, rows, rows_behind, told_at_cut}

-- a line adds one for each of its bytes and its newline at the most, and as many texts; the table's end adds one, and one for each text
pub record NotesAreFew : Type 0 where
  pub behind_line : (line : ℕ) (bytes : List ℕ) (t : TableRead) → may_tell (line_read line bytes t) ≤ may_tell t + length bytes + 1
  pub cut_behind_line : (line : ℕ) (bytes : List ℕ) (t : TableRead) → may_cut (line_read line bytes t) ≤ may_cut t + length bytes + 1
  pub closing : (t : TableRead) → length (notes (closed t)) ≤ may_tell t
  pub at_end : (line line_length : ℕ) (t : TableRead) → length (notes (ended line line_length t)) ≤ may_tell t + may_cut t + 1
  pub at_cut : (t : TableRead) → length (told_at_cut t) ≤ may_tell t

-- and a row or a command at the most, which is counted in front of it
pub record RowsAreFew : Type 0 where
  pub behind_line : (line : ℕ) (bytes : List ℕ) (t : TableRead) → rows (line_read line bytes t) ≤ rows_behind t bytes
  pub one : (bytes : List ℕ) (t : TableRead) → rows_behind t bytes ≤ rows t + 1
