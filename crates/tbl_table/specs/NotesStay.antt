-- That the messages of a table so far stay.
use Rattle.std.specs.Prelude.{◌≡◌, ℕ, List, ◌++◌}
use Rattle.tbl_table.specs.Table.{TableRead, closed, ended, line_read, notes, told_at_cut}

-- a list begins with another one
pub record Begins {A : Type 0} (front whole : List A) : Type 0 where
  pub rest : List A
  pub is : whole ≡ front ++ rest

-- the messages of a table that is cut are a beginning of those of a longer one, of those where its last line is done, and of
-- those at its end
pub record NotesStay : Type 0 where
  pub behind_line : (line : ℕ) (bytes : List ℕ) (t : TableRead) → Begins (told_at_cut t) (told_at_cut (line_read line bytes t))
  pub closing : (t : TableRead) → Begins (told_at_cut t) (notes (closed t))
  pub at_end : (line line_length : ℕ) (t : TableRead) → Begins (told_at_cut t) (notes (ended line line_length t))
