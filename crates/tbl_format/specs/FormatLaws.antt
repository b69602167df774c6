-- What holds of the rows of formats, however they are read (Lesk, "Tbl": Format).
use Rattle.std.specs.Prelude.{ℕ, zero, suc, ◌≤◌, List, [], ◌∷◌, get_or, length, map}
use Rattle.std.specs.List.{AllByRecursion}
use Rattle.tbl_format.specs.Cells.{AreCells, start_of}
use Rattle.tbl_format.specs.Format.{Format, FormatRow, columns_of_keys, format_read, further, no_format}
use Rattle.tbl_format.specs.RowsServed.{all_rows}
use Rattle.tbl_format.specs.declared.format.Asked.{Asked}
use Rattle.tbl_format.specs.declared.format.FormatKey.{FormatKey}

-- the formats that lines make, each further one behind `.T&`
pub data IsRead : Format → Type 0 where
  NoByte : IsRead no_format
  Line : (f : Format) (line : List ℕ) → IsRead f → IsRead (format_read f line)
  Further : (f : Format) → IsRead f → IsRead (further f)

-- how many bars these keys have in front of one of them, or behind the last
abbrev pub bars_among : List FormatKey → ℕ → ℕ → ℕ
bars_among [] last zero = last
bars_among [] last (suc cell) = 0
bars_among (k ∷ keys) last zero = k.bars
bars_among (k ∷ keys) last (suc cell) = bars_among keys last cell

-- the most that formats ask for in front of a column
abbrev pub most_beside : ℕ → List Asked → ℕ → ℕ
most_beside front asked zero = front
most_beside front asked (suc column) = get_or (map (λ (a : Asked). a.bars) asked) column 0

-- each of these keys has a cell, whose columns the table has, and in front of none of them, or behind the last, do they have more bars
-- than are asked for
pub record IsHeld (front : ℕ) (asked : List Asked) (keys : List FormatKey) (bars : ℕ) : Type 0 where
  pub cells : AreCells 0 keys
  pub short : columns_of_keys keys ≤ length asked
  pub most : (cell : ℕ) → bars_among keys bars cell ≤ most_beside front asked (start_of keys cell)

-- all rows of the formats are held
abbrev pub RowHeld : ℕ → List Asked → FormatRow → Type 0
RowHeld front asked row = IsHeld front asked row.keys row.bars

abbrev pub AreHeld : Format → Type 0
AreHeld f = AllByRecursion (RowHeld f.front f.asked) (all_rows f)
