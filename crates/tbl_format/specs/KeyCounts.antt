-- What counts of the keys of a format, as far as it was read.
use Rattle.std.specs.Prelude.{◌≡◌, ◌≤◌, ◌+◌, ℕ, length, nat_lt}
use Rattle.tbl_format.specs.Format.{Format, columns_of_keys, has_some}
use Rattle.tbl_format.specs.declared.format.FormatPlace.{FormatPlace}
use Rattle.tbl_format.specs.declared.format.FormatPlace.TheVariants.{AtEnd, AtFault, InRows}
use Rattle.tbl_format.specs.declared.format.RowPart.{RowPart}
use Rattle.tbl_format.specs.declared.format.RowPart.TheVariants.{Brackets, WidthDigits}
use Rattle.tbl_format.specs.declared.key_count.KeyCount.{KeyCount}

-- it counts what is counted of this format
pub record Counts (f : Format) (c : KeyCount) : Type 0 where
  pub place : f.place ≡ c.place
  pub is_further : has_some f.earlier ≡ c.is_further
  pub has_row : has_some f.rows ≡ c.has_row
  pub begun : has_some f.row ≡ nat_lt 0 c.row
  pub row : columns_of_keys f.row ≡ c.row
  pub bars : f.bars ≡ c.bars
  pub columns : length f.asked ≡ c.columns

-- a width that is being read begins on its line, of which so many bytes were read, and each bracket that is open in it has one
abbrev pub IsOnLine : ℕ → RowPart → Type 0
IsOnLine len (WidthDigits from) = from ≤ len
IsOnLine len (Brackets from depth) = from + depth ≤ len
IsOnLine len part = Unit {0}

abbrev pub StandsOnLine : ℕ → FormatPlace → Type 0
StandsOnLine len (InRows part) = IsOnLine len part
StandsOnLine len AtEnd = Unit {0}
StandsOnLine len AtFault = Unit {0}

-- no row has more columns than the table, and the reading stands on its line
pub record IsCount (len : ℕ) (c : KeyCount) : Type 0 where
  pub row : c.row ≤ c.columns
  pub place : StandsOnLine len c.place
