-- Which row of the format serves a row of data (Lesk, "Tbl": Format).
use Rattle.std.specs.Prelude.{ℕ, nat_lt, ◌+◌, List, [], ◌∷◌, ◌++◌, get_or, if◌then◌else◌}
use Rattle.tbl_format.specs.Format.{Format, FormatRow}
use Rattle.tbl_format.specs.declared.format.FormatKey.{FormatKey}

-- the row of the format that follows one of so many, by its place: the last serves all further rows of data
abbrev pub next_of : ℕ → ℕ → ℕ
next_of keys count = if nat_lt (keys + 1) count then keys + 1 else keys

-- the rows of all formats that are whole
abbrev pub all_rows : Format → List FormatRow
all_rows f = f.earlier ++ f.rows

-- no keys, and the row of some formats at a place
abbrev pub no_keys : FormatRow
no_keys = record { keys = []; bars = 0 }

abbrev pub row_at : List FormatRow → ℕ → FormatRow
row_at formats at = get_or formats at no_keys

abbrev pub first_format : List FormatRow → List FormatKey
first_format [] = []
first_format (row ∷ formats) = row.keys
