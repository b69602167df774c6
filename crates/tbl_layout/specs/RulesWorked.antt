-- Rows of rule keys, and columns, by which the definitions of rules are worked out.
use Rattle.std.specs.Prelude.{ℕ, suc, false, List, [], ◌∷◌}
use Rattle.tbl_format.specs.Format.{FormatRow, plain_key}
use Rattle.tbl_format.specs.declared.format.FormatKey.{FormatKey}
use Rattle.tbl_format.specs.declared.format.Key.{Key}
use Rattle.tbl_layout.specs.Columns.{needs_of}
use Rattle.tbl_layout.specs.declared.bars.Bars.{Bars}
use Rattle.tbl_layout.specs.declared.columns.Column.{Column}

-- a row of these keys, of which each has one column
abbrev pub keys_from : ℕ → List Key → List FormatKey
keys_from column [] = []
keys_from column (key ∷ keys) = plain_key 0 key column ∷ keys_from (suc column) keys

abbrev pub row_of : List Key → FormatRow
row_of keys = record { keys = keys_from 0 keys; bars = 0 }

-- a column that begins at a place, is so wide, and has so many bars behind it
abbrev pub column_at : ℕ → ℕ → ℕ → Column
column_at start width bars = record { needs = needs_of []; bars = bars; width = width; start = start }

-- a picture without bars
abbrev pub no_bars : Bars
no_bars = record { boxing = record { bars = 0; is_inside = false }; front = 0; has_any = false }
