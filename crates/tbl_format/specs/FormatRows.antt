-- What is kept of a format while it is read.
use Rattle.std.specs.Prelude.{◌≡◌, ℕ, ◌+◌, ◌<◌, ◌≤◌, List, [], ◌∷◌, length, take, drop, vec_capacity}
use Rattle.std.specs.List.{AllByRecursion}
use Rattle.tbl_format.specs.Cells.{AreCells}
use Rattle.tbl_format.specs.Format.{Format, FormatRow, columns_of_keys}
use Rattle.roff_num.specs.Lists.{last_end, parts_ending}
use Rattle.tbl_format.specs.Parts.{EndWithin}
use Rattle.tbl_format.specs.declared.format.FormatKey.{FormatKey}
use Rattle.tbl_format.specs.declared.format_rows.FormatRows.TheInside.{Inside}

-- the formats, and how many keys and columns there is room for
pub record KeptFormat : Type 0 where
  pub format : Format
  pub key_room : ℕ
  pub column_room : ℕ

-- it keeps another one
abbrev pub keeping : KeptFormat → Format → KeptFormat
keeping k f = record k { format = f }

-- the keys of rows
abbrev pub keys_of : List FormatRow → ℕ
keys_of [] = 0
keys_of (row ∷ rows) = length row.keys + keys_of rows

-- the keys of all formats, those of the row begun too
abbrev pub key_count : Format → ℕ
key_count f = keys_of f.earlier + (keys_of f.rows + length f.row)

-- rows of these keys, with these bars behind the last of each
abbrev pub rows_with : List (List FormatKey) → List ℕ → List FormatRow
rows_with [] bars = []
rows_with (keys ∷ rows) [] = record { keys = keys; bars = 0 } ∷ rows_with rows []
rows_with (keys ∷ rows) (n ∷ bars) = record { keys = keys; bars = n } ∷ rows_with rows bars

-- all rows that are whole
abbrev pub rows_kept : List FormatKey → List ℕ → List ℕ → List FormatRow
rows_kept keys ends bars = rows_with (parts_ending keys 0 ends) bars

abbrev pub kept_by : Inside → KeptFormat
kept_by a = record {
  format = record {
    earlier = take a.first (rows_kept a.keys.items a.ends.items a.row_bars.items);
    rows = drop a.first (rows_kept a.keys.items a.ends.items a.row_bars.items);
    row = drop (last_end 0 a.ends.items) a.keys.items;
    bars = a.bars;
    asked = a.asked.items;
    front = a.front;
    place = a.place;
  };
  key_room = a.key_room;
  column_room = a.column_room;
}

-- the cells of a row have no more columns than the table
pub record AreWithin (columns : ℕ) (keys : List FormatKey) : Type 0 where
  pub cells : AreCells 0 keys
  pub short : columns_of_keys keys ≤ columns

-- the room is reserved, no row that is whole is empty, and none has more columns than there are
pub record IsSound (a : Inside) : Type 0 where
  pub keys_reserved : a.key_room ≤ vec_capacity a.keys
  pub ends_reserved : a.key_room ≤ vec_capacity a.ends
  pub bars_reserved : a.key_room ≤ vec_capacity a.row_bars
  pub columns_reserved : a.column_room ≤ vec_capacity a.asked
  pub keys_within : length a.keys.items ≤ a.key_room
  pub ends : EndWithin (length a.keys.items) 0 a.ends.items
  pub bars : length a.row_bars.items ≡ length a.ends.items
  pub first : a.first ≤ length a.ends.items
  pub small : a.column_room < 4294967296
  pub asked_within : length a.asked.items ≤ a.column_room
  pub whole : AllByRecursion (AreWithin (length a.asked.items)) (parts_ending a.keys.items 0 a.ends.items)
  pub row : AreWithin (length a.asked.items) (drop (last_end 0 a.ends.items) a.keys.items)
