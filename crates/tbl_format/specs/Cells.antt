-- The cells of a row of a format, and the columns that they have (Lesk, "Tbl": Format).
use Rattle.std.specs.Prelude.{ℕ, zero, suc, nat_lt, ◌+◌, ◌-◌, ◌<◌, ◌==◌, Option, None, Some, if◌then◌else◌, List, [], ◌∷◌, length, map, take, drop, get_or, ⊤}
use Rattle.tbl_format.specs.Format.{columns_of_keys}
use Rattle.tbl_format.specs.declared.format.FormatKey.{FormatKey}

-- up to which column a cell of these keys goes, and behind which it begins: behind the last key each cell has one column
abbrev pub end_of : List FormatKey → ℕ → ℕ
end_of keys cell = get_or (map (λ k. k.end) keys) cell (columns_of_keys keys + (cell + 1 - length keys))

abbrev pub start_of : List FormatKey → ℕ → ℕ
start_of keys zero = 0
start_of keys (suc cell) = end_of keys cell

-- how many cells the keys of a row have in a table of so many columns
abbrev pub cell_count : List FormatKey → ℕ → ℕ
cell_count keys columns = length keys + (columns - columns_of_keys keys)

-- the cell that begins behind so many columns, if one does, where the first of these keys has a cell with a number that begins behind some
abbrev pub cell_from : ℕ → ℕ → List FormatKey → ℕ → Option ℕ
cell_from cell from [] column = if nat_lt column from then None else Some (cell + (column - from))
cell_from cell from (k ∷ keys) column = if column == from then Some cell else cell_from (suc cell) k.end keys column

abbrev pub cell_behind : List FormatKey → ℕ → Option ℕ
cell_behind keys column = cell_from 0 0 keys column

-- the cell of these keys that has the same columns as a cell of others
abbrev pub if_ends : List FormatKey → ℕ → Option ℕ → Option ℕ
if_ends keys end None = None
if_ends keys end (Some cell) = if end_of keys cell == end then Some cell else None

abbrev pub same_cell : List FormatKey → List FormatKey → ℕ → Option ℕ
same_cell keys others cell = if_ends keys (end_of others cell) (cell_behind keys (start_of others cell))

-- what is said of columns, in cells: the first of these keys has a cell that begins behind so many columns
abbrev pub by_cells : {A : Type 0} → ℕ → List FormatKey → List A → List (List A)
by_cells from [] columns = map (λ c. c ∷ []) columns
by_cells from (k ∷ keys) columns = take (k.end - from) columns ∷ by_cells k.end keys (drop (k.end - from) columns)

-- each cell has a column at least
abbrev pub AreCells : ℕ → List FormatKey → Type 0
AreCells from [] = ⊤
AreCells from (k ∷ keys) = (from < k.end) × AreCells k.end keys
