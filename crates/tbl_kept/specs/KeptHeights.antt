-- The heights of the rows of a table, as they are kept (Lesk, "Tbl": Format).
use Rattle.std.specs.Prelude.{◌≡◌, ℕ, suc, ◌-◌, Bool, List, [], ◌∷◌, drop, get_or, map, Option, None, Some}
use Rattle.tbl_format.specs.Format.{FormatRow}
use Rattle.tbl_format.specs.RowsServed.{row_at}
use Rattle.tbl_format.specs.declared.format.FormatKey.{FormatKey}
use Rattle.tbl_layout.specs.Entries.{Content, Element, Row as OneRow}
use Rattle.tbl_layout.specs.Heights.{cell_above, cell_below, height_in_front_of, heights_behind}
use Rattle.tbl_layout.specs.KeptEntries.{all_entries, no_entry}
use Rattle.tbl_layout.specs.declared.entry.Entry.{Entry}
use Rattle.tbl_kept.specs.Rows.{Command, KeptElement, Row, Rule, elements_of, fields_of}

-- rows with these heights
abbrev pub with_heights : List ℕ → List KeptElement → List KeptElement
with_heights heights [] = []
with_heights heights (Row keys rules height entries ∷ elements) =
    Row keys rules (get_or heights 0 1) entries ∷ with_heights (drop 1 heights) elements
with_heights heights (Rule sign ∷ elements) = Rule sign ∷ with_heights heights elements
with_heights heights (Command from to ∷ elements) = Command from to ∷ with_heights heights elements

-- and with those that they have in the table, behind a row of these keys, of whose cells so much is left, and so many rules
abbrev pub raised_behind : List ℕ → List FormatRow → Bool → ℕ → List FormatKey → List ℕ → ℕ → List KeptElement → List KeptElement
raised_behind bytes formats is_inside columns above left rules elements =
    with_heights (heights_behind is_inside columns above left rules (elements_of bytes formats elements)) elements

abbrev pub raised : List ℕ → List FormatRow → Bool → ℕ → List KeptElement → List KeptElement
raised bytes formats is_inside columns elements = raised_behind bytes formats is_inside columns [] [] 0 elements

-- the place of the first row among elements, of which the first has this one
abbrev pub first_row : ℕ → List KeptElement → Option ℕ
first_row at [] = None
first_row at (Row keys rules height entries ∷ elements) = Some at
first_row at (Rule sign ∷ elements) = first_row (suc at) elements
first_row at (Command from to ∷ elements) = first_row (suc at) elements

-- the fields of a row under these keys, and it alone
abbrev pub cells_of : List ℕ → ℕ → List FormatKey → List Entry → List Content
cells_of bytes bars keys entries = fields_of bytes (record { keys = keys; bars = bars }) entries

abbrev pub seen : List ℕ → ℕ → List FormatKey → List Entry → List Element
seen bytes bars keys entries = OneRow [] (record { keys = keys; bars = bars }) (cells_of bytes bars keys entries) ∷ []

-- a row of these keys is so high, of whose cells so much is left, and in front of those elements; and what is left of them behind it
pub record LeftBehind (here : List ℕ) (keys : List FormatKey) (elements : List Element) (height : ℕ) (after : List ℕ) : Type 0 where
  pub high : height ≡ height_in_front_of keys elements here
  pub left : after ≡ map (λ n. n - height) here

-- these are the keys and the fields of a row, and an element is no row
abbrev pub HasCells : List FormatRow → KeptElement → List FormatKey → List Entry → Type 0
HasCells formats (Row keys rules height entries) own fields = (own ≡ (row_at formats keys).keys) × (fields ≡ entries)
HasCells formats (Rule sign) own fields = ⊥
HasCells formats (Command from to) own fields = ⊥

abbrev pub IsNoRow : KeptElement → Type 0
IsNoRow (Row keys rules height entries) = ⊥
IsNoRow (Rule sign) = Unit {0}
IsNoRow (Command from to) = Unit {0}

-- what stands in a cell of a row
abbrev pub field_kept : List FormatRow → ℕ → KeptElement → Entry
field_kept formats cell (Row keys rules height entries) = get_or (all_entries (row_at formats keys) entries) cell no_entry
field_kept formats cell (Rule sign) = no_entry
field_kept formats cell (Command from to) = no_entry

-- the cell of the row above with which a cell of a row goes on, and that of the row below that goes on with it
abbrev pub cell_above_kept : List ℕ → List FormatRow → ℕ → KeptElement → KeptElement → Option ℕ
cell_above_kept bytes formats cell (Row above rules height entries) (Row keys own_rules own_height fields) =
    cell_above (row_at formats above).keys (row_at formats keys).keys (fields_of bytes (row_at formats keys) fields) cell
cell_above_kept bytes formats cell above element = None

abbrev pub cell_below_kept : List ℕ → List FormatRow → ℕ → KeptElement → KeptElement → Option ℕ
cell_below_kept bytes formats cell (Row keys rules height entries) (Row below own_rules own_height fields) =
    cell_below (row_at formats keys).keys (row_at formats below).keys (fields_of bytes (row_at formats below) fields) cell
cell_below_kept bytes formats cell element below = None
