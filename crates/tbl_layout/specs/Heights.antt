-- How high the rows of a table are, with cells that go on with the cells above them (Lesk, "Tbl": Format).
use Rattle.std.specs.Prelude.{◌≡◌, ℕ, zero, suc, ◌+◌, ◌-◌, max, Bool, true, false, not, ◌&&◌, ◌==◌, List, [], ◌∷◌, get_or, length, map, Option, None, Some, is_some, if◌then◌else◌}
use Rattle.tbl_format.specs.Cells.{cell_count, same_cell}
use Rattle.tbl_format.specs.Format.{FormatRow}
use Rattle.tbl_format.specs.declared.format.FormatKey.{FormatKey}
use Rattle.tbl_format.specs.declared.format.Key.{Key}
use Rattle.tbl_layout.specs.Columns.{greatest}
use Rattle.tbl_layout.specs.Entries.{Above, Command, Content, Element, Repeated, Row, Rule, Ruled, Short, field_at, key_at, lines_of_field}

-- whether a field is that of the cell above
abbrev pub is_above : Content → Bool
is_above Above = true
is_above field = false

-- the cell of a row of these keys with which a cell of the row below goes on, if it does: it has the same columns
abbrev pub cell_above : List FormatKey → List FormatKey → List Content → ℕ → Option ℕ
cell_above above keys fields cell = if is_above (field_at fields cell) then same_cell above keys cell else None

-- the cell of the row below that goes on with a cell of a row of these keys, if one does
abbrev pub if_above : List Content → Option ℕ → Option ℕ
if_above fields None = None
if_above fields (Some cell) = if is_above (field_at fields cell) then Some cell else None

abbrev pub cell_below : List FormatKey → List FormatKey → List Content → ℕ → Option ℕ
cell_below keys below fields cell = if_above fields (same_cell below keys cell)

-- how many lines a field has in its cell
abbrev pub lines_in : Key → Content → ℕ
lines_in key (Ruled sign) = 1
lines_in key Short = 1
lines_in key (Repeated b) = 1
lines_in key field = length (lines_of_field key field)

-- what is left of the lines of the cells of a row, in front of which so many lines of rules stand: of those that go on with one above, of
-- which so much is left behind its row, and of those that begin
abbrev pub left_of_cell : Option ℕ → List ℕ → ℕ → ℕ → ℕ
left_of_cell None left rules lines = lines
left_of_cell (Some other) left rules lines = get_or left other 0 - rules

abbrev pub lefts_from : List FormatKey → List ℕ → ℕ → FormatRow → List Content → ℕ → ℕ → List ℕ
lefts_from above left rules format fields cell zero = []
lefts_from above left rules format fields cell (suc count) =
    left_of_cell (cell_above above format.keys fields cell) left rules (lines_in (key_at format cell) (field_at fields cell))
    ∷ lefts_from above left rules format fields (suc cell) count

abbrev pub lefts : ℕ → List FormatKey → List ℕ → ℕ → FormatRow → List Content → List ℕ
lefts columns above left rules format fields = lefts_from above left rules format fields 0 (cell_count format.keys columns)

-- whether a cell of a row of these keys ends with it: none of the next row, if there is one, goes on with it
abbrev pub ends_in_front_of : List FormatKey → List Element → ℕ → Bool
ends_in_front_of keys [] cell = true
ends_in_front_of keys (Row rules format fields ∷ elements) cell = not (is_some (cell_below keys format.keys fields cell))
ends_in_front_of keys (Rule sign ∷ elements) cell = ends_in_front_of keys elements cell
ends_in_front_of keys (Command bytes ∷ elements) cell = ends_in_front_of keys elements cell

-- a row is as high as the most that is left of the cells that end with it, and one line at least
abbrev pub ending_from : List FormatKey → List Element → ℕ → List ℕ → List ℕ
ending_from keys elements cell [] = []
ending_from keys elements cell (n ∷ left) =
    (if ends_in_front_of keys elements cell then n else 0) ∷ ending_from keys elements (suc cell) left

abbrev pub height_in_front_of : List FormatKey → List Element → List ℕ → ℕ
height_in_front_of keys elements left = max 1 (greatest (ending_from keys elements 0 left))

-- how many lines of rules stand in front of a row: rules and rows of rule keys, or the one that a box adds where none stands
abbrev pub rules_between : Bool → ℕ → ℕ → ℕ
rules_between is_inside rules rule_rows = if is_inside && (rules + rule_rows == 0) then 1 else rules + rule_rows

-- the heights of rows, behind one of these keys, of whose cells so much is left, and so many rules
abbrev pub heights_behind : Bool → ℕ → List FormatKey → List ℕ → ℕ → List Element → List ℕ
heights_behind is_inside columns above left rules [] = []
heights_behind is_inside columns above left rules (Row rule_rows format fields ∷ elements) =
    let here = lefts columns above left (rules_between is_inside rules (length rule_rows)) format fields in
    let height = height_in_front_of format.keys elements here in
    height ∷ heights_behind is_inside columns format.keys (map (λ n. n - height) here) 0 elements
heights_behind is_inside columns above left rules (Rule sign ∷ elements) = heights_behind is_inside columns above left (suc rules) elements
heights_behind is_inside columns above left rules (Command bytes ∷ elements) = heights_behind is_inside columns above left rules elements

-- and those of a table of so many columns
abbrev pub heights : Bool → ℕ → List Element → List ℕ
heights is_inside columns elements = heights_behind is_inside columns [] [] 0 elements

-- a row of which no field is that of the cell above
abbrev pub NoneAbove : Element → Type 0
NoneAbove (Row rule_rows format fields) = (cell : ℕ) → is_above (field_at fields cell) ≡ false
NoneAbove (Rule sign) = Unit {0}
NoneAbove (Command bytes) = Unit {0}
