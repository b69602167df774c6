-- What is left of the cells of a table, from line to line of its picture (Lesk, "Tbl": Format).
use Rattle.std.specs.Prelude.{ℕ, zero, suc, nat_lt, ◌+◌, ◌-◌, ◌/◌, ◌==◌, ◌&&◌, min, not, Bool, false, List, [], ◌∷◌, ◌++◌, drop, get_or, length, map, Option, None, Some, is_some, unwrap_or, if◌then◌else◌}
use Rattle.tbl_format.specs.Cells.{end_of}
use Rattle.tbl_format.specs.Format.{FormatRow, columns_of_keys, plain_key}
use Rattle.tbl_format.specs.declared.format.FormatKey.{FormatKey}
use Rattle.tbl_format.specs.declared.format.Key.TheVariants.{Left as LeftKey}
use Rattle.tbl_format.specs.declared.format.Standing.{Standing}
use Rattle.tbl_format.specs.declared.format.Standing.TheVariants.{Bottom, Middle, Top}
use Rattle.tbl_layout.specs.Entries.{Above, Block, Command, Content, Element, Row, Rule, Text, field_at, is_entry}
use Rattle.tbl_layout.specs.Heights.{cell_above, cell_below, lines_in}

-- what is left of a cell of a row in front of a line: its key, with the bars in front of it and its last column, and its field; how many
-- lines stand above the field's next one; how many lines of a block stand above; over how many rows it has come; whether something stands
-- in it, on any line; behind how many columns what is without width ends at the latest; and whether a line of that was cut
pub record Left : Type 0 where
  pub key : FormatKey
  pub field : Content
  pub lead : ℕ
  pub gone : ℕ
  pub rows : ℕ
  pub is_used : Bool
  pub stop : ℕ
  pub is_cut : Bool

-- whether it goes on from the row above
abbrev pub goes_on : Left → Bool
goes_on c = nat_lt 0 c.rows

-- behind the line: of a block a line less is left, and of any other field nothing
abbrev pub rest_by : Content → Left → Left
rest_by (Block measure lines) c = record c { gone = c.gone + 1 }
rest_by field c = record c { field = Text [] }

abbrev pub behind_line : Left → Left
behind_line c = if c.lead == 0 then rest_by c.field c else record c { lead = c.lead - 1 }

-- the keys of all cells of a row in a table of so many columns: behind those of the format come such as `l`, the first of them behind the
-- bars at its end; and how many bars stand behind the last one
abbrev pub keys_behind : ℕ → ℕ → ℕ → List FormatKey
keys_behind zero bars column = []
keys_behind (suc count) bars column = plain_key bars LeftKey column ∷ keys_behind count 0 (suc column)

abbrev pub all_keys : ℕ → FormatRow → List FormatKey
all_keys columns format = let own = columns_of_keys format.keys in format.keys ++ keys_behind (columns - own) format.bars own

abbrev pub bars_at_end : ℕ → FormatRow → ℕ
bars_at_end columns format = if nat_lt (columns_of_keys format.keys) columns then 0 else format.bars

-- how many lines of the picture a cell of a row of these keys has below that, where so many lines of rules stand in front of these
-- elements, whose rows have these heights
abbrev pub lines_over : List FormatKey → ℕ → ℕ → List ℕ → List Element → ℕ
lines_over keys cell rules heights [] = 0
lines_over keys cell rules heights (Row rule_rows format fields ∷ elements) =
    let below = cell_below keys format.keys fields cell in
    if is_some below
    then rules + length rule_rows + get_or heights 0 0 + lines_over format.keys (unwrap_or below 0) 0 (drop 1 heights) elements
    else 0
lines_over keys cell rules heights (Rule sign ∷ elements) = lines_over keys cell (suc rules) heights elements
lines_over keys cell rules heights (Command bytes ∷ elements) = lines_over keys cell rules heights elements

-- how many lines stand above a field of so many in a cell of so many
abbrev pub drop_of : Standing → ℕ → ℕ → ℕ
drop_of Top lines all = 0
drop_of Middle lines all = (all - lines) / 2
drop_of Bottom lines all = all - lines

-- a field that doesn't go on with one above it is its own
abbrev pub own_field : Content → Content
own_field Above = Text []
own_field field = field

-- behind how many columns the first cell of a row begins that isn't in front of one of them and in which something stands, if it isn't that
-- of the cell above: these keys and fields are those from a column on. Without such a cell it is another number
abbrev pub first_entry : ℕ → ℕ → ℕ → List FormatKey → List Content → ℕ
first_entry none column from [] fields = none
first_entry none column from (k ∷ keys) fields =
    if not (nat_lt from column) && is_entry (field_at fields 0) then from else first_entry none column k.end keys (drop 1 fields)

-- and of the rows below that a cell of a row of these keys covers, in a table of so many columns: the least of all
abbrev pub stop_below : ℕ → List FormatKey → ℕ → List Element → ℕ
stop_below columns keys cell [] = columns
stop_below columns keys cell (Row rule_rows format fields ∷ elements) =
    let below = cell_below keys format.keys fields cell in
    if is_some below
    then min (first_entry columns (end_of keys cell) 0 (all_keys columns format) fields)
    (stop_below columns format.keys (unwrap_or below 0) elements)
    else columns
stop_below columns keys cell (Rule sign ∷ elements) = stop_below columns keys cell elements
stop_below columns keys cell (Command bytes ∷ elements) = stop_below columns keys cell elements

-- behind how many columns the first of some cells begins in which something stands: the first of them begins behind so many. Without such a
-- cell it is another number
abbrev pub first_used : ℕ → ℕ → List Left → ℕ
first_used none from [] = none
first_used none from (c ∷ cells) = if c.is_used then from else first_used none c.key.end cells

-- what stands without width in a cell that begins with a row of these keys ends in front of what stands beside it, in that row and those
-- below that the cell covers: the others are the cells behind it
abbrev pub stopped : ℕ → List FormatKey → List Element → ℕ → Left → List Left → Left
stopped columns keys elements cell c others =
    if c.key.has_no_width && not (goes_on c)
    then record c { stop = min (first_used columns c.key.end others) (stop_below columns keys cell elements) }
    else c

abbrev pub all_stopped : ℕ → List FormatKey → List Element → ℕ → List Left → List Left
all_stopped columns keys elements cell [] = []
all_stopped columns keys elements cell (c ∷ cells) =
    stopped columns keys elements cell c cells ∷ all_stopped columns keys elements (suc cell) cells

-- a cell that begins with a row so high, and has so many lines more below it
abbrev pub begun : FormatKey → Content → ℕ → ℕ → Left
begun k field height more = record {
  key = k;
  field = own_field field;
  lead = if more == 0 then 0 else drop_of k.standing (lines_in k.key field) (height + more);
  gone = 0;
  rows = 0;
  is_used = is_entry field;
  stop = 0;
  is_cut = false;
}

-- one that goes on with a cell of the row above, as that is left, under a key
abbrev pub gone_on : FormatKey → Left → Left
gone_on k c = record c { key = record k { key = c.key.key; has_no_width = c.key.has_no_width }; rows = c.rows + 1 }

abbrev pub cell_by : Option ℕ → List Left → Left → Left
cell_by None above new = new
cell_by (Some other) above new = get_or (map (gone_on new.key) above) other new

-- the cells of a row, below one of these keys whose cells are left so, in front of elements: the row and those behind it have these
-- heights
abbrev pub cells_from : List FormatKey → List Left → List ℕ → List Element → FormatRow → List Content → ℕ → List FormatKey → List Left
cells_from keys above heights elements format fields cell [] = []
cells_from keys above heights elements format fields cell (k ∷ own) =
    let more = lines_over format.keys cell 0 (drop 1 heights) elements in
    cell_by (cell_above keys format.keys fields cell) above (begun k (field_at fields cell) (get_or heights 0 0) more)
    ∷ cells_from keys above heights elements format fields (suc cell) own

-- a cell in which nothing stands
abbrev pub nothing_left : FormatKey → Left
nothing_left k = record { key = k; field = Text []; lead = 0; gone = 0; rows = 0; is_used = false; stop = 0; is_cut = false }

-- and those of the row that comes first of some elements, in a table of so many columns: where none comes, nothing stands in them
abbrev pub cells_next : ℕ → List FormatKey → List Left → List ℕ → List Element → List Left
cells_next columns keys above heights [] = map nothing_left (keys_behind columns 0 0)
cells_next columns keys above heights (Row rules format fields ∷ elements) =
    all_stopped columns format.keys elements 0 (cells_from keys above heights elements format fields 0 (all_keys columns format))
cells_next columns keys above heights (Rule sign ∷ elements) = cells_next columns keys above heights elements
cells_next columns keys above heights (Command bytes ∷ elements) = cells_next columns keys above heights elements
