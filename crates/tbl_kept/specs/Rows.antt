-- The rows, rules and commands of a table, as they are kept: their texts lie in the table's bytes (Lesk, "Tbl": Data).
use Rattle.std.specs.Prelude.{◌≡◌, ℕ, zero, suc, ◌+◌, ◌-◌, ◌≤◌, ◌<◌, max, Bool, true, List, [], ◌∷◌, ◌++◌, length, map, take, drop, replicate, get_or}
use Rattle.std.specs.List.{slice_range, AllByRecursion}
use Rattle.tbl_format.specs.Cells.{cell_count}
use Rattle.tbl_format.specs.Format.{FormatRow}
use Rattle.tbl_format.specs.FormatRows.{AreWithin}
use Rattle.tbl_format.specs.RowsServed.{row_at}
use Rattle.tbl_layout.specs.Columns.{greatest, needing, needs_of, row_stands}
use Rattle.tbl_layout.specs.Entries.{Command as OneCommand, Content, Element, Row as OneRow, Rule as OneRule, completed, key_at}
use Rattle.tbl_layout.specs.RuleKeys.{is_rule_row}
use Rattle.tbl_layout.specs.Heights.{heights}
use Rattle.tbl_layout.specs.KeptEntries.{IsKept, IsLaid, content_of, lines_by, stands_of, with_end}
use Rattle.tbl_kept.specs.declared.rows.Lent.{Lent}
use Rattle.tbl_kept.specs.declared.rows.Lent.TheVariants.{Command as LentCommand, Row as LentRow, Rule as LentRule}
use Rattle.tbl_layout.specs.declared.columns.Column.{Column}
use Rattle.tbl_layout.specs.declared.columns.Stands.{Stands}
use Rattle.tbl_layout.specs.declared.columns.Stands.TheVariants.{Nowhere}
use Rattle.tbl_layout.specs.declared.data_lines.RuleSign.{RuleSign}
use Rattle.tbl_layout.specs.declared.entry.Entry.{Entry}

-- a row by the place of the row of the formats that serves it, how many rows of rule keys stand in front of it, its lines, and its fields; a
-- rule over the whole table; or a command by where it lies
pub data KeptElement : Type 0 where
  Row : (keys rules height : ℕ) (entries : List Entry) → KeptElement
  Rule : (sign : RuleSign) → KeptElement
  Command : (from to : ℕ) → KeptElement

-- the rows and commands, the fields of the row that is begun, the columns, and how many fields, elements and columns there is
-- room for
pub record KeptRows : Type 0 where
  pub elements : List KeptElement
  pub row : List Entry
  pub columns : List Column
  pub entry_room : ℕ
  pub element_room : ℕ
  pub column_room : ℕ

-- nothing, with room for so much
abbrev pub no_rows : ℕ → ℕ → ℕ → KeptRows
no_rows entries elements columns =
    record { elements = []; row = []; columns = []; entry_room = entries; element_room = elements; column_room = columns }

abbrev pub cleared : KeptRows → KeptRows
cleared k = no_rows k.entry_room k.element_room k.column_room

-- how many fields they have, with those of the row that is begun
abbrev pub len_of : KeptElement → ℕ
len_of (Row keys rules height entries) = length entries
len_of (Rule sign) = 0
len_of (Command from to) = 0

abbrev pub entries_in : List KeptElement → ℕ
entries_in [] = 0
entries_in (e ∷ elements) = len_of e + entries_in elements

abbrev pub entries_of : KeptRows → ℕ
entries_of k = entries_in k.elements + length k.row

-- a column without an entry
abbrev pub no_column : Column
no_column = record { needs = needs_of []; bars = 0; width = 0; start = 0 }

-- a further format is read, with which there are so many columns
abbrev pub with_columns : ℕ → KeptRows → KeptRows
with_columns count k = record k { columns = k.columns ++ replicate (count - length k.columns) no_column }

-- one field more in the row that is begun
abbrev pub with_entry : Entry → KeptRows → KeptRows
with_entry e k = record k { row = k.row ++ e ∷ [] }

-- the last of some fields changed
abbrev pub last_changed : (Entry → Entry) → List Entry → List Entry
last_changed change [] = []
last_changed change (e ∷ []) = change e ∷ []
last_changed change (e ∷ next ∷ entries) = e ∷ last_changed change (next ∷ entries)

-- the block that is the last of them goes on up to a place
abbrev pub with_block_end : ℕ → KeptRows → KeptRows
with_block_end to k = record k { row = last_changed (with_end to) k.row }

-- columns hold entries, each one of them
abbrev pub held_by : List Stands → List Column → List Column
held_by [] columns = columns
held_by (entry ∷ entries) [] = []
held_by (entry ∷ entries) (c ∷ columns) = record c { needs = needing c.needs entry } ∷ held_by entries columns

-- columns hold the fields of a row in them, under its keys: behind these come such as `l`
abbrev pub holding : FormatRow → List Entry → List Column → List Column
holding format entries columns = held_by (row_stands stands_of 0 format.keys entries) columns

-- the row that is begun is whole, and this row of the formats serves it, in front of which so many rows of rule keys stand
abbrev pub with_row : ℕ → ℕ → FormatRow → KeptRows → KeptRows
with_row keys rules format k = record k {
  elements = k.elements ++ Row keys rules 1 k.row ∷ [];
  row = [];
  columns = holding format k.row k.columns;
}

-- a rule
abbrev pub with_rule : RuleSign → KeptRows → KeptRows
with_rule sign k = record k { elements = k.elements ++ Rule sign ∷ [] }

-- a command that lies there
abbrev pub with_command : ℕ → ℕ → KeptRows → KeptRows
with_command from to k = record k { elements = k.elements ++ Command from to ∷ [] }

-- what is lent
abbrev pub lent : Lent → KeptElement
lent (LentRow keys rules height entries) = Row keys rules height entries.now
lent (LentRule sign) = Rule sign
lent (LentCommand from to) = Command from to

-- so many rows of the formats in front of one
abbrev pub rows_in_front : List FormatRow → ℕ → ℕ → List FormatRow
rows_in_front formats keys rules = take rules (drop (keys - rules) formats)

-- the fields of a row under its keys, by the table's bytes
abbrev pub fields_of : List ℕ → FormatRow → List Entry → List Content
fields_of bytes format entries = completed format (map (content_of bytes) entries)

-- what stands in the table, by its bytes and the rows of all formats
abbrev pub element_of : List ℕ → List FormatRow → KeptElement → Element
element_of bytes formats (Row keys rules height entries) =
    OneRow (rows_in_front formats keys rules) (row_at formats keys) (fields_of bytes (row_at formats keys) entries)
element_of bytes formats (Rule sign) = OneRule sign
element_of bytes formats (Command from to) = OneCommand (slice_range bytes from to)

abbrev pub elements_of : List ℕ → List FormatRow → List KeptElement → List Element
elements_of bytes formats elements = map (element_of bytes formats) elements

-- the fields of a row are kept, each under its key
abbrev pub AreKept : List ℕ → FormatRow → ℕ → List Entry → Type 0
AreKept bytes format cell [] = Unit {0}
AreKept bytes format cell (e ∷ entries) = IsKept bytes (key_at format cell) e × AreKept bytes format (suc cell) entries

-- a row of the formats is one of rule keys alone
abbrev pub IsRuleRow : FormatRow → Type 0
IsRuleRow format = is_rule_row format ≡ true

-- a row of the formats serves a row, whose cells have no more columns than there are, and behind that many of rule keys alone; the row has
-- no more fields than cells, all of which are kept
pub record RowKept (bytes : List ℕ) (formats : List FormatRow) (columns keys rules height : ℕ) (entries : List Entry) : Type 0 where
  pub serves : keys < length formats
  pub in_front : rules ≤ keys
  pub ruled : AllByRecursion IsRuleRow (rows_in_front formats keys rules)
  pub cells : AreWithin columns (row_at formats keys).keys
  pub short : length entries ≤ cell_count (row_at formats keys).keys columns
  pub kept : AreKept bytes (row_at formats keys) 0 entries
  pub low : height ≡ 1

pub record CommandLies (bytes : List ℕ) (from to : ℕ) : Type 0 where
  pub order : from ≤ to
  pub within : to ≤ length bytes

abbrev pub ElementKept : List ℕ → List FormatRow → ℕ → KeptElement → Type 0
ElementKept bytes formats columns (Row keys rules height entries) = RowKept bytes formats columns keys rules height entries
ElementKept bytes formats columns (Rule sign) = Unit {0}
ElementKept bytes formats columns (Command from to) = CommandLies bytes from to

-- how the fields of a column stand in it
abbrev pub stands_in : List FormatRow → ℕ → List KeptElement → List Stands
stands_in formats column [] = []
stands_in formats column (Row keys rules height entries ∷ elements) =
    get_or (row_stands stands_of 0 (row_at formats keys).keys entries) column Nowhere ∷ stands_in formats column elements
stands_in formats column (Rule sign ∷ elements) = stands_in formats column elements
stands_in formats column (Command from to ∷ elements) = stands_in formats column elements

-- columns from one on hold what these rows need, before they are laid out
abbrev pub columns_holding : List FormatRow → List KeptElement → ℕ → ℕ → List Column
columns_holding formats elements column zero = []
columns_holding formats elements column (suc count) =
    record no_column { needs = needs_of (stands_in formats column elements) }
    ∷ columns_holding formats elements (suc column) count

-- all that is kept lies in these bytes, is served by these rows of formats, and is held by the columns
pub record RowsKept (bytes : List ℕ) (formats : List FormatRow) (k : KeptRows) : Type 0 where
  pub elements : AllByRecursion (ElementKept bytes formats (length k.columns)) k.elements
  pub columns : k.columns ≡ columns_holding formats k.elements 0 (length k.columns)

-- and the row that is begun, which this row of the formats is to serve
pub record RowBegunKept (bytes : List ℕ) (formats : List FormatRow) (keys : ℕ) (k : KeptRows) : Type 0 where
  pub all : RowsKept bytes formats k
  pub row : AreKept bytes (row_at formats keys) 0 k.row
  pub short : length k.row ≤ cell_count (row_at formats keys).keys (length k.columns)

-- the lines of a row
abbrev pub height_of : List Entry → ℕ
height_of entries = max 1 (greatest (map (λ e. lines_by e.kind) entries))

-- the fields of a row are laid out, each under its key
abbrev pub AreLaid : List ℕ → FormatRow → ℕ → List Entry → Type 0
AreLaid bytes format cell [] = Unit {0}
AreLaid bytes format cell (e ∷ entries) = IsLaid bytes (key_at format cell) e × AreLaid bytes format (suc cell) entries

pub record RowLaid (bytes : List ℕ) (formats : List FormatRow) (columns keys rules : ℕ) (entries : List Entry) : Type 0 where
  pub serves : keys < length formats
  pub in_front : rules ≤ keys
  pub ruled : AllByRecursion IsRuleRow (rows_in_front formats keys rules)
  pub cells : AreWithin columns (row_at formats keys).keys
  pub short : length entries ≤ cell_count (row_at formats keys).keys columns
  pub laid : AreLaid bytes (row_at formats keys) 0 entries

abbrev pub ElementLaid : List ℕ → List FormatRow → ℕ → KeptElement → Type 0
ElementLaid bytes formats columns (Row keys rules height entries) = RowLaid bytes formats columns keys rules entries
ElementLaid bytes formats columns (Rule sign) = Unit {0}
ElementLaid bytes formats columns (Command from to) = CommandLies bytes from to

-- the heights of rows
abbrev pub heights_of : List KeptElement → List ℕ
heights_of [] = []
heights_of (Row keys rules height entries ∷ elements) = height ∷ heights_of elements
heights_of (Rule sign ∷ elements) = heights_of elements
heights_of (Command from to ∷ elements) = heights_of elements

-- all rows are laid out in the columns, of a table in whose box a rule stands between rows, or in which none does
pub record RowsLaid (bytes : List ℕ) (formats : List FormatRow) (is_inside : Bool) (k : KeptRows) : Type 0 where
  pub elements : AllByRecursion (ElementLaid bytes formats (length k.columns)) k.elements
  pub heights : heights_of k.elements ≡ heights is_inside (length k.columns) (elements_of bytes formats k.elements)

-- each row is as high as the most lines of its fields, as it is where no cell goes on with one above it
abbrev pub IsPlain : KeptElement → Type 0
IsPlain (Row keys rules height entries) = height ≡ height_of entries
IsPlain (Rule sign) = Unit {0}
IsPlain (Command from to) = Unit {0}

abbrev pub IsPlainTable : KeptRows → Type 0
IsPlainTable rows = AllByRecursion IsPlain rows.elements

-- there is room for as much
pub record SameRoom (old new : KeptRows) : Type 0 where
  pub entries : new.entry_room ≡ old.entry_room
  pub elements : new.element_room ≡ old.element_room
  pub columns : new.column_room ≡ old.column_room
