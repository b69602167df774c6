-- The rows of a table, as they are laid out: their blocks are filled, and columns hold them.
use Rattle.std.specs.Prelude.{◌≡◌, ℕ, ◌<◌, ◌≤◌, Bool, true, false, List, [], ◌∷◌, ◌++◌, drop, get_or, length, map, set, take, if◌then◌else◌}
use Rattle.std.specs.List.{AllByRecursion}
use Rattle.tbl_format.specs.Cells.{by_cells}
use Rattle.tbl_format.specs.Format.{FormatRow}
use Rattle.tbl_format.specs.RowsServed.{row_at}
use Rattle.tbl_format.specs.declared.format.Asked.{Asked}
use Rattle.tbl_format.specs.declared.format.FormatKey.{FormatKey}
use Rattle.tbl_format.specs.declared.format.Key.{Key}
use Rattle.tbl_format.specs.declared.format.Key.TheVariants.{Above as AboveKey}
use Rattle.tbl_layout.specs.Columns.{row_stands}
use Rattle.tbl_layout.specs.KeptEntries.{block_filled, block_lines, not_filled, stands_of, Lies}
use Rattle.tbl_layout.specs.Spans.{Wide, all_fitted, measure_of, wide_entries}
use Rattle.tbl_layout.specs.declared.bars.Bars.{Bars}
use Rattle.tbl_layout.specs.declared.columns.Column.{Column}
use Rattle.tbl_layout.specs.declared.columns.Stands.{Stands}
use Rattle.tbl_layout.specs.declared.columns.Stands.TheVariants.{Nowhere}
use Rattle.tbl_layout.specs.declared.entry.Entry.{Entry}
use Rattle.tbl_layout.specs.declared.entry.EntryKind.{EntryKind}
use Rattle.tbl_layout.specs.declared.entry.EntryKind.TheVariants.{Above as AboveKind, Block as BlockKind, Split as SplitKind, Text as TextKind}
use Rattle.tbl_kept.specs.Rows.{Command, KeptElement, KeptRows, Row, Rule, height_of, held_by}

-- a field, if it is a block filled in a measure
abbrev pub laid_by : EntryKind → List ℕ → ℕ → Entry → Entry
laid_by (TextKind glyphs width) bytes measure e = e
laid_by (SplitKind s) bytes measure e = e
laid_by (BlockKind b) bytes measure e = record e { kind = BlockKind (block_filled measure (block_lines bytes e.from e.to)) }
laid_by kind bytes measure e = e

abbrev pub laid_entry : List ℕ → ℕ → Entry → Entry
laid_entry bytes measure e = laid_by e.kind bytes measure e

-- the fields of a row, of whose cells so much is asked, in a table of so many columns
abbrev pub laid_entries : List ℕ → Bars → ℕ → ℕ → List (List Asked) → List Entry → List Entry
laid_entries bytes bars line_length count [] entries = entries
laid_entries bytes bars line_length count (asked ∷ cells) [] = []
laid_entries bytes bars line_length count (asked ∷ cells) (e ∷ entries) =
    laid_entry bytes (measure_of bars line_length count asked) e ∷ laid_entries bytes bars line_length count cells entries

-- and under these keys
abbrev pub laid_row : List ℕ → Bars → ℕ → List Asked → List FormatKey → List Entry → List Entry
laid_row bytes bars line_length asked keys entries = laid_entries bytes bars line_length (length asked) (by_cells 0 keys asked) entries

abbrev pub laid_element : List ℕ → List FormatRow → Bars → ℕ → List Asked → KeptElement → KeptElement
laid_element bytes formats bars line_length asked (Row keys rules height entries) =
    let laid = laid_row bytes bars line_length asked (row_at formats keys).keys entries in Row keys rules (height_of laid) laid
laid_element bytes formats bars line_length asked (Rule sign) = Rule sign
laid_element bytes formats bars line_length asked (Command from to) = Command from to

-- an entry, unless it counts for no width
abbrev pub counted_if : Bool → Stands → Stands
counted_if has_no_width entry = if has_no_width then Nowhere else entry

-- how a field that is filled stands in its column, if it is a block: a text stands in it already
abbrev pub block_stands_by : EntryKind → Key → Entry → Stands
block_stands_by (BlockKind b) key e = stands_of key e
block_stands_by kind key e = Nowhere

abbrev pub block_stands : Key → Entry → Stands
block_stands key e = block_stands_by e.kind key e

-- columns of which those from one on hold entries, each one of them
abbrev pub held_at : ℕ → List Stands → List Column → List Column
held_at from entries columns = take from columns ++ held_by entries (drop from columns)

-- columns that hold the blocks of a row too, and of an element, and of all of them
abbrev pub holding_blocks : List FormatKey → List Entry → List Column → List Column
holding_blocks keys entries columns = held_by (row_stands block_stands 0 keys entries) columns

abbrev pub blocks_held : List FormatRow → KeptElement → List Column → List Column
blocks_held formats (Row keys rules height entries) columns = holding_blocks (row_at formats keys).keys entries columns
blocks_held formats (Rule sign) columns = columns
blocks_held formats (Command from to) columns = columns

abbrev pub all_held : List FormatRow → List KeptElement → List Column → List Column
all_held formats [] columns = columns
all_held formats (e ∷ elements) columns = all_held formats elements (blocks_held formats e columns)

-- one of the rows is laid out
abbrev pub element_at : List KeptElement → ℕ → KeptElement
element_at elements at = get_or elements at (Command 0 0)

abbrev pub laid_at : List ℕ → List FormatRow → Bars → ℕ → List Asked → ℕ → KeptRows → KeptRows
laid_at bytes formats bars line_length asked at k =
    let laid = laid_element bytes formats bars line_length asked (element_at k.elements at) in
    record k { elements = set k.elements at laid; columns = blocks_held formats laid k.columns }

-- all of them are
abbrev pub all_laid : List ℕ → List FormatRow → Bars → ℕ → List Asked → KeptRows → KeptRows
all_laid bytes formats bars line_length asked k =
    let laid = map (laid_element bytes formats bars line_length asked) k.elements in
    record k { elements = laid; columns = all_held formats laid k.columns }

-- a row of the formats serves a row
abbrev pub ElementWithin : List FormatRow → KeptElement → Type 0
ElementWithin formats (Row keys rules height entries) = keys < length formats
ElementWithin formats (Rule sign) = Unit {0}
ElementWithin formats (Command from to) = Unit {0}

abbrev pub RowsWithin : List FormatRow → KeptRows → Type 0
RowsWithin formats k = AllByRecursion (ElementWithin formats) k.elements

-- few rows of rule keys stand in front of a row
abbrev pub HasFewRules : KeptElement → Type 0
HasFewRules (Row keys rules height entries) = rules < 4294967296
HasFewRules (Rule sign) = Unit {0}
HasFewRules (Command from to) = Unit {0}

-- the entries of several columns of what is kept, and columns that have room for them
abbrev pub wide_in : List FormatRow → KeptElement → List Wide
wide_in formats (Row keys rules height entries) = wide_entries stands_of 0 (row_at formats keys).keys entries
wide_in formats (Rule sign) = []
wide_in formats (Command from to) = []

abbrev pub fitted_rows : List FormatRow → Bars → List Asked → List KeptElement → List Column → List Column
fitted_rows formats bars asked [] columns = columns
fitted_rows formats bars asked (e ∷ elements) columns =
    fitted_rows formats bars asked elements (all_fitted bars asked (wide_in formats e) columns)

abbrev pub FieldsLie : List ℕ → List Entry → Type 0
FieldsLie bytes entries = AllByRecursion (Lies bytes) entries

-- whether a field is a block, and fields of which none is
abbrev pub is_block : EntryKind → Bool
is_block (BlockKind b) = true
is_block kind = false

abbrev pub NoBlocks : List Entry → Type 0
NoBlocks entries = AllByRecursion (λ (e : Entry). is_block e.kind ≡ false) entries

-- whether a field goes on with the cell above it, and fields of which none does
abbrev pub goes_on : EntryKind → Bool
goes_on AboveKind = true
goes_on kind = false

abbrev pub NoneGoOn : List Entry → Type 0
NoneGoOn entries = AllByRecursion (λ (e : Entry). goes_on e.kind ≡ false) entries

-- rows of formats of whose keys none goes on with the cells above it
abbrev pub is_above_key : Key → Bool
is_above_key AboveKey = true
is_above_key key = false

abbrev pub NoKeysGoOn : List FormatKey → Type 0
NoKeysGoOn keys = AllByRecursion (λ (k : FormatKey). is_above_key k.key ≡ false) keys

abbrev pub NoFormatsGoOn : List FormatRow → Type 0
NoFormatsGoOn formats = AllByRecursion (λ (row : FormatRow). NoKeysGoOn row.keys) formats

-- keys under which all counts for the widths of columns, and rows of formats of such keys alone
abbrev pub AllCount : List FormatKey → Type 0
AllCount keys = AllByRecursion (λ (k : FormatKey). k.has_no_width ≡ false) keys

abbrev pub AllFormatsCount : List FormatRow → Type 0
AllFormatsCount formats = AllByRecursion (λ (row : FormatRow). AllCount row.keys) formats

-- a field that isn't a filled block
abbrev pub IsOpenedKind : EntryKind → Type 0
IsOpenedKind (TextKind glyphs width) = Unit {0}
IsOpenedKind (SplitKind s) = Unit {0}
IsOpenedKind (BlockKind b) = b ≡ not_filled
IsOpenedKind kind = Unit {0}

abbrev pub AreOpened : List Entry → Type 0
AreOpened entries = AllByRecursion (λ (e : Entry). IsOpenedKind e.kind) entries
