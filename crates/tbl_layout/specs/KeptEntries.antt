-- The fields of rows, as they are kept by their places in the table's bytes (Lesk, "Tbl": Data, Text Blocks).
use Rattle.std.specs.Prelude.{◌≡◌, ℕ, ◌+◌, ◌-◌, ◌≤◌, Bool, false, List, [], ◌++◌, drop, length, Option, None, Some, if◌then◌else◌, ◌==◌}
use Rattle.std.specs.List.{slice_range}
use Rattle.tbl_format.specs.declared.format.Key.{Key}
use Rattle.tbl_format.specs.Format.{FormatRow}
use Rattle.tbl_layout.specs.Columns.{unsplit}
use Rattle.tbl_layout.specs.RuleKeys.{under_keys}
use Rattle.tbl_layout.specs.declared.data_lines.FieldKind.{FieldKind}
use Rattle.tbl_layout.specs.declared.data_lines.FieldKind.TheVariants.{Above as AboveField, Repeated as RepeatedField, Ruled as RuledField, Short as ShortField, Text as OneText}
use Rattle.tbl_layout.specs.Entries.{Above, Block, Content, Repeated, Ruled, Short, Text, is_number}
use Rattle.tbl_layout.specs.declared.columns.Stands.{Stands}
use Rattle.tbl_layout.specs.declared.columns.Stands.TheVariants.{Apart, Nowhere}
use Rattle.tbl_layout.specs.declared.entry.BlockEntry.{BlockEntry}
use Rattle.tbl_layout.specs.declared.entry.Entry.{Entry}
use Rattle.tbl_layout.specs.declared.entry.EntryKind.{EntryKind}
use Rattle.tbl_layout.specs.declared.entry.EntryKind.TheVariants.{Above as AboveKind, Block as BlockKind, Repeated as RepeatedKind, Ruled as RuledKind, Short as ShortKind, Split as SplitKind, Text as TextKind}
use Rattle.tbl_layout.specs.declared.entry.SplitEntry.{SplitEntry}
use Rattle.tbl_text.specs.BlockLines.{has_word, lines_of, widest}
use Rattle.tbl_text.specs.BlockWords.{lines_in, parts_of}
use Rattle.tbl_text.specs.Measuring.{measured}
use Rattle.tbl_text.specs.declared.measure.Measured.{Measured}
use Rattle.tbl_text.specs.declared.measure.Split.{Split}

-- a number that begins at a place and is split there
abbrev pub split_by : ℕ → ℕ → ℕ → Split → SplitEntry
split_by from glyphs width s = record { glyphs = glyphs; width = width; left = s.left; end = from + s.end; behind = from + s.behind }

abbrev pub kind_with : ℕ → ℕ → ℕ → Option Split → EntryKind
kind_with from glyphs width None = TextKind glyphs width
kind_with from glyphs width (Some s) = SplitKind (split_by from glyphs width s)

-- what a text is that begins at a place and measures so much
abbrev pub kind_by : ℕ → Measured → EntryKind
kind_by from m = kind_with from (from + m.glyphs) m.width m.split

-- the field of a text that begins at a place, has so many bytes and measures so much
abbrev pub entry_by : ℕ → ℕ → Measured → Entry
entry_by from len m = record { from = from; to = from + len; kind = kind_by from m }

-- the field of a text, as a number or not
abbrev pub text_entry : Bool → ℕ → List ℕ → Entry
text_entry is_number from text = entry_by from (length text) (measured is_number text)

-- a text block that isn't filled
abbrev pub not_filled : BlockEntry
not_filled = record { measure = 0; lines = 0; width = 0; has_word = false }

-- a field is a block
abbrev pub IsBlock : EntryKind → Type 0
IsBlock (BlockKind b) = Unit {0}
IsBlock kind = ⊥

-- how a field is kept that isn't measured
abbrev pub kept_kind : FieldKind → EntryKind
kept_kind (RuledField sign) = RuledKind sign
kept_kind ShortField = ShortKind
kept_kind (RepeatedField b) = RepeatedKind b
kept_kind AboveField = AboveKind
kept_kind OneText = TextKind 0 0

-- the field, of which nothing is measured, that begins at a place and has so many bytes
abbrev pub rule_entry : ℕ → ℕ → EntryKind → Entry
rule_entry from len kind = record { from = from; to = from + len; kind = kind }

-- what stands under a key for which a row has no field: what the key says, or an empty text; and all that stands in a row
abbrev pub said_by_key : FieldKind → Entry
said_by_key kind = rule_entry 0 0 (kept_kind kind)

abbrev pub no_entry : Entry
no_entry = record { from = 0; to = 0; kind = TextKind 0 0 }

abbrev pub entry_under : Option FieldKind → Entry
entry_under (Some kind) = said_by_key kind
entry_under None = no_entry

abbrev pub all_entries : FormatRow → List Entry → List Entry
all_entries format entries = entries ++ under_keys said_by_key no_entry (drop (length entries) format.keys)

-- one of which no line is read, behind the line that opens it, which ends there
abbrev pub opened_at : ℕ → Entry
opened_at from = record { from = from; to = from; kind = BlockKind not_filled }

-- with its last line's end there
abbrev pub with_end : ℕ → Entry → Entry
with_end to e = record e { to = to }

-- one that is filled in a measure: its lines, the columns of the widest, and whether it has a word
abbrev pub filled_with : ℕ → ℕ → ℕ → Bool → Entry → Entry
filled_with measure lines width has_word e =
    record e { kind = BlockKind (record { measure = measure; lines = lines; width = width; has_word = has_word }) }

-- the lines of a block, which lie behind the line that ends at a place: each has a newline in front of it, and the last one ends
-- at the other place
abbrev pub block_lines : List ℕ → ℕ → ℕ → List (List ℕ)
block_lines bytes from to = if from == to then [] else lines_in (slice_range bytes (from + 1) to)

-- the text, the block or the rule that a field is
abbrev pub content_by : EntryKind → List ℕ → ℕ → ℕ → Content
content_by (TextKind glyphs width) bytes from to = Text (slice_range bytes from to)
content_by (SplitKind s) bytes from to = Text (slice_range bytes from to)
content_by (BlockKind b) bytes from to = Block b.measure (block_lines bytes from to)
content_by (RuledKind sign) bytes from to = Ruled sign
content_by ShortKind bytes from to = Short
content_by (RepeatedKind b) bytes from to = Repeated b
content_by AboveKind bytes from to = Above

abbrev pub content_of : List ℕ → Entry → Content
content_of bytes e = content_by e.kind bytes e.from e.to

-- how a field stands in its column, by what it measures: a text without a byte stands nowhere, and neither does a block without
-- a word, nor a rule
abbrev pub stands_by : Key → EntryKind → Bool → Stands
stands_by key (TextKind glyphs width) is_empty = if is_empty then Nowhere else unsplit key width
stands_by key (SplitKind s) is_empty = Apart s.left (s.width - s.left)
stands_by key (BlockKind b) is_empty = if b.has_word then unsplit key b.width else Nowhere
stands_by key kind is_empty = Nowhere

abbrev pub stands_of : Key → Entry → Stands
stands_of key e = stands_by key e.kind (e.from == e.to)

-- the lines of a field
abbrev pub lines_by : EntryKind → ℕ
lines_by (TextKind glyphs width) = 1
lines_by (SplitKind s) = 1
lines_by (BlockKind b) = b.lines
lines_by kind = 1

-- the measure of a block, else 0
abbrev pub measure_by : EntryKind → ℕ
measure_by (BlockKind b) = b.measure
measure_by kind = 0

-- a text is kept as what it measures, and lies within the table's bytes
pub record IsText (bytes : List ℕ) (is_number : Bool) (e : Entry) : Type 0 where
  pub order : e.from ≤ e.to
  pub within : e.to ≤ length bytes
  pub is : e ≡ text_entry is_number e.from (slice_range bytes e.from e.to)

-- a block lies within them, behind the line that opens it, and so does a rule
pub record Lies (bytes : List ℕ) (e : Entry) : Type 0 where
  pub order : e.from ≤ e.to
  pub within : e.to ≤ length bytes

-- a block that isn't filled
pub record IsOpened (bytes : List ℕ) (e : Entry) : Type 0 where
  pub lies : Lies bytes e
  pub is : e.kind ≡ BlockKind not_filled

-- a block as its measure fills it
abbrev pub block_filled : ℕ → List (List ℕ) → BlockEntry
block_filled measure lines =
    let filled = lines_of measure (parts_of lines) in
    record { measure = measure; lines = length filled; width = widest filled; has_word = has_word (parts_of lines) }

pub record IsFilled (bytes : List ℕ) (measure : ℕ) (e : Entry) : Type 0 where
  pub lies : Lies bytes e
  pub is : e.kind ≡ BlockKind (block_filled measure (block_lines bytes e.from e.to))

-- a field is kept under its key: a text by what it measures, a block as it was read, a rule by where it lies
abbrev pub IsKeptBy : EntryKind → List ℕ → Key → Entry → Type 0
IsKeptBy (TextKind glyphs width) bytes key e = IsText bytes (is_number key) e
IsKeptBy (SplitKind s) bytes key e = IsText bytes (is_number key) e
IsKeptBy (BlockKind b) bytes key e = IsOpened bytes e
IsKeptBy kind bytes key e = Lies bytes e

abbrev pub IsKept : List ℕ → Key → Entry → Type 0
IsKept bytes key e = IsKeptBy e.kind bytes key e

-- a field is laid out: its block is filled in its measure
abbrev pub IsLaidBy : EntryKind → List ℕ → Key → Entry → Type 0
IsLaidBy (TextKind glyphs width) bytes key e = IsText bytes (is_number key) e
IsLaidBy (SplitKind s) bytes key e = IsText bytes (is_number key) e
IsLaidBy (BlockKind b) bytes key e = IsFilled bytes b.measure e
IsLaidBy kind bytes key e = Lies bytes e

abbrev pub IsLaid : List ℕ → Key → Entry → Type 0
IsLaid bytes key e = IsLaidBy e.kind bytes key e
