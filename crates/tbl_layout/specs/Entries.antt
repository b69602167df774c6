-- What stands in the columns of a table, and on which lines (Lesk, "Tbl": Data, Text Blocks).
use Rattle.std.specs.Prelude.{ℕ, Bool, true, false, List, [], ◌∷◌, ◌++◌, length, map, take, drop, replicate, sum_by, get_or, Option, Some, None}
use Rattle.input_source.specs.Bytes.{blank}
use Rattle.tbl_format.specs.Format.{FormatRow}
use Rattle.tbl_layout.specs.DataLines.{field_kind, kind_under}
use Rattle.tbl_layout.specs.RuleKeys.{under_keys}
use Rattle.tbl_layout.specs.declared.data_lines.FieldKind.{FieldKind}
use Rattle.tbl_layout.specs.declared.data_lines.FieldKind.TheVariants.{Above as AboveKind, Repeated as RepeatedKind, Ruled as RuledKind, Short as ShortKind}
use Rattle.tbl_layout.specs.declared.data_lines.RuleSign.{RuleSign}
use Rattle.tbl_format.specs.declared.format.Key.{Key}
use Rattle.tbl_format.specs.declared.format.Key.TheVariants.{Left, Numeric}
use Rattle.tbl_text.specs.BlockLines.{has_word, leading, lines_of}
use Rattle.tbl_text.specs.BlockWords.{Word, Part, EmptyLine, OneWord, parts_of}
use Rattle.tbl_text.specs.Fitted.{fitting_text}
use Rattle.tbl_text.specs.FittedWords.{line_fitted}
use Rattle.tbl_text.specs.Measuring.{measured}
use Rattle.tbl_text.specs.declared.measure.Measured.{Measured}
use Rattle.tbl_text.specs.declared.measure.Split.{Split}

-- a field: a text; a text block by its measure, which is 0 while it is read, and by its lines, of which requests are passed over; a
-- rule over its cell, or one as wide as the widest text of the cell's first column; a byte that is repeated over the cell; or that of
-- the cell above, which goes on
pub data Content : Type 0 where
  Text : (bytes : List ℕ) → Content
  Block : (measure : ℕ) (lines : List (List ℕ)) → Content
  Ruled : (sign : RuleSign) → Content
  Short : Content
  Repeated : (byte : ℕ) → Content
  Above : Content

-- what stands in a table: a row of fields, with the row of the format that serves it, and the rows of rule keys that stand directly in
-- front of it; a rule over the whole table; or a command
pub data Element : Type 0 where
  Row : (rules : List FormatRow) (format : FormatRow) (fields : List Content) → Element
  Rule : (sign : RuleSign) → Element
  Command : (bytes : List ℕ) → Element

-- what a field is by its bytes, if it isn't laid out a text
abbrev pub content_by_kind : FieldKind → List ℕ → Content
content_by_kind (RuledKind sign) field = Ruled sign
content_by_kind ShortKind field = Short
content_by_kind (RepeatedKind b) field = Repeated b
content_by_kind AboveKind field = Above
content_by_kind kind field = Text field

abbrev pub content_read : List ℕ → Content
content_read field = content_by_kind (field_kind field) field

-- and under its key
abbrev pub content_under : Key → List ℕ → Content
content_under key field = content_by_kind (kind_under key field) field

-- the fields of a row under its keys: a key that says what its fields are says it too where the row has none for it
abbrev pub content_of_kind : FieldKind → Content
content_of_kind kind = content_by_kind kind []

abbrev pub completed : FormatRow → List Content → List Content
completed format fields = fields ++ under_keys content_of_kind (Text []) (drop (length fields) format.keys)

-- the key and the field of a cell of a row: short rows of the format go on with `l`, and those of the data with empty fields
abbrev pub key_at : FormatRow → ℕ → Key
key_at format cell = get_or (map (λ k. k.key) format.keys) cell Left

abbrev pub field_at : List Content → ℕ → Content
field_at fields cell = get_or fields cell (Text [])

-- whether texts under a key are numbers, which are split
abbrev pub is_number : Key → Bool
is_number Numeric = true
is_number (_) = false

-- a text on a line of the picture: its bytes, those up to its last glyph, and its columns
pub record Run : Type 0 where
  pub bytes : List ℕ
  pub to_glyph : List ℕ
  pub columns : ℕ

-- so many blanks
abbrev pub blanks : ℕ → Run
blanks count = record { bytes = replicate count blank; to_glyph = []; columns = count }

-- bytes without the `\&` at which they are split
abbrev pub without : Option Split → List ℕ → List ℕ
without None bytes = bytes
without (Some s) bytes = take s.end bytes ++ drop s.behind bytes

-- a text that measures so much
abbrev pub run_of : Measured → List ℕ → Run
run_of m text = record { bytes = without m.split text; to_glyph = without m.split (take m.glyphs text); columns = m.width }

-- a word of a block
abbrev pub run_of_word : Word → Run
run_of_word w = record { bytes = w.text; to_glyph = w.to_glyph; columns = w.columns }

-- words of a line of a block, each behind its gap
abbrev pub further_words : List Part → List Run
further_words [] = []
further_words (EmptyLine ∷ parts) = further_words parts
further_words (OneWord w ∷ parts) = blanks w.gap ∷ run_of_word w ∷ further_words parts

-- a line of a block
abbrev pub block_line : List Part → List Run
block_line [] = []
block_line (EmptyLine ∷ parts) = further_words parts
block_line (OneWord w ∷ parts) = blanks (leading w) ∷ run_of_word w ∷ further_words parts

-- the lines of a text or a block, under its key
abbrev pub lines_of_field : Key → Content → List (List Run)
lines_of_field key (Text []) = []
lines_of_field key (Text (b ∷ bytes)) = (run_of (measured (is_number key) (b ∷ bytes)) (b ∷ bytes) ∷ []) ∷ []
lines_of_field key (Block measure lines) = map block_line (lines_of measure (parts_of lines))
lines_of_field key field = []

-- whether something stands in a field: a text, a block with a word, or a rule
abbrev pub is_entry : Content → Bool
is_entry (Text []) = false
is_entry (Text (b ∷ bytes)) = true
is_entry (Block measure lines) = has_word (parts_of lines)
is_entry Above = false
is_entry field = true

-- the lines of a text as far as it fits in so many columns, whole items of it: none where nothing does
abbrev pub run_within : ℕ → Key → List ℕ → List Run
run_within room key text = get_or (lines_of_field key (Text (fitting_text room text))) 0 []

-- a line of a text or a block, behind so many, as far as it fits in so many columns
abbrev pub line_within : ℕ → Key → Content → ℕ → List Run
line_within room key (Text bytes) line = run_within room key bytes
line_within room key (Block measure lines) line = block_line (line_fitted room (get_or (lines_of measure (parts_of lines)) line []))
line_within room key field line = []

-- the columns of what stands on a line
abbrev pub columns_of : List Run → ℕ
columns_of runs = sum_by (λ run. run.columns) runs

-- what stands on a line, up to its last glyph
abbrev pub before_glyphs : Run → List ℕ → List ℕ
before_glyphs run [] = run.to_glyph
before_glyphs run (b ∷ bytes) = run.bytes ++ b ∷ bytes

abbrev pub up_to_last_glyph : List Run → List ℕ
up_to_last_glyph [] = []
up_to_last_glyph (run ∷ runs) = before_glyphs run (up_to_last_glyph runs)
