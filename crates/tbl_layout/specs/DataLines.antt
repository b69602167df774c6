-- The lines of a table's data: commands, rows of fields, and the lines of text blocks (Lesk, "Tbl": Data).
use Rattle.std.specs.Prelude.{ℕ, ◌+◌, Bool, true, false, not, ◌&&◌, ◌||◌, List, [], ◌∷◌, take, drop, get_or, length, Option, None, Some, bytes_eq, codes, if◌then◌else◌, ◌==◌}
use Rattle.input_source.specs.Bytes.{tab, blank, backslash, behind_blanks}
use Rattle.tbl_layout.specs.Data.{fields, is_command, is_opening}
use Rattle.tbl_format.specs.declared.format.Key.{Key}
use Rattle.tbl_layout.specs.RuleKeys.{kind_of_key}
use Rattle.tbl_layout.specs.Widths.{width_in_text}
use Rattle.tbl_layout.specs.declared.data_lines.BlockLineKind.{BlockLineKind}
use Rattle.tbl_layout.specs.declared.data_lines.BlockLineKind.TheVariants.{End, Request, Text}
use Rattle.tbl_layout.specs.declared.data_lines.FieldKind.{FieldKind}
use Rattle.tbl_layout.specs.declared.data_lines.FieldKind.TheVariants.{Above, Repeated, Ruled, Short, Text as OneText}
use Rattle.tbl_layout.specs.declared.data_lines.LineKind.{LineKind}
use Rattle.tbl_layout.specs.declared.data_lines.LineKind.TheVariants.{Command, Formats, Row, Rule}
use Rattle.tbl_layout.specs.declared.data_lines.RuleSign.{RuleSign}
use Rattle.tbl_layout.specs.declared.data_lines.RuleSign.TheVariants.{Double, Single}

-- the byte that a rule is drawn with
abbrev pub sign_byte : RuleSign → ℕ
sign_byte Single = 45
sign_byte Double = 61

-- whether two rules are drawn alike
abbrev pub is_same_sign : RuleSign → RuleSign → Bool
is_same_sign Single Single = true
is_same_sign Single Double = false
is_same_sign Double Single = false
is_same_sign Double Double = true

-- whether these bytes are one that is repeated behind `\R`
abbrev pub is_repeated : List ℕ → Bool
is_repeated [] = false
is_repeated (b ∷ []) = width_in_text b == 1 && not (b == backslash)
is_repeated (b ∷ c ∷ bytes) = false

-- what a field is: `_` and `=` rule its column, `\_` is a rule as wide as the column's widest text, `\R` with a byte of one column
-- repeats that over the column, and `\^` goes on with the field above
abbrev pub field_kind : List ℕ → FieldKind
field_kind field =
    if bytes_eq field (codes "_") then Ruled Single
    else if bytes_eq field (codes "=") then Ruled Double
    else if bytes_eq field (codes "\\_") then Short
    else if bytes_eq field (codes "\\^") then Above
    else if bytes_eq (take 2 field) (codes "\\R") && is_repeated (drop 2 field) then Repeated (get_or field 2 0)
    else OneText

-- what it is under a key: a rule key and `^` take it, whatever it is
abbrev pub kind_if : Option FieldKind → List ℕ → FieldKind
kind_if (Some kind) field = kind
kind_if None field = field_kind field

abbrev pub kind_under : Key → List ℕ → FieldKind
kind_under key field = kind_if (kind_of_key key) field

-- whether a name ends in front of these bytes: with the line, or at a blank or a tab
abbrev pub ends_name : List ℕ → Bool
ends_name [] = true
ends_name (b ∷ line) = b == blank || b == tab

-- whether a line is `.T&`
abbrev pub begins_format : List ℕ → Bool
begins_format line = bytes_eq (take 3 line) (codes ".T&") && ends_name (drop 3 line)

-- what a line is that is no rule
abbrev pub other_line_kind : List ℕ → LineKind
other_line_kind line = if begins_format line then Formats else if is_command line then Command else Row

-- what a line is, where no text block is open
abbrev pub line_kind : List ℕ → LineKind
line_kind line =
    if bytes_eq line (codes "_") then Rule Single
    else if bytes_eq line (codes "=") then Rule Double
    else other_line_kind line

-- what a line is, where one is open
abbrev pub block_line_kind : List ℕ → BlockLineKind
block_line_kind line =
    if bytes_eq (take 2 line) (codes "T}") then End
    else if bytes_eq (take 1 line) (codes ".") then Request
    else Text

-- whether a field opens a text block: it is `T{`, with blanks around it or without
abbrev pub opens_block : List ℕ → Bool
opens_block field = is_opening (behind_blanks field)

-- whether the last of these fields opens one
abbrev pub ends_in_block : List (List ℕ) → Bool
ends_in_block [] = false
ends_in_block (field ∷ []) = opens_block field
ends_in_block (field ∷ next ∷ fields) = ends_in_block (next ∷ fields)

-- these fields but for the last one, if it opens one
abbrev pub without_opening : List (List ℕ) → List (List ℕ)
without_opening [] = []
without_opening (field ∷ []) = if opens_block field then [] else field ∷ []
without_opening (field ∷ next ∷ fields) = field ∷ without_opening (next ∷ fields)

-- the fields behind the block on the line that ends it: what stands between `T}` and a separator is none
abbrev pub behind_first : List (List ℕ) → List (List ℕ)
behind_first [] = []
behind_first (field ∷ fields) = fields

abbrev pub fields_behind_block : ℕ → List ℕ → List (List ℕ)
fields_behind_block separator line = behind_first (fields separator (drop 2 line))

-- whether a row or a command ends with a line, where no text block is open, and where one is
abbrev pub kind_ends_row : LineKind → ℕ → List ℕ → Bool
kind_ends_row (Rule sign) separator line = true
kind_ends_row Formats separator line = false
kind_ends_row Command separator line = true
kind_ends_row Row separator line = not (ends_in_block (fields separator line))

abbrev pub block_kind_ends_row : BlockLineKind → ℕ → List ℕ → Bool
block_kind_ends_row End separator line = not (ends_in_block (fields_behind_block separator line))
block_kind_ends_row Request separator line = false
block_kind_ends_row Text separator line = false

abbrev pub ends_row : Bool → ℕ → List ℕ → Bool
ends_row is_in_block separator line =
    if is_in_block then block_kind_ends_row (block_line_kind line) separator line
    else kind_ends_row (line_kind line) separator line

-- how many bytes fields have on their line, each with the separator behind it
abbrev pub len_of_fields : List (List ℕ) → ℕ
len_of_fields [] = 0
len_of_fields (field ∷ fields) = length field + (1 + len_of_fields fields)
