-- How many texts stand in a table: each may be cut.
use Rattle.std.specs.Prelude.{ℕ, ◌+◌, List, [], ◌∷◌}
use Rattle.tbl_layout.specs.Entries.{Block, Command, Content, Element, Row, Rule, Text}

-- a field counts if it is a text that has a byte, or a text block
abbrev pub is_text : Content → ℕ
is_text (Text []) = 0
is_text (Text (b ∷ bytes)) = 1
is_text (Block measure lines) = 1
is_text field = 0

abbrev pub texts_among : List Content → ℕ
texts_among [] = 0
texts_among (field ∷ fields) = is_text field + texts_among fields

abbrev pub texts_of : List Element → ℕ
texts_of [] = 0
texts_of (Row rules format fields ∷ elements) = texts_among fields + texts_of elements
texts_of (Rule sign ∷ elements) = texts_of elements
texts_of (Command bytes ∷ elements) = texts_of elements
