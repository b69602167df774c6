-- The data of a table: lines, of which each is a row of fields (Lesk, "Tbl": Data).
use Rattle.std.specs.Prelude.{ℕ, Bool, false, not, ◌&&◌, List, [], ◌∷◌, if◌then◌else◌, ◌==◌}
use Rattle.std.specs.List.{list_all}
use Rattle.input_source.specs.Bytes.{blank, dot, is_digit}

-- a byte in front of the first field
abbrev pub in_first : ℕ → List (List ℕ) → List (List ℕ)
in_first b [] = (b ∷ []) ∷ []
in_first b (field ∷ fields) = (b ∷ field) ∷ fields

-- the fields of a line: it is cut at each separator
abbrev pub fields : ℕ → List ℕ → List (List ℕ)
fields separator [] = [] ∷ []
fields separator (b ∷ line) = if b == separator then [] ∷ fields separator line else in_first b (fields separator line)

-- whether a line is a command: it begins with a dot, and no digit follows
abbrev pub is_command : List ℕ → Bool
is_command [] = false
is_command (b ∷ []) = b == dot
is_command (b ∷ c ∷ line) = b == dot && not (is_digit c)

-- whether a text is a brace and blanks behind it
abbrev pub is_brace : List ℕ → Bool
is_brace [] = false
is_brace (b ∷ text) = b == 123 && list_all (λ c. c == blank) text

-- whether a text is `T{` and blanks behind it
abbrev pub is_opening : List ℕ → Bool
is_opening [] = false
is_opening (b ∷ text) = b == 84 && is_brace text
