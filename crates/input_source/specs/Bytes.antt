-- Kinds of input bytes (manual, sections 1.1 and 10.1).
use Rattle.std.specs.Prelude.{ℕ, Bool, ◌&&◌, ◌||◌, not, List, [], ◌∷◌, if◌then◌else◌, nat_le, nat_lt, ◌==◌}
use Rattle.std.specs.List.{list_any}

-- bytes with a meaning
abbrev pub start_of_text : ℕ
start_of_text = 2

abbrev pub tab : ℕ
tab = 9

abbrev pub newline : ℕ
newline = 10

abbrev pub blank : ℕ
blank = 32

abbrev pub quote : ℕ
quote = 34

abbrev pub apostrophe : ℕ
apostrophe = 39

abbrev pub comma : ℕ
comma = 44

abbrev pub dot : ℕ
dot = 46

abbrev pub backslash : ℕ
backslash = 92

abbrev pub is_digit : ℕ → Bool
is_digit b = nat_le 48 b && nat_le b 57

-- STX, ETX, ENQ, ACK and BEL: they stand in the input, and print nothing
abbrev pub is_silent : ℕ → Bool
is_silent b = list_any (λ c. b == c) (2 ∷ 3 ∷ 5 ∷ 6 ∷ 7 ∷ [])

-- all other control bytes but the tab and the newline are dropped as they are taken
abbrev pub is_dropped : ℕ → Bool
is_dropped b = (nat_lt b 32 || b == 127) && not (b == newline || b == tab || is_silent b)

-- passed over where bytes mean nothing: neither a backslash nor, unless within a block, a newline
abbrev pub is_passed : Bool → ℕ → Bool
is_passed within_block b = not (b == backslash || (not within_block && b == newline))

-- a byte of plain text: neither a control byte, DEL nor a backslash
abbrev pub is_text_byte : ℕ → Bool
is_text_byte b = not (nat_lt b 32 || (b == 127 || b == backslash))

-- a byte of a line that is held as it is read: neither a backslash, a newline nor one that is dropped
abbrev pub is_argument_byte : ℕ → Bool
is_argument_byte b = not (b == backslash || (is_dropped b || b == newline))

-- a text without the blanks at its front
abbrev pub behind_blanks : List ℕ → List ℕ
behind_blanks [] = []
behind_blanks (b ∷ text) = if b == blank then behind_blanks text else b ∷ text
