-- Escapes that print nothing on a text line and say by themselves where they end: those of fonts and sizes, of hyphenation and of
-- narrow spaces (manual, sections 2.2, 2.3, 11.1 and 13).
use Rattle.std.specs.Prelude.{ℕ, Bool, true, false, not, ◌&&◌, ◌||◌, ◌==◌, nat_lt, List, [], ◌∷◌, if◌then◌else◌}
use Rattle.input_source.specs.Bytes.{backslash, is_argument_byte, is_digit}
use Rattle.input_escapes.specs.OpenEscapes.{is_first_digit, is_sign}
use Rattle.run_model.specs.declared.line_state.LineState.{LineState}
use Rattle.run_model.specs.declared.line_state.LineState.TheVariants.{Text as InText}

-- whether a byte is the whole name of a font: a parenthesis opens one of two bytes
abbrev pub names_font : ℕ → Bool
names_font b = is_argument_byte b && not (b == 40)

-- whether two bytes may be a name behind a parenthesis
abbrev pub are_argument_bytes : ℕ → ℕ → Bool
are_argument_bytes a b = is_argument_byte a && is_argument_byte b

-- how many bytes the escape of a font has whose name of two bytes these begin with, behind its parenthesis; 0 where they don't
abbrev pub long_font : List ℕ → ℕ
long_font [] = 0
long_font (a ∷ []) = 0
long_font (a ∷ b ∷ bytes) = if are_argument_bytes a b then 5 else 0

-- the same of any name
abbrev pub font_escape : List ℕ → ℕ
font_escape [] = 0
font_escape (b ∷ bytes) = if b == 40 then long_font bytes else if names_font b then 3 else 0

-- whether a second byte belongs to a size behind this one
abbrev pub begins_long_size : ℕ → Bool
begins_long_size b = is_sign b || is_first_digit b

-- how many bytes the escape of a size of two bytes has whose second one these begin with
abbrev pub long_size : List ℕ → ℕ
long_size [] = 0
long_size (b ∷ bytes) = if is_digit b then 4 else 0

-- the same of any size
abbrev pub size_escape : List ℕ → ℕ
size_escape [] = 0
size_escape (b ∷ bytes) = if begins_long_size b then long_size bytes else if is_digit b then 3 else 0

-- whether this letter alone is such an escape: of hyphenation, or of a narrow space
abbrev pub is_silent_letter : ℕ → Bool
is_silent_letter b = b == 37 || b == 124 || b == 94

-- how many bytes the escape has that these begin with behind a backslash
abbrev pub silent_behind : List ℕ → ℕ
silent_behind [] = 0
silent_behind (b ∷ bytes) =
    if b == 102 then font_escape bytes
    else if b == 115 then size_escape bytes
    else if is_silent_letter b then 2
    else 0

-- how many bytes the escape has that these begin with; 0 where they begin with none that prints nothing, or don't hold all of it
abbrev pub silent_escape : List ℕ → ℕ
silent_escape [] = 0
silent_escape (b ∷ bytes) = if b == backslash then silent_behind bytes else 0

-- whether one is taken where this is read: on a text line
abbrev pub takes_silent : LineState → List ℕ → Bool
takes_silent (InText line) bytes = nat_lt 0 (silent_escape bytes)
takes_silent (_) bytes = false

-- what is read behind it: a line that is more than blanks
abbrev pub behind_silent : LineState → LineState
behind_silent (InText line) = InText (record line { has_other = true })
behind_silent reading = reading
