-- Escapes that print a glyph: those of one letter, and characters of one glyph (manual, sections 2.1, 4.1 and 10.1, and the table of
-- special characters).
use Rattle.std.specs.Prelude.{ℕ, Bool, false, ◌&&◌, List, [], ◌∷◌, Option, Some, None, ◌==◌, ◌||◌, if◌then◌else◌}
use Rattle.page_model.specs.declared.glyph.Glyph.{Glyph}
use Rattle.page_model.specs.declared.glyph.Glyph.TheVariants.{Blanks, Printed}
use Rattle.run_model.specs.declared.line_state.LineState.{LineState}
use Rattle.run_model.specs.declared.line_state.LineState.TheVariants.{Text as InText}
use Rattle.input_source.specs.Bytes.{backslash}
use Rattle.input_escapes.specs.Characters.{character}
use Rattle.read_shortcuts.specs.SilentEscapes.{are_argument_bytes}

-- whether one of these stands for itself behind a backslash: a minus, a dot, an acute or a grave accent
abbrev pub prints_itself : ℕ → Bool
prints_itself b = b == 45 || b == 46 || b == 39 || b == 96

-- the glyph that this letter prints behind a backslash, if it prints one of these: an unpaddable blank, a glyph without width, a
-- backslash, or itself
abbrev pub glyph_of_letter : ℕ → Option Glyph
glyph_of_letter b =
    if b == 32 || b == 48 then Some (Blanks 1)
    else if b == 38 then Some (Blanks 0)
    else if b == 101 || b == 92 then Some (Printed 92)
    else if prints_itself b then Some (Printed b)
    else None

-- the glyph that a character's text is, if it has one byte
abbrev pub only_glyph : Option (List ℕ) → Option Glyph
only_glyph None = None
only_glyph (Some []) = None
only_glyph (Some (b ∷ [])) = Some (Printed b)
only_glyph (Some (b ∷ c ∷ text)) = None

-- the glyph of the character that has these two bytes as its name, if it prints one alone
abbrev pub glyph_of_name : ℕ → ℕ → Option Glyph
glyph_of_name a b = if are_argument_bytes a b then only_glyph (character (a ∷ b ∷ [])) else None

-- the same of the bytes behind a parenthesis
abbrev pub named_glyph : List ℕ → Option Glyph
named_glyph [] = None
named_glyph (a ∷ []) = None
named_glyph (a ∷ b ∷ bytes) = glyph_of_name a b

-- a glyph, and how many bytes its escape has
abbrev pub with_length : Option Glyph → ℕ → Option (Glyph × ℕ)
with_length None length = None
with_length (Some glyph) length = Some (glyph, length)

-- the same of the bytes behind a backslash
abbrev pub glyph_behind : List ℕ → Option (Glyph × ℕ)
glyph_behind [] = None
glyph_behind (b ∷ bytes) = if b == 40 then with_length (named_glyph bytes) 4 else with_length (glyph_of_letter b) 2

-- the glyph whose escape these bytes begin with, if they begin with a whole one, and how many bytes that has
abbrev pub glyph_in_front : List ℕ → Option (Glyph × ℕ)
glyph_in_front [] = None
glyph_in_front (b ∷ bytes) = if b == backslash then glyph_behind bytes else None

-- whether a text line goes on behind a glyph
abbrev pub is_behind_glyph : LineState → Bool
is_behind_glyph (InText line) = line.has_glyph && line.leading == 0
is_behind_glyph (_) = false
