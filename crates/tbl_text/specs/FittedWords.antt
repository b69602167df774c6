-- The words of a line of a text block as far as they fit in so many columns (Lesk, "Tbl": Format, the key letter `z`).
use Rattle.std.specs.Prelude.{ℕ, ◌+◌, ◌-◌, List, [], ◌∷◌, map, nat_lt, take, if◌then◌else◌}
use Rattle.tbl_text.specs.BlockLines.{begun_width, leading}
use Rattle.tbl_text.specs.BlockWords.{EmptyLine, OneWord, Part, Word, words_of}
use Rattle.tbl_text.specs.Fitted.{fitting_text}

-- a word as far as it fits: what of it fits is a word, or has no glyph, and is nothing
abbrev pub word_fitted : ℕ → Word → List Word
word_fitted room w = map (λ (v : Word). record v { breaks = w.breaks; gap = w.gap }) (take 1 (words_of (fitting_text room w.text)))

-- a word behind so many blanks, in front of others, as far as it fits with these
abbrev pub fitted_before : ℕ → ℕ → Word → List Part → List Part
fitted_before room gap w others =
    if nat_lt room gap then []
    else if nat_lt room (gap + w.columns) then map OneWord (word_fitted (room - gap) w)
    else OneWord w ∷ others

-- the words behind the first of a line, and a line: its end isn't looked for here
abbrev pub further_fitted : ℕ → List Part → List Part
further_fitted room [] = []
further_fitted room (EmptyLine ∷ parts) = EmptyLine ∷ parts
further_fitted room (OneWord w ∷ parts) = fitted_before room w.gap w (further_fitted (room - (w.gap + w.columns)) parts)

abbrev pub line_fitted : ℕ → List Part → List Part
line_fitted room [] = []
line_fitted room (EmptyLine ∷ parts) = EmptyLine ∷ parts
line_fitted room (OneWord w ∷ parts) = fitted_before room (leading w) w (further_fitted (room - begun_width w) parts)
