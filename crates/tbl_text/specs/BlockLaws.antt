-- Words for the laws and the worked rows of text blocks.
use Rattle.std.specs.Prelude.{◌≡◌, ℕ, ◌==◌, false, List, [], ◌∷◌, map, if◌then◌else◌}
use Rattle.std.specs.List.{All, flat_map, join_with_byte}
use Rattle.input_source.specs.Bytes.{newline}
use Rattle.tbl_text.specs.BlockWords.{Part, EmptyLine, OneWord, is_empty_line, is_request, lines_in, parts_of, words_of}
use Rattle.tbl_text.specs.BlockLines.{line_text, lines_of}

-- the bytes of the lines of a block that has these lines, in a measure of so many columns
abbrev pub filled_texts : ℕ → List (List ℕ) → List (List ℕ)
filled_texts measure lines = map line_text (lines_of measure (parts_of lines))

-- the bytes of the words of some parts
abbrev pub texts : List Part → List (List ℕ)
texts [] = []
texts (EmptyLine ∷ parts) = texts parts
texts (OneWord w ∷ parts) = w.text ∷ texts parts

-- the bytes of the words that a line of a block has: a request has none
abbrev pub texts_of_line : List ℕ → List (List ℕ)
texts_of_line line = if is_request line then [] else if is_empty_line line then [] else map (λ w. w.text) (words_of line)

-- the lines of a filled block, one behind the other, have the words of its own lines in order
abbrev pub KeepWords : ℕ → List (List ℕ) → Type 0
KeepWords measure lines = texts (flat_map (λ line. line) (lines_of measure (parts_of lines))) ≡ flat_map texts_of_line lines

-- bytes without a newline
abbrev pub HasNoNewline : List ℕ → Type 0
HasNoNewline line = All (λ b. (b == newline) ≡ false) line

-- lines without a newline, one at least
abbrev pub AreLines : List (List ℕ) → Type 0
AreLines [] = ⊥
AreLines (line ∷ []) = HasNoNewline line
AreLines (line ∷ next ∷ lines) = HasNoNewline line × AreLines (next ∷ lines)

-- lines that lie behind each other, with a newline between two of them, are those that lie there
abbrev pub LieJoined : List (List ℕ) → Type 0
LieJoined lines = AreLines lines → lines_in (join_with_byte newline lines) ≡ lines
