-- The lines that the words of a text block fill (Lesk, "Tbl": Text Blocks; Ossanna and Kernighan, section 4.1).
use Rattle.std.specs.Prelude.{◌≡◌, ℕ, zero, suc, ◌+◌, ◌<◌, ◌≤◌, Bool, true, false, ◌⊎◌, List, [], ◌∷◌, ◌++◌, length, take, drop, max, replicate, Some, if◌then◌else◌}
use Rattle.std.specs.List.{flat_map}
use Rattle.roff_lines.specs.declared.fill.Word.{Word as MeasuredWord}
use Rattle.roff_lines.specs.FirstLine.{count_joining, first_line_count}
use Rattle.input_source.specs.Bytes.{blank}
use Rattle.tbl_text.specs.BlockWords.{Word, Part, EmptyLine, OneWord}

-- the blanks that stand in front of a word where it begins a line of the picture: those of its own line, if it breaks
abbrev pub leading : Word → ℕ
leading w = if w.breaks then w.gap else 0

-- the width of a line that a word begins
abbrev pub begun_width : Word → ℕ
begun_width w = leading w + w.columns

-- a word as it is measured behind another one
abbrev pub measured : Word → MeasuredWord
measured w = record { gap = w.gap; width = w.columns }

-- a word as it is measured where it begins a line
abbrev pub measured_first : Word → MeasuredWord
measured_first w = record { gap = 0; width = begun_width w }

-- the words in front of what is left that may join a line: up to one that breaks it, or an empty line
abbrev pub joining : List Part → List MeasuredWord
joining [] = []
joining (EmptyLine ∷ parts) = []
joining (OneWord w ∷ parts) = if w.breaks then [] else measured w ∷ joining parts

-- how many parts the first line has: an empty line stands alone, and of words it is the longest front that fits in the measure
abbrev pub first_count : ℕ → List Part → ℕ
first_count measure [] = 0
first_count measure (EmptyLine ∷ parts) = 1
first_count measure (OneWord w ∷ parts) = first_line_count measure (measured_first w ∷ joining parts)

-- the first lines, so many at most: each takes what it may of what is left
abbrev pub lines_up_to : ℕ → ℕ → List Part → List (List Part)
lines_up_to zero measure parts = []
lines_up_to (suc n) measure [] = []
lines_up_to (suc n) measure (p ∷ parts) =
    let count = first_count measure (p ∷ parts) in
    take count (p ∷ parts) ∷ lines_up_to n measure (drop count (p ∷ parts))

-- the lines of a block's parts in a measure of so many columns
abbrev pub lines_of : ℕ → List Part → List (List Part)
lines_of measure parts = lines_up_to (length parts) measure parts

-- the width of a line behind further words
abbrev pub width_behind : ℕ → List Part → ℕ
width_behind width [] = width
width_behind width (EmptyLine ∷ line) = width_behind width line
width_behind width (OneWord w ∷ line) = width_behind (width + w.gap + w.columns) line

-- the width of a line
abbrev pub line_width : List Part → ℕ
line_width [] = 0
line_width (EmptyLine ∷ line) = width_behind 0 line
line_width (OneWord w ∷ line) = width_behind (begun_width w) line

-- the width of the widest of some lines
abbrev pub widest : List (List Part) → ℕ
widest [] = 0
widest (line ∷ lines) = max (line_width line) (widest lines)

-- whether a block has a word
abbrev pub has_word : List Part → Bool
has_word [] = false
has_word (EmptyLine ∷ parts) = has_word parts
has_word (OneWord w ∷ parts) = true

-- how many of the parts in front go on with a line of this width
abbrev pub joined_count : ℕ → ℕ → List Part → ℕ
joined_count measure width parts = count_joining measure (Some width) (joining parts)

-- what goes on with a line of this width, and what is left behind it
abbrev pub rest_of_line : ℕ → ℕ → List Part → List Part
rest_of_line measure width parts = take (joined_count measure width parts) parts

abbrev pub behind_rest : ℕ → ℕ → List Part → List Part
behind_rest measure width parts = drop (joined_count measure width parts) parts

-- the first line of what is left, and what is left behind it
abbrev pub first_line : ℕ → List Part → List Part
first_line measure parts = take (first_count measure parts) parts

abbrev pub behind_first : ℕ → List Part → List Part
behind_first measure parts = drop (first_count measure parts) parts

-- the words behind the first of a line fit in the measure, each behind those before it
abbrev pub EachFits : ℕ → ℕ → List Part → Type 0
EachFits measure width [] = Unit {0}
EachFits measure width (EmptyLine ∷ line) = ⊥
EachFits measure width (OneWord w ∷ line) =
    (w.breaks ≡ false) × (width + w.gap + w.columns ≤ measure) × EachFits measure (width + w.gap + w.columns) line

-- a line has a word and such as fit behind it, or is empty
abbrev pub IsLine : ℕ → List Part → Type 0
IsLine measure [] = ⊥
IsLine measure (EmptyLine ∷ line) = line ≡ []
IsLine measure (OneWord w ∷ line) = EachFits measure (begun_width w) line

-- what is left begins a line behind one of this width: a word breaks, or doesn't fit
abbrev pub Begins : ℕ → ℕ → List Part → Type 0
Begins measure width [] = Unit {0}
Begins measure width (EmptyLine ∷ parts) = Unit {0}
Begins measure width (OneWord w ∷ parts) = (w.breaks ≡ true) ⊎ (measure < width + w.gap + w.columns)

-- a line begins where no part of it could stand on the line before: an empty line stands alone
abbrev pub BeginsBehind : ℕ → List Part → List Part → Type 0
BeginsBehind measure [] line = ⊥
BeginsBehind measure (EmptyLine ∷ before) line = Unit {0}
BeginsBehind measure (OneWord w ∷ before) line = Begins measure (line_width (OneWord w ∷ before)) line

-- each line is one, and the next one begins behind it
abbrev pub AreLongest : ℕ → List (List Part) → Type 0
AreLongest measure [] = Unit {0}
AreLongest measure (line ∷ []) = IsLine measure line
AreLongest measure (line ∷ next ∷ lines) =
    IsLine measure line × BeginsBehind measure line next × AreLongest measure (next ∷ lines)

-- of a block's parts in a measure
pub record FillsBlock (measure : ℕ) (parts : List Part) : Type 0 where
  -- the lines, one behind the other, have the parts in order
  pub joined : flat_map (λ line. line) (lines_of measure parts) ≡ parts
  -- each line but for its first word is as long as it may be: the word that begins the next one breaks, or wouldn't fit
  pub longest : AreLongest measure (lines_of measure parts)

-- the bytes of the words behind the first of a line, each behind its gap
abbrev pub text_behind : List Part → List ℕ
text_behind [] = []
text_behind (EmptyLine ∷ line) = text_behind line
text_behind (OneWord w ∷ line) = replicate w.gap blank ++ (w.text ++ text_behind line)

-- the bytes of a line
abbrev pub line_text : List Part → List ℕ
line_text [] = []
line_text (EmptyLine ∷ line) = text_behind line
line_text (OneWord w ∷ line) = replicate (leading w) blank ++ (w.text ++ text_behind line)
