-- The lines of a block that lies in bytes, as they are filled word by word.
use Rattle.std.specs.Prelude.{◌≡◌, ℕ, ◌+◌, ◌≤◌, Bool, true, false, List, [], ◌∷◌, IfSome, Option, Some, None, if◌then◌else◌}
use Rattle.roff_lines.specs.FirstLine.{width_with}
use Rattle.tbl_text.specs.BlockWords.{Part, OneWord}
use Rattle.tbl_text.specs.BlockLines.{rest_of_line, behind_rest}
use Rattle.tbl_text.specs.BlockPlaces.{parts_at, parts_with, word_at, left_at, GoesOn, ReadsAll}
use Rattle.tbl_text.specs.declared.block_parts.BlockPlace.{BlockPlace}
use Rattle.tbl_text.specs.declared.block_parts.BlockPart.{BlockPart}
use Rattle.tbl_text.specs.declared.block_parts.BlockPart.TheVariants.{EmptyLine as AnEmptyLine, Word as AWord}
use Rattle.tbl_text.specs.declared.block_words.BlockWord.{BlockWord}
use Rattle.tbl_text.specs.declared.block_lines.OnLine.{OnLine}
use Rattle.tbl_text.specs.declared.block_lines.OnLine.TheVariants.{Joins, Ends}

-- the blanks in front of a word where it begins a line, and the width of the line that it begins
abbrev pub leading_of : BlockWord → ℕ
leading_of w = if w.breaks then w.gap else 0

-- the width of a line with a word more, if it goes on with it
abbrev pub joined_width : ℕ → ℕ → BlockWord → Option ℕ
joined_width measure width w =
    if w.breaks then None else width_with measure (Some width) (record { gap = w.gap; width = w.width })

-- what goes on with a line, by its next word
abbrev pub line_with : List ℕ → ℕ → OnLine → List Part
line_with bytes measure (Joins w width place) = OneWord (word_at bytes w) ∷ rest_of_line measure width (parts_at bytes place)
line_with bytes measure (Ends next) = []

-- what is left behind the line
abbrev pub behind_with : List ℕ → ℕ → OnLine → List Part
behind_with bytes measure (Joins w width place) = behind_rest measure width (parts_at bytes place)
behind_with bytes measure (Ends next) = parts_with bytes next

-- the width of a line with the word that goes on with it: it fits
abbrev pub IsWidened : ℕ → ℕ → OnLine → Type 0
IsWidened measure width (Joins w wider place) = (wider ≡ width + w.gap + w.width) × (wider ≤ measure)
IsWidened measure width (Ends next) = Unit {0}

-- a block of which so much is left goes on behind the next word of a line, or behind what the line ends before
abbrev pub LineGoesOn : List ℕ → ℕ → OnLine → Type 0
LineGoesOn bytes left (Joins w width place) = GoesOn bytes left (AWord w, place)
LineGoesOn bytes left (Ends next) = IfSome next (GoesOn bytes left)

-- behind what comes next on a line all is read
abbrev pub LineReadsAll : OnLine → Type 0
LineReadsAll (Joins w width place) = ReadsAll place
LineReadsAll (Ends next) = IfSome next (λ n. ReadsAll n.1)

-- how much is left of a block with a part that comes next
abbrev pub left_with : List ℕ → Option (BlockPart × BlockPlace) → ℕ
left_with bytes None = 0
left_with bytes (Some next) = left_at bytes next.1 + 1

-- whether a part is a word
abbrev pub is_word : BlockPart → Bool
is_word AnEmptyLine = false
is_word (AWord w) = true

-- what comes next on a line, by whether the word joins it
abbrev pub by_width : BlockWord → BlockPlace → Option ℕ → OnLine
by_width w behind None = Ends (Some (AWord w, behind))
by_width w behind (Some wider) = Joins w wider behind

abbrev pub word_on_line : ℕ → ℕ → BlockWord → BlockPlace → OnLine
word_on_line measure width w behind = by_width w behind (joined_width measure width w)
