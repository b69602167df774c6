-- Where a block is read in its bytes, and what comes next there.
use Rattle.std.specs.Prelude.{ℕ, ◌+◌, ◌-◌, ◌<◌, ◌≤◌, Bool, List, [], ◌∷◌, ◌++◌, drop, length, map, nat_lt, Option, Some, None, if◌then◌else◌}
use Rattle.std.specs.List.{slice_range}
use Rattle.tbl_text.specs.BlockWords.{Word, Part, EmptyLine as AnEmptyLine, OneWord, words_of, known_behind, parts_behind, lines_in}
use Rattle.tbl_text.specs.declared.block_parts.BlockPlace.{BlockPlace}
use Rattle.tbl_text.specs.declared.block_parts.BlockPlace.TheVariants.{AtLine, AtLineWithin, Behind, BehindWithin, AtEnd}
use Rattle.tbl_text.specs.FittedWords.{further_fitted, line_fitted}
use Rattle.tbl_text.specs.declared.block_parts.Room.{Room}
use Rattle.tbl_text.specs.declared.block_parts.BlockPart.{BlockPart}
use Rattle.tbl_text.specs.declared.block_parts.BlockPart.TheVariants.{EmptyLine, Word as AWord}
use Rattle.tbl_text.specs.declared.block_words.BlockWord.{BlockWord}

-- where the line begins behind one that ends at a place, if one does
abbrev pub line_behind : List ℕ → ℕ → Option ℕ
line_behind bytes end = if nat_lt end (length bytes) then Some (end + 1) else None

-- the lines from one on that begins at a place, if one does
abbrev pub lines_from : List ℕ → Option ℕ → List (List ℕ)
lines_from bytes None = []
lines_from bytes (Some line) = lines_in (drop line bytes)

-- parts as far as they fit in so many columns, in which the first begins a line, or goes on with it
abbrev pub parts_within : Room → List Part → List Part
parts_within room parts = if room.is_first then line_fitted room.columns parts else further_fitted room.columns parts

-- the blanks in front of a word there
abbrev pub gap_in : Room → BlockWord → ℕ
gap_in room w = if room.is_first then (if w.breaks then w.gap else 0) else w.gap

-- the parts of a block that are left at a place
abbrev pub parts_at : List ℕ → BlockPlace → List Part
parts_at bytes (AtLine line before) = parts_behind before (lines_in (drop line bytes))
parts_at bytes (Behind at end ends) =
    let words = words_of (slice_range bytes at end) in
    map OneWord words ++ parts_behind (known_behind (Some ends) words) (lines_from bytes (line_behind bytes end))
parts_at bytes AtEnd = []
parts_at bytes (AtLineWithin line before room) = parts_within room (parts_behind before (lines_in (drop line bytes)))
parts_at bytes (BehindWithin at end ends room) =
    let words = words_of (slice_range bytes at end) in
    parts_within room (map OneWord words ++ parts_behind (known_behind (Some ends) words) (lines_from bytes (line_behind bytes end)))

-- the same place, from which parts are read as far as they fit in a room
abbrev pub place_within : Room → BlockPlace → BlockPlace
place_within room (AtLine line before) = AtLineWithin line before room
place_within room (Behind at end ends) = BehindWithin at end ends room
place_within room place = place

-- a place from which all is read
abbrev pub ReadsAll : BlockPlace → Type 0
ReadsAll (AtLine line before) = Unit {0}
ReadsAll (Behind at end ends) = Unit {0}
ReadsAll AtEnd = Unit {0}
ReadsAll (AtLineWithin line before room) = ⊥
ReadsAll (BehindWithin at end ends room) = ⊥

-- a place within a block
abbrev pub IsWithin : List ℕ → BlockPlace → Type 0
IsWithin bytes (AtLine line before) = line ≤ length bytes
IsWithin bytes (Behind at end ends) = (at ≤ end) × (end ≤ length bytes)
IsWithin bytes AtEnd = Unit {0}
IsWithin bytes (AtLineWithin line before room) = line ≤ length bytes
IsWithin bytes (BehindWithin at end ends room) = (at ≤ end) × (end ≤ length bytes)

-- how much of a block is left at a place: its bytes, and one for its end
abbrev pub left_at : List ℕ → BlockPlace → ℕ
left_at bytes (AtLine line before) = length bytes - line + 1
left_at bytes (Behind at end ends) = length bytes - at + 1
left_at bytes AtEnd = 0
left_at bytes (AtLineWithin line before room) = length bytes - line + 1
left_at bytes (BehindWithin at end ends room) = length bytes - at + 1

-- a word by its place
abbrev pub word_at : List ℕ → BlockWord → Word
word_at bytes w = record {
  breaks = w.breaks;
  gap = w.gap;
  text = slice_range bytes w.from w.to;
  to_glyph = slice_range bytes w.from w.glyphs;
  columns = w.width;
  ends_sentence = w.ends_sentence;
}

-- a part by its place
abbrev pub part_at : List ℕ → BlockPart → Part
part_at bytes EmptyLine = AnEmptyLine
part_at bytes (AWord w) = OneWord (word_at bytes w)

-- a word lies in bytes, behind a place; its blanks and its columns are so few
pub record LiesBehind (bytes : List ℕ) (place : ℕ) (w : BlockWord) : Type 0 where
  pub begins : place ≤ w.from
  pub order : w.from < w.glyphs
  pub last : w.glyphs ≤ w.to
  pub some : place < w.to
  pub within : w.to ≤ length bytes
  pub gap : w.gap ≤ length bytes + 2
  pub width : w.from + w.width ≤ w.to

-- a part lies in bytes, if it is a word
abbrev pub PartLies : List ℕ → BlockPart → Type 0
PartLies bytes EmptyLine = Unit {0}
PartLies bytes (AWord w) = LiesBehind bytes 0 w

-- how much of a block is left from a line on, if one begins
abbrev pub left_from : List ℕ → Option ℕ → ℕ
left_from bytes None = 0
left_from bytes (Some line) = length bytes - line + 1

-- a block of which so much is left goes on behind its next part
pub record GoesOn (bytes : List ℕ) (left : ℕ) (next : BlockPart × BlockPlace) : Type 0 where
  pub lies : PartLies bytes next.0
  pub within : IsWithin bytes next.1
  pub less : left_at bytes next.1 < left

-- what comes next, and what is left behind it
abbrev pub parts_with : List ℕ → Option (BlockPart × BlockPlace) → List Part
parts_with bytes None = []
parts_with bytes (Some next) = part_at bytes next.0 ∷ parts_at bytes next.1

-- the parts that are left behind a word of a line that ends at a place, by the next word of that line: if it has none, those of
-- the lines behind it, where it is known whether the word ends a sentence
abbrev pub parts_of_word : List ℕ → ℕ → Bool → Option BlockWord → List Part
parts_of_word bytes end ends None = parts_behind (Some ends) (lines_from bytes (line_behind bytes end))
parts_of_word bytes end ends (Some w) = OneWord (word_at bytes w) ∷ parts_at bytes (Behind w.to end w.ends_sentence)

-- a block of which so much is left goes on behind a word of a line that ends at a place
abbrev pub WordGoesOn : List ℕ → ℕ → ℕ → BlockWord → Type 0
WordGoesOn bytes left end w = GoesOn bytes left (AWord w, Behind w.to end w.ends_sentence)

-- what a line gives first, and what is left behind that; it may give nothing
abbrev pub parts_first : List ℕ → List Part → Option (BlockPart × BlockPlace) → List Part
parts_first bytes behind None = behind
parts_first bytes behind (Some next) = part_at bytes next.0 ∷ parts_at bytes next.1

-- the words of a line: the next one, and those of what is left behind it
abbrev pub words_with : List ℕ → Option BlockWord → List Word
words_with line None = []
words_with line (Some w) = word_at line w ∷ words_of (drop w.to line)
