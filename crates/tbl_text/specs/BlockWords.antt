-- The words of a text block, and how they stand to each other (Lesk, "Tbl": Text Blocks; Ossanna and Kernighan, "Troff User's
-- Manual", sections 1.1 and 4.1).
use Rattle.std.specs.Prelude.{ℕ, ◌+◌, Bool, true, false, not, ◌&&◌, ◌||◌, List, [], ◌∷◌, ◌++◌, fold, map, nat_lt, Option, Some, None, if◌then◌else◌, ◌==◌}
use Rattle.std.specs.List.{list_any, list_all, slice_split}
use Rattle.page_model.specs.Words.{ends_sentence_behind}
use Rattle.input_source.specs.Bytes.{blank, newline, dot, backslash, is_dropped}
use Rattle.tbl_text.specs.Items.{Item, items, is_blank, is_glyph}
use Rattle.tbl_text.specs.Measuring.{bytes_of, width_of, up_to_last_glyph}
use Rattle.tbl_text.specs.declared.items.What.{What}
use Rattle.tbl_text.specs.declared.items.What.TheVariants.{Blank, Byte, Glyph, Ampersand, NotMeasured, Nothing, Dropped}

-- a word: whether it begins a line of the picture whatever stands before it; the blanks in front of it; its bytes, and those up
-- to its last glyph; its columns; and whether a sentence ends with it
pub record Word : Type 0 where
  pub breaks : Bool
  pub gap : ℕ
  pub text : List ℕ
  pub to_glyph : List ℕ
  pub columns : ℕ
  pub ends_sentence : Bool

-- a part of a block: an empty line, or a word
pub data Part : Type 0 where
  EmptyLine : Part
  OneWord : Word → Part

-- whether some items have a glyph
abbrev pub has_glyph : List Item → Bool
has_glyph run = list_any (λ i. is_glyph i.what) run

-- whether a sentence ends behind an item: closers, and what is no glyph, leave that as it was before them
abbrev pub ends_behind : Bool → What → Bool
ends_behind before Blank = before
ends_behind before (Byte b) = ends_sentence_behind (b ∷ []) before
ends_behind before (Glyph n) = false
ends_behind before Ampersand = false
ends_behind before (NotMeasured b) = false
ends_behind before Nothing = before
ends_behind before Dropped = before

-- whether a sentence ends with these items
abbrev pub ends_sentence : List Item → Bool
ends_sentence run = fold (λ before i. ends_behind before i.what) false run

-- the word of a run of items, behind so many blanks
abbrev pub word_of : ℕ → List Item → Word
word_of gap run = record {
  breaks = false;
  gap = gap;
  text = bytes_of run;
  to_glyph = bytes_of (up_to_last_glyph run);
  columns = width_of run;
  ends_sentence = ends_sentence run;
}

-- The words of what is left of a line, behind so many blanks and a run that goes on: a run between blanks that has a glyph is a
-- word. One that has none goes, and the blanks around it add up.
abbrev pub words_behind : ℕ → List Item → List Item → List Word
words_behind gap run [] = if has_glyph run then word_of gap run ∷ [] else []
words_behind gap run (i ∷ left) =
    if is_blank i.what
    then (if has_glyph run then word_of gap run ∷ words_behind 1 [] left else words_behind (gap + 1) [] left)
    else words_behind gap (run ++ i ∷ []) left

-- the words of a line
abbrev pub words_of : List ℕ → List Word
words_of line = words_behind 0 [] (items line)

-- a request: a line that begins with a dot
abbrev pub is_request : List ℕ → Bool
is_request [] = false
is_request (b ∷ line) = b == dot

-- a line of blanks alone, where bytes that are dropped aren't there
abbrev pub is_empty_line : List ℕ → Bool
is_empty_line line = list_all (λ b. b == blank || is_dropped b) line

-- The first word of a line, behind what is known of the word before it, if it may stand behind one: whether that ends a
-- sentence. Blanks in front of it break. Else its gap is that of a line's end, two blanks behind a sentence.
abbrev pub joined_to : Option Bool → Word → Word
joined_to None w = record w { breaks = true }
joined_to (Some ends) w = if w.gap == 0 then record w { gap = if ends then 2 else 1 } else record w { breaks = true }

-- a line's words as parts of the block
abbrev pub joined_words : Option Bool → List Word → List Part
joined_words before [] = []
joined_words before (w ∷ words) = OneWord (joined_to before w) ∷ map OneWord words

-- what is known behind a line's words
abbrev pub known_behind : Option Bool → List Word → Option Bool
known_behind before [] = before
known_behind before (w ∷ words) = known_behind (Some w.ends_sentence) words

-- the parts of a line: a request has none
abbrev pub parts_of_line : Option Bool → List ℕ → List Part
parts_of_line before line =
    if is_request line then [] else if is_empty_line line then EmptyLine ∷ [] else joined_words before (words_of line)

-- what is known behind a line: no word may stand behind an empty one
abbrev pub behind_line : Option Bool → List ℕ → Option Bool
behind_line before line =
    if is_request line then before else if is_empty_line line then None else known_behind before (words_of line)

-- the parts of lines
abbrev pub parts_behind : Option Bool → List (List ℕ) → List Part
parts_behind before [] = []
parts_behind before (line ∷ lines) = parts_of_line before line ++ parts_behind (behind_line before line) lines

-- the parts of a block that has these lines
abbrev pub parts_of : List (List ℕ) → List Part
parts_of lines = parts_behind None lines

-- the lines that lie in bytes behind each other, with a newline between two of them
abbrev pub lines_in : List ℕ → List (List ℕ)
lines_in bytes = slice_split (λ b. b == newline) bytes

-- a byte that prints itself in one column, and is no backslash
abbrev pub is_plain : ℕ → Bool
is_plain b = nat_lt 32 b && (nat_lt b 127 && not (b == backslash))
