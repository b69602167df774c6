-- The lines of a block in its column, by what comes next in it.
use Rattle.std.proofs.Common.{◌≡◌, ℕ, List, [], ◌∷◌, take, drop, map, get_or, sym, ap, subst, ◌∙◌, arith}
use Rattle.tbl_layout.specs.Entries.{Run, blanks, block_line, further_words, run_of_word}
use Rattle.tbl_lines.specs.RowsWalked.{HasGlyph}
use Rattle.tbl_lines.proofs.RunsGiven.{glyph-before, glyph-behind}
use Rattle.tbl_text.proofs.BlockSlices.{length-slice_range}
use Rattle.tbl_text.proofs.Filling.{first_count-word, lines_of-cons}
use Rattle.tbl_text.specs.BlockLines.{begun_width, behind_rest, leading, lines_of, rest_of_line}
use Rattle.tbl_text.specs.BlockPlaces.{LiesBehind, parts_at, word_at}
use Rattle.tbl_text.specs.declared.block_parts.BlockPlace.{BlockPlace}
use Rattle.tbl_text.specs.BlockWords.{EmptyLine, OneWord, Part, Word}
use Rattle.tbl_text.specs.declared.block_words.BlockWord.{BlockWord}

module _ (measure : ℕ) where
  -- an empty line stands alone
  pub lines-empty : (parts : List Part) → map block_line (lines_of measure (EmptyLine ∷ parts)) ≡ [] ∷ map block_line (lines_of measure parts)
  lines-empty parts = ap (map block_line) (lines_of-cons measure EmptyLine parts)

  -- a word begins a line
  pub lines-word : (w : Word) (parts : List Part) → map block_line (lines_of measure (OneWord w ∷ parts))
      ≡ (blanks (leading w) ∷ run_of_word w ∷ further_words (rest_of_line measure (begun_width w) parts))
      ∷ map block_line (lines_of measure (behind_rest measure (begun_width w) parts))
  lines-word w parts =
      ap (map block_line) (lines_of-cons measure (OneWord w) parts)
      ∙ ap (λ (n : ℕ). map block_line (take n (OneWord w ∷ parts) ∷ lines_of measure (drop n (OneWord w ∷ parts)))) (first_count-word measure w parts)

-- a word has a glyph
pub word-glyph : (bytes : List ℕ) (w : BlockWord) (more : List Run) → LiesBehind bytes 0 w → HasGlyph (run_of_word (word_at bytes w) ∷ more)
word-glyph bytes w more lies =
    glyph-before (run_of_word (word_at bytes w) ∷ []) more
    (omega (arith, lies.order, lies.last, lies.within, length-slice_range bytes w.from w.glyphs (omega (arith, lies.last, lies.within))))

-- so has a line of a block that begins with a word
pub block-glyph : (bytes : List ℕ) (measure : ℕ) (place behind : BlockPlace) (w : BlockWord)
    → parts_at bytes place ≡ OneWord (word_at bytes w) ∷ parts_at bytes behind → LiesBehind bytes 0 w
    → HasGlyph (get_or (map block_line (lines_of measure (parts_at bytes place))) 0 [])
block-glyph bytes measure place behind w is lies =
    let word = word_at bytes w in
    let rest = further_words (rest_of_line measure (begun_width word) (parts_at bytes behind)) in
    let lines = ap (λ (parts : List Part). map block_line (lines_of measure parts)) is ∙ lines-word measure word (parts_at bytes behind) in
    subst (λ (ls : List (List Run)). HasGlyph (get_or ls 0 [])) (sym lines)
    (glyph-behind (blanks (leading word) ∷ []) (run_of_word word ∷ rest) (word-glyph bytes w rest lies))
