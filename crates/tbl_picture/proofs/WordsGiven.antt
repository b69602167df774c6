-- What a step does that gives a word of a block.
use Rattle.std.proofs.Common.{◌≡◌, ℕ, zero, suc, ◌+◌, ◌<◌, ◌≤◌, max, List, [], ◌∷◌, ◌++◌, length, drop, map, min, replicate, refl, sym, ap, subst, ◌∙◌, arith, append_assoc}
use Rattle.std.specs.List.{slice_range}
use Rattle.input_source.specs.Bytes.{blank}
use Rattle.tbl_layout.specs.Entries.{blanks, block_line, further_words, run_of_word}
use Rattle.tbl_layout.specs.declared.entry.Entry.{Entry}
use Rattle.tbl_layout.specs.KeptEntries.{Lies, measure_by}
use Rattle.tbl_pieces.specs.PieceQueue.{Adds, KeptPieces}
use Rattle.tbl_lines.specs.RowsLeft.{begins_at, block_text, end_given, given, given_of, if_given, one_less, word_given}
use Rattle.tbl_lines.specs.RowsWalked.{StandsInFirst, StandsNext, steps_of_word}
use Rattle.tbl_picture.specs.Walks.{AtColumn, InWord, IsNear, KeptWalk, RowSteps, WalkedRow, at_word, further_lines, passed, reached_by, row_left, row_steps}
use Rattle.tbl_lines.specs.declared.row_columns.RowColumn.{RowColumn}
use Rattle.tbl_picture.specs.Nexts.{AtWord, Next}
use Rattle.tbl_lines.proofs.BlockColumns.{word-glyph}
use Rattle.tbl_picture.proofs.PlaceReached.{given-reached}
use Rattle.tbl_picture.proofs.ColumnSteps.{cells_behind, fronts_behind, steps-passed, steps-word, steps_behind}
use Rattle.tbl_lines.proofs.RunsGiven.{given-last, given-two, last_given}
use Rattle.tbl_lines.proofs.WordRuns.{block-moved, drop-of-none, slice-in}
use Rattle.tbl_text.proofs.BlockSlices.{length-slice_range}
use Rattle.tbl_text.specs.BlockLines.{behind_rest, joined_count, lines_of, rest_of_line, width_behind}
use Rattle.tbl_text.specs.BlockPlaces.{IsWithin, LiesBehind, left_at, parts_at, word_at}
use Rattle.tbl_text.specs.BlockWords.{OneWord, Part}
use Rattle.tbl_text.specs.declared.block_parts.BlockPlace.{BlockPlace}
use Rattle.tbl_text.specs.declared.block_words.BlockWord.{BlockWord}

-- a word comes next where a column is left
pub some-left : (bytes : List ℕ) (word : BlockWord) (width : ℕ) (p : BlockPlace) (n : ℕ) (columns : List RowColumn)
    → StandsInFirst bytes word width p (drop n columns) → n < length columns
some-left bytes word width p zero [] stands = absurd stands
some-left bytes word width p (suc n) [] stands = absurd stands
some-left bytes word width p zero (r ∷ columns) stands = omega arith
some-left bytes word width p (suc n) (r ∷ columns) stands = omega (arith, some-left bytes word width p n columns stands)

-- it is the word of that column
pub stands-at : (row : WalkedRow) (w : KeptWalk) (r : RowColumn) (word : BlockWord) (width : ℕ) (p : BlockPlace) → AtColumn row w r
    → InWord row word width p w → StandsNext row.bytes word width p r
stands-at row w r word width p at in_word = subst (StandsInFirst row.bytes word width p) at.first in_word.next

-- the last word of a line
pub word-last : (block : List ℕ) (word : BlockWord) (count : ℕ) → word.glyphs ≤ word.to
    → if_given count (slice_range block word.from (end_given count word.glyphs word.to)) ≡ last_given count (run_of_word (word_at block word))
word-last block word zero within = refl
word-last block word (suc zero) within =
    let same : min word.glyphs word.to ≡ word.glyphs = omega (arith, within) in
    ap (λ (n : ℕ). slice_range block word.from n) same
word-last block word (suc (suc n)) within = refl

-- the bytes of a word that lies in a block
pub word-in : (bytes : List ℕ) (e : Entry) (from to : ℕ) → Lies bytes e → 0 < to → to ≤ length (block_text bytes e)
    → slice_range bytes (e.from + 1 + from) (e.from + 1 + to) ≡ slice_range (block_text bytes e) from to
word-in bytes e from to lies some within =
    let len = length-slice_range bytes (e.from + 1) e.to lies.within in
    sym (slice-in bytes (e.from + 1) e.to from to (omega (arith, some, within, len)))

pub word-within : (bytes : List ℕ) (e : Entry) (to : ℕ) → Lies bytes e → 0 < to → to ≤ length (block_text bytes e) → e.from + 1 + to ≤ length bytes
word-within bytes e to lies some within =
    omega (arith, some, within, lies.within, length-slice_range bytes (e.from + 1) e.to lies.within)

pub end-some : (count glyphs to : ℕ) → 0 < glyphs → 0 < to → 0 < end_given count glyphs to
end-some zero glyphs to some many = many
end-some (suc zero) glyphs to some many = omega (arith, some, many)
end-some (suc (suc n)) glyphs to some many = many

module _ (row : WalkedRow) (w : KeptWalk) (r : RowColumn) (at : AtColumn row w r) (word : BlockWord) (width : ℕ) (p : BlockPlace)
    (next : w.next ≡ AtWord word width p) (stands : StandsNext row.bytes word width p r) where
  -- the rest of the row, and the steps of it
  abbrev words_of_line : List Part
  words_of_line = rest_of_line (measure_by r.entry.kind) width (parts_at (block_text row.bytes r.entry) p)

  left-word : row_left w.next row w
      ≡ (given_of w.count (run_of_word (word_at (block_text row.bytes r.entry) word) ∷ further_words words_of_line)
      ++ given (one_less w.count) (max (begins_at r) w.place + width_behind width words_of_line) (cells_behind row w r at)) ++ further_lines row w
  left-word =
      ap (λ (n : Next). row_left n row w) next
      ∙ ap (λ (cs : List RowColumn). word_given row.bytes w.line (fronts_behind row w r at) w.count w.place word width p cs ++ further_lines row w) at.first

  steps-of-word : (q : BlockPlace) (word_then : BlockWord) (wider : ℕ) → row_steps (AtWord word_then wider q) row w
      ≡ left_at (block_text row.bytes r.entry) q + 1 + steps_behind row w r at
  steps-of-word q word_then wider =
      ap (λ (entries : List Entry). steps_of_word row.bytes q entries + steps_behind row w r at) at.entries

  steps-old : row_steps w.next row w ≡ left_at (block_text row.bytes r.entry) p + 1 + steps_behind row w r at
  steps-old = ap (λ (n : Next). row_steps n row w) next ∙ steps-of-word p word width

  -- a word behind which another one goes on with the line
  pub joins-steps : (frame : List ℕ) (before after : KeptPieces) (then_word : BlockWord) (wider : ℕ) (q : BlockPlace) (text : List ℕ)
      → rest_of_line (measure_by r.entry.kind) width (parts_at (block_text row.bytes r.entry) p)
      ≡ OneWord (word_at (block_text row.bytes r.entry) then_word) ∷ rest_of_line (measure_by r.entry.kind) wider (parts_at (block_text row.bytes r.entry) q)
      → behind_rest (measure_by r.entry.kind) width (parts_at (block_text row.bytes r.entry) p)
      ≡ behind_rest (measure_by r.entry.kind) wider (parts_at (block_text row.bytes r.entry) q)
      → wider ≡ width + then_word.gap + then_word.width
      → LiesBehind (block_text row.bytes r.entry) 0 then_word → IsWithin (block_text row.bytes r.entry) q
      → left_at (block_text row.bytes r.entry) q < left_at (block_text row.bytes r.entry) p
      → text ≡ (word_at (block_text row.bytes r.entry) word).text
      → Adds row.bytes frame 4 before after (if_given w.count text ++ if_given w.count (replicate then_word.gap blank))
      → RowSteps frame row w (at_word then_word wider q w) before after
  joins-steps frame before after then_word wider q text line behind wider_is lies within less text_is adds =
      let block = block_text row.bytes r.entry in
      let m = measure_by r.entry.kind in
      let run = run_of_word (word_at block word) in
      let then_run = run_of_word (word_at block then_word) in
      let words = rest_of_line m wider (parts_at block q) in
      let cells = cells_behind row w r at in
      let further = further_lines row w in
      let added = if_given w.count text ++ if_given w.count (replicate then_word.gap blank) in
      let rest = given_of w.count (then_run ∷ further_words words) in
      let cells_given = given (one_less w.count) (max (begins_at r) w.place + width_behind wider words) cells in
      let f : List Part → List ℕ = λ ws. (given_of w.count (run ∷ further_words ws) ++ given (one_less w.count) (max (begins_at r) w.place + width_behind width ws) cells) ++ further in
      let left : row_left w.next row w ≡ added ++ ((rest ++ cells_given) ++ further) =
      left-word
      ∙ ap f line
      ∙ ap (λ (n : ℕ). (given_of w.count (run ∷ blanks then_word.gap ∷ then_run ∷ further_words words) ++ given (one_less w.count) (max (begins_at r) w.place + width_behind n words) cells) ++ further) (sym wider_is)
      ∙ ap (λ (front : List ℕ). (front ++ cells_given) ++ further) (given-two w.count run (blanks then_word.gap) (then_run ∷ further_words words) (word-glyph block then_word (further_words words) lies))
      ∙ ap (λ (bytes : List ℕ). (((if_given w.count bytes ++ if_given w.count (replicate then_word.gap blank)) ++ rest) ++ cells_given) ++ further) (sym text_is)
      ∙ ap (λ (front : List ℕ). front ++ further) (append_assoc added rest cells_given)
      ∙ append_assoc added (rest ++ cells_given) further in
      let then_left : row_left (AtWord then_word wider q) row (at_word then_word wider q w) ≡ (rest ++ cells_given) ++ further =
      ap (λ (cs : List RowColumn). word_given row.bytes w.line (fronts_behind row w r at) w.count w.place then_word wider q cs ++ further) at.first in
      steps-word row w r at frame before after then_word wider q added adds
      (record {
        block = stands.block;
        lies = lies;
        within = within;
        rest = ap (λ (ps : List Part). map block_line (lines_of m ps)) (sym behind) ∙ stands.rest;
      })
      (left ∙ ap (λ (bytes : List ℕ). added ++ bytes) (sym then_left))
      (omega (arith, steps-old, steps-of-word q then_word wider, less))

  -- the last word of a line
  pub ends-steps : (frame : List ℕ) (before after : KeptPieces) (reached : ℕ) (text : List ℕ)
      → rest_of_line (measure_by r.entry.kind) width (parts_at (block_text row.bytes r.entry) p) ≡ []
      → text ≡ last_given w.count (run_of_word (word_at (block_text row.bytes r.entry) word))
      → reached ≡ reached_by w.count w.place (begins_at r) width → IsNear (one_less w.count) reached
      → Adds row.bytes frame 4 before after text
      → RowSteps frame row w (passed row.bars.has_any p reached w) before after
  ends-steps frame before after reached text line text_is reached_is near adds =
      let block = block_text row.bytes r.entry in
      let m = measure_by r.entry.kind in
      let run = run_of_word (word_at block word) in
      let cells = cells_behind row w r at in
      let further = further_lines row w in
      let f : List Part → List ℕ = λ ws. (given_of w.count (run ∷ further_words ws) ++ given (one_less w.count) (max (begins_at r) w.place + width_behind width ws) cells) ++ further in
      let left : row_left w.next row w ≡ (text ++ given (one_less w.count) reached cells) ++ further =
      left-word
      ∙ ap f line
      ∙ ap (λ (front : List ℕ). (front ++ given (one_less w.count) (max (begins_at r) w.place + width) cells) ++ further) (given-last w.count run ∙ sym text_is)
      ∙ ap (λ (bytes : List ℕ). (text ++ bytes) ++ further)
      (given-reached w.count w.place (begins_at r) width cells ∙ ap (λ (n : ℕ). given (one_less w.count) n cells) (sym reached_is)) in
      let behind : behind_rest m width (parts_at block p) ≡ parts_at block p = drop-of-none (joined_count m width (parts_at block p)) (parts_at block p) line in
      steps-passed row w r at frame before after p reached text adds near stands.within
      (block-moved row.bytes w.line r stands.block p (ap (λ (ps : List Part). map block_line (lines_of m ps)) (sym behind) ∙ stands.rest))
      left (omega (arith, steps-old))
