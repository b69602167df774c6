-- What a step does that begins a line of a block, or gives a word of it.
use Rattle.std.proofs.Common.{◌≡◌, ℕ, ◌+◌, ◌-◌, max, List, [], ◌∷◌, ◌++◌, drop, map, get_or, replicate, sym, ap, ◌∙◌, arith, append_assoc}
use Rattle.std.proofs.lemmas.List.Sums.{sum_by-cons}
use Rattle.input_source.specs.Bytes.{blank}
use Rattle.tbl_layout.specs.Entries.{Run, blanks, block_line, columns_of, further_words, run_of_word}
use Rattle.tbl_layout.specs.KeptEntries.{IsBlock, measure_by}
use Rattle.tbl_layout.specs.declared.entry.Entry.{Entry}
use Rattle.tbl_lines.specs.PictureLines.{Cell, at_column, end_of}
use Rattle.tbl_pieces.specs.PieceQueue.{Adds, KeptPieces}
use Rattle.tbl_lines.specs.RowsLeft.{begins_at, block_text, cell_left, first_of, given, given_of, if_given, one_less, word_given}
use Rattle.tbl_lines.specs.RowsWalked.{steps_of_word}
use Rattle.tbl_picture.specs.Walks.{AtColumn, KeptWalk, RowSteps, WalkedRow, at_word, further_lines, passed, row_left, row_steps}
use Rattle.tbl_lines.specs.declared.row_columns.RowColumn.{RowColumn}
use Rattle.tbl_picture.specs.Nexts.{AtCell, AtWord, Next}
use Rattle.tbl_lines.proofs.BlockColumns.{lines-empty, lines-word, word-glyph}
use Rattle.tbl_picture.proofs.CellSteps.{none-steps}
use Rattle.tbl_picture.proofs.ColumnSteps.{cells-first, cells_behind, columns_behind, fronts_behind, steps-cell, steps-word, steps_behind}
use Rattle.tbl_lines.proofs.RunsGiven.{given-two}
use Rattle.tbl_lines.proofs.WordRuns.{block-first, block-moved, columns-further, few-bytes, few-left}
use Rattle.tbl_text.specs.BlockLines.{behind_rest, lines_of, rest_of_line, width_behind}
use Rattle.tbl_text.specs.BlockPlaces.{IsWithin, LiesBehind, left_at, parts_at, word_at}
use Rattle.tbl_text.specs.BlockWords.{EmptyLine, OneWord, Part}
use Rattle.tbl_text.specs.FilledLines.{leading_of}
use Rattle.tbl_text.specs.declared.block_parts.BlockPlace.{BlockPlace}
use Rattle.tbl_text.specs.declared.block_parts.BlockPlace.TheVariants.{AtEnd}
use Rattle.tbl_text.specs.declared.block_words.BlockWord.{BlockWord}

module _ (row : WalkedRow) (w : KeptWalk) (r : RowColumn) (at : AtColumn row w r) (is : IsBlock r.entry.kind) where
  -- a block that has no line any more
  pub ended-steps : (frame : List ℕ) (pieces : KeptPieces) → w.next ≡ AtCell → parts_at (block_text row.bytes r.entry) r.place ≡ []
      → RowSteps frame row w (passed row.bars.has_any AtEnd w.place w) pieces pieces
  ended-steps frame pieces next none =
      let lines = ap (λ (parts : List Part). map block_line (lines_of (measure_by r.entry.kind) parts)) none in
      none-steps row w r at next frame pieces AtEnd
      (block-first row.bytes w.line r is ∙ ap (λ (ls : List (List Run)). get_or ls 0 []) lines)
      (block-moved row.bytes w.line r is AtEnd (ap (λ (ls : List (List Run)). drop 1 ls) (sym lines)))
      tt

  -- an empty line
  pub empty-steps : (frame : List ℕ) (pieces : KeptPieces) (p : BlockPlace) → w.next ≡ AtCell
      → parts_at (block_text row.bytes r.entry) r.place ≡ EmptyLine ∷ parts_at (block_text row.bytes r.entry) p
      → IsWithin (block_text row.bytes r.entry) p
      → RowSteps frame row w (passed row.bars.has_any p w.place w) pieces pieces
  empty-steps frame pieces p next parts within =
      let rest = parts_at (block_text row.bytes r.entry) p in
      let lines = ap (λ (ps : List Part). map block_line (lines_of (measure_by r.entry.kind) ps)) parts ∙ lines-empty (measure_by r.entry.kind) rest in
      none-steps row w r at next frame pieces p
      (block-first row.bytes w.line r is ∙ ap (λ (ls : List (List Run)). get_or ls 0 []) lines)
      (block-moved row.bytes w.line r is p (ap (λ (ls : List (List Run)). drop 1 ls) (sym lines)))
      within

  -- a line that a word begins
  pub begun-steps : (frame : List ℕ) (before after : KeptPieces) (word : BlockWord) (p : BlockPlace) (gap lead width : ℕ)
      → w.next ≡ AtCell
      → parts_at (block_text row.bytes r.entry) r.place ≡ OneWord (word_at (block_text row.bytes r.entry) word) ∷ parts_at (block_text row.bytes r.entry) p
      → LiesBehind (block_text row.bytes r.entry) 0 word → IsWithin (block_text row.bytes r.entry) p
      → gap ≡ begins_at r - w.place → lead ≡ leading_of word → width ≡ leading_of word + word.width
      → Adds row.bytes frame 4 before after (if_given w.count (replicate gap blank) ++ if_given w.count (replicate lead blank))
      → RowSteps frame row w (at_word word width p w) before after
  begun-steps frame before after word p gap lead width next parts lies within gap_is lead_is width_is adds =
      let text = block_text row.bytes r.entry in
      let m = measure_by r.entry.kind in
      let begun = leading_of word + word.width in
      let one = word_at text word in
      let rest = parts_at text p in
      let words = rest_of_line m begun rest in
      let run = run_of_word one in
      let cell = cell_left row.bytes w.line r in
      let cells = cells_behind row w r at in
      let further = further_lines row w in
      let lines = ap (λ (ps : List Part). map block_line (lines_of m ps)) parts ∙ lines-word m one rest in
      let first : first_of cell ≡ blanks (leading_of word) ∷ run ∷ further_words words =
      block-first row.bytes w.line r is ∙ ap (λ (ls : List (List Run)). get_or ls 0 []) lines in
      let added = if_given w.count (replicate gap blank) ++ if_given w.count (replicate lead blank) in
      let columns : columns_of (blanks (leading_of word) ∷ run ∷ further_words words) ≡ width_behind begun words =
      omega (
        arith,
        columns-further begun words,
        sum_by-cons (λ (x : Run). x.columns) run (further_words words),
        sum_by-cons (λ (x : Run). x.columns) (blanks (leading_of word)) (run ∷ further_words words),
      ) in
      let f : List Run → List ℕ = λ runs. (given_of w.count (at_column cell.at w.place runs) ++ given (one_less w.count) (end_of cell.at w.place runs) cells) ++ further in
      let g : ℕ → ℕ → List ℕ = λ n end. (given_of w.count (blanks n ∷ blanks (leading_of word) ∷ run ∷ further_words words) ++ given (one_less w.count) (max (begins_at r) w.place + end) cells) ++ further in
      let behind = given (one_less w.count) (max (begins_at r) w.place + width_behind begun words) cells in
      let words_left = given_of w.count (run ∷ further_words words) in
      let h : ℕ → List ℕ = λ n. ((if_given w.count (replicate gap blank) ++ if_given w.count (replicate n blank)) ++ words_left ++ behind) ++ further in
      let left : row_left w.next row w ≡ added ++ ((words_left ++ behind) ++ further) =
      ap (λ (n : Next). row_left n row w) next
      ∙ ap (λ (cs : List Cell). given w.count w.place cs ++ further) (cells-first row w r at)
      ∙ ap f first
      ∙ ap (λ (n : ℕ). g n (columns_of (blanks (leading_of word) ∷ run ∷ further_words words))) (sym gap_is)
      ∙ ap (g gap) columns
      ∙ ap (λ (front : List ℕ). (front ++ behind) ++ further) (given-two w.count (blanks gap) (blanks (leading_of word)) (run ∷ further_words words) (word-glyph text word (further_words words) lies))
      ∙ ap (λ (n : ℕ). (((if_given w.count (replicate gap blank) ++ if_given w.count (replicate n blank)) ++ words_left) ++ behind) ++ further) (sym lead_is)
      ∙ ap (λ (front : List ℕ). front ++ further) (append_assoc added words_left behind)
      ∙ append_assoc added (words_left ++ behind) further in
      let word_left : row_left (AtWord word width p) row (at_word word width p w) ≡ (words_left ++ behind) ++ further =
      ap (λ (cs : List RowColumn). word_given row.bytes w.line (fronts_behind row w r at) w.count w.place word width p cs ++ further) at.first
      ∙ ap (λ (n : ℕ). word_given row.bytes w.line (fronts_behind row w r at) w.count w.place word n p (r ∷ columns_behind row w r at) ++ further) width_is in
      let new_steps : row_steps (AtWord word width p) row w ≡ left_at text p + 1 + steps_behind row w r at =
      ap (λ (entries : List Entry). steps_of_word row.bytes p entries + steps_behind row w r at) at.entries in
      steps-word row w r at frame before after word width p added adds
      (record {
        block = is;
        lies = lies;
        within = within;
        rest = ap (λ (n : ℕ). map block_line (lines_of m (behind_rest m n rest))) width_is ∙ ap (λ (ls : List (List Run)). drop 1 ls) (sym lines);
      })
      (left ∙ ap (λ (bytes : List ℕ). added ++ bytes) (sym word_left))
      (omega (arith, steps-cell row w r at next, new_steps, few-left text p, few-bytes row.bytes r.entry at.lies))
