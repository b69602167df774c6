-- What is left of a block behind a line that a word begins.
use Rattle.std.proofs.Common.{◌≡◌, ℕ, ◌+◌, List, ◌∷◌, drop, sym, ap, ◌∙◌}
use Rattle.tbl_text.proofs.Filling.{first_count-word, lines_of-cons}
use Rattle.tbl_text.specs.BlockLines.{behind_rest, lines_of}
use Rattle.tbl_text.specs.BlockPlaces.{parts_at, word_at}
use Rattle.tbl_text.specs.BlockWords.{OneWord, Part}
use Rattle.tbl_text.specs.FilledLines.{leading_of}
use Rattle.tbl_text.specs.declared.block_parts.BlockPlace.{BlockPlace}
use Rattle.tbl_text.specs.declared.block_words.BlockWord.{BlockWord}

pub word-behind : (measure : ℕ) (bytes : List ℕ) (w : BlockWord) (place behind next : BlockPlace) (width : ℕ)
    → parts_at bytes place ≡ OneWord (word_at bytes w) ∷ parts_at bytes behind → width ≡ leading_of w + w.width
    → parts_at bytes next ≡ behind_rest measure width (parts_at bytes behind)
    → lines_of measure (parts_at bytes next) ≡ drop 1 (lines_of measure (parts_at bytes place))
word-behind measure bytes w place behind next width parts wide left =
    let one = word_at bytes w in
    let rest = parts_at bytes behind in
    ap (lines_of measure) left
    ∙ ap (λ (n : ℕ). lines_of measure (behind_rest measure n rest)) wide
    ∙ sym (ap (λ (ps : List Part). drop 1 (lines_of measure ps)) parts
    ∙ ap (drop 1) (lines_of-cons measure (OneWord one) rest)
    ∙ ap (λ (n : ℕ). lines_of measure (drop n (OneWord one ∷ rest))) (first_count-word measure one rest))
