-- What a word does that comes next on a line.
use Rattle.std.proofs.Common.{◌≡◌, ℕ, ◌+◌, Bool, true, false, List, ◌∷◌, take, drop, Some, None, refl, sym, ap, ◌∙◌, if◌then◌else◌, nat_le}
use Rattle.tbl_text.specs.BlockWords.{OneWord}
use Rattle.tbl_text.specs.BlockLines.{behind_rest, rest_of_line}
use Rattle.tbl_text.specs.BlockPlaces.{parts_at, word_at}
use Rattle.tbl_text.specs.FilledLines.{behind_with, by_width, line_with, word_on_line}
use Rattle.tbl_text.specs.declared.block_parts.BlockPlace.{BlockPlace}
use Rattle.tbl_text.specs.declared.block_words.BlockWord.{BlockWord}
use Rattle.tbl_text.proofs.Filling.{joined_count-breaks, joined_count-fits, joined_count-wide}

-- what comes next on a line, by whether the word breaks and whether it fits
on_line_by : (measure width : ℕ) (w : BlockWord) (behind : BlockPlace) (breaks fits : Bool) → w.breaks ≡ breaks
    → nat_le (width + w.gap + w.width) measure ≡ fits
    → word_on_line measure width w behind
    ≡ by_width w behind (if breaks then None else if fits then Some (width + w.gap + w.width) else None)
on_line_by measure width w behind breaks fits broken fit =
    ap (λ (b : Bool). by_width w behind (if b then None else if nat_le (width + w.gap + w.width) measure then Some (width + w.gap + w.width) else None)) broken
    ∙ ap (λ (b : Bool). by_width w behind (if breaks then None else if b then Some (width + w.gap + w.width) else None)) fit

-- so the line goes on with the word, or ends before it
module _ (measure width : ℕ) (bytes : List ℕ) (w : BlockWord) (behind : BlockPlace) where
  line_by : (breaks fits : Bool) → w.breaks ≡ breaks → nat_le (width + w.gap + w.width) measure ≡ fits
      → rest_of_line measure width (OneWord (word_at bytes w) ∷ parts_at bytes behind)
      ≡ line_with bytes measure (word_on_line measure width w behind)
  line_by true fits broken fit =
      ap (λ (n : ℕ). take n (OneWord (word_at bytes w) ∷ parts_at bytes behind)) (joined_count-breaks measure width (word_at bytes w) (parts_at bytes behind) broken)
      ∙ ap (line_with bytes measure) (sym (on_line_by measure width w behind true fits broken fit))
  line_by false true broken fit =
      ap (λ (n : ℕ). take n (OneWord (word_at bytes w) ∷ parts_at bytes behind)) (joined_count-fits measure width (word_at bytes w) (parts_at bytes behind) broken fit)
      ∙ ap (line_with bytes measure) (sym (on_line_by measure width w behind false true broken fit))
  line_by false false broken fit =
      ap (λ (n : ℕ). take n (OneWord (word_at bytes w) ∷ parts_at bytes behind)) (joined_count-wide measure width (word_at bytes w) (parts_at bytes behind) broken fit)
      ∙ ap (line_with bytes measure) (sym (on_line_by measure width w behind false false broken fit))

  pub line-word : rest_of_line measure width (OneWord (word_at bytes w) ∷ parts_at bytes behind)
      ≡ line_with bytes measure (word_on_line measure width w behind)
  line-word = line_by w.breaks (nat_le (width + w.gap + w.width) measure) refl refl

  behind_by : (breaks fits : Bool) → w.breaks ≡ breaks → nat_le (width + w.gap + w.width) measure ≡ fits
      → behind_rest measure width (OneWord (word_at bytes w) ∷ parts_at bytes behind)
      ≡ behind_with bytes measure (word_on_line measure width w behind)
  behind_by true fits broken fit =
      ap (λ (n : ℕ). drop n (OneWord (word_at bytes w) ∷ parts_at bytes behind)) (joined_count-breaks measure width (word_at bytes w) (parts_at bytes behind) broken)
      ∙ ap (behind_with bytes measure) (sym (on_line_by measure width w behind true fits broken fit))
  behind_by false true broken fit =
      ap (λ (n : ℕ). drop n (OneWord (word_at bytes w) ∷ parts_at bytes behind)) (joined_count-fits measure width (word_at bytes w) (parts_at bytes behind) broken fit)
      ∙ ap (behind_with bytes measure) (sym (on_line_by measure width w behind false true broken fit))
  behind_by false false broken fit =
      ap (λ (n : ℕ). drop n (OneWord (word_at bytes w) ∷ parts_at bytes behind)) (joined_count-wide measure width (word_at bytes w) (parts_at bytes behind) broken fit)
      ∙ ap (behind_with bytes measure) (sym (on_line_by measure width w behind false false broken fit))

  pub behind-word : behind_rest measure width (OneWord (word_at bytes w) ∷ parts_at bytes behind)
      ≡ behind_with bytes measure (word_on_line measure width w behind)
  behind-word = behind_by w.breaks (nat_le (width + w.gap + w.width) measure) refl refl
