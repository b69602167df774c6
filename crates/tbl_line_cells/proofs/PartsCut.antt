-- The first line of a block's parts, as far as it fits in so many columns.
use Rattle.std.proofs.Common.{◌≡◌, ℕ, ◌+◌, ◌-◌, ◌≤◌, ◌<◌, Bool, true, false, List, [], ◌∷◌, ◌++◌, map, take, refl, sym, ap, ◌∙◌, arith, if◌then◌else◌, nat_le, nat_lt, le-leb, leb-true, ltb-false, ltb-true}
use Rattle.std.proofs.lemmas.List.Sums.{sum_by-append, sum_by-cons}
use Rattle.tbl_text.proofs.Filling.{first_count-word, joined_count-breaks, joined_count-fits, joined_count-wide}
use Rattle.tbl_text.proofs.FrontItems.{fitting-items, fitting-width}
use Rattle.tbl_text.specs.BlockLines.{begun_width, first_line, leading, line_width, rest_of_line, width_behind}
use Rattle.tbl_text.specs.BlockWords.{EmptyLine, OneWord, Part, Word, has_glyph, word_of, words_behind, words_of}
use Rattle.tbl_text.specs.Fitted.{fitting_text}
use Rattle.tbl_text.specs.FittedWords.{further_fitted, line_fitted, word_fitted}
use Rattle.tbl_text.specs.Items.{Item, columns, is_blank, items}
use Rattle.tbl_text.specs.Measuring.{width_of}

-- the first of some words has no more than so many columns
abbrev FirstFits : ℕ → List Word → Type 0
FirstFits room [] = Unit {0}
FirstFits room (w ∷ words) = w.columns ≤ room

first-by : (room gap : ℕ) (run : List Item) (glyph : Bool) (words : List Word) → width_of run ≤ room → FirstFits room words
    → FirstFits room (if glyph then word_of gap run ∷ words else words)
first-by room gap run true words fits others = fits
first-by room gap run false words fits others = others

blank-by : (room : ℕ) (blank : Bool) (words others : List Word) → FirstFits room words → FirstFits room others
    → FirstFits room (if blank then words else others)
blank-by room true words others first second = first
blank-by room false words others first second = second

-- words of so many columns
words-fit : (room gap : ℕ) (run left : List Item) → width_of run + width_of left ≤ room → FirstFits room (words_behind gap run left)
words-fit room gap run [] fits = first-by room gap run (has_glyph run) [] (omega (arith, fits)) tt
words-fit room gap run (i ∷ left) fits =
    let one = sum_by-cons (λ (x : Item). columns x.what) i left in
    let none = sum_by-cons (λ (x : Item). columns x.what) i [] in
    let more = sum_by-append (λ (x : Item). columns x.what) run (i ∷ []) in
    blank-by room (is_blank i.what)
    (if has_glyph run then word_of gap run ∷ words_behind 1 [] left else words_behind (gap + 1) [] left)
    (words_behind gap (run ++ i ∷ []) left)
    (glyph-by (has_glyph run) (omega (arith, fits)) (words-fit room (gap + 1) [] left (omega (arith, fits, one))))
    (words-fit room gap (run ++ i ∷ []) left (omega (arith, fits, one, none, more))) where
      glyph-by : (glyph : Bool) → width_of run ≤ room → FirstFits room (words_behind (gap + 1) [] left)
          → FirstFits room (if glyph then word_of gap run ∷ words_behind 1 [] left else words_behind (gap + 1) [] left)
      glyph-by true own behind = own
      glyph-by false own behind = behind

-- of a text as far as it fits
cut-fits : (room : ℕ) (text : List ℕ) → FirstFits room (words_of (fitting_text room text))
cut-fits room text =
    words-fit room 0 [] (items (fitting_text room text))
    (omega (arith, ap width_of (fitting-items room text), fitting-width room (items text)))

-- a word behind so many blanks, by whether these fit, and whether it does
abbrev placed : Bool → Bool → ℕ → ℕ → Word → List Part → List Part
placed over wide room gap w others = if over then [] else if wide then map OneWord (word_fitted (room - gap) w) else OneWord w ∷ others

module _ (measure : ℕ) where
  -- a line goes on with a word that fits
  rest-word : (width : ℕ) (w : Word) (parts : List Part) → w.breaks ≡ false → nat_le (width + w.gap + w.columns) measure ≡ true
      → rest_of_line measure width (OneWord w ∷ parts) ≡ OneWord w ∷ rest_of_line measure (width + w.gap + w.columns) parts
  rest-word width w parts broken fit = ap (λ (n : ℕ). take n (OneWord w ∷ parts)) (joined_count-fits measure width w parts broken fit)

  -- so it does with as much of it as fits
  abbrev with_gap_of : Word → Word → Word
  with_gap_of w v = record v { breaks = w.breaks; gap = w.gap }

  rest-cut : (width room : ℕ) (w : Word) (words : List Word) → FirstFits room words → room ≤ w.columns → w.breaks ≡ false
      → width + w.gap + w.columns ≤ measure
      → let cut = map OneWord (map (with_gap_of w) (take 1 words)) in rest_of_line measure width cut ≡ cut
  rest-cut width room w [] first few broken fits = refl
  rest-cut width room w (v ∷ words) first few broken fits =
      rest-word width (with_gap_of w v) [] broken (le-leb (width + w.gap + v.columns) measure (omega (arith, first, few, fits)))

  -- what goes on with a line that is wider than it has room for
  rest-placed : (w : Word) (parts : List Part) (width room : ℕ) (over wide : Bool) → w.breaks ≡ false
      → nat_le (width + w.gap + w.columns) measure ≡ true → nat_lt room w.gap ≡ over → nat_lt room (w.gap + w.columns) ≡ wide
      → (let next = width + w.gap + w.columns in let left = room - (w.gap + w.columns) in
      (nat_lt room (w.gap + w.columns) ≡ false
      → rest_of_line measure next (further_fitted left parts) ≡ further_fitted left (rest_of_line measure next parts))
      → rest_of_line measure width (placed over wide room w.gap w (further_fitted left parts))
      ≡ placed over wide room w.gap w (further_fitted left (rest_of_line measure next parts)))
  rest-placed w parts width room true wide broken fit over_is wide_is others = refl
  rest-placed w parts width room false true broken fit over_is wide_is others =
      let less = ltb-true room (w.gap + w.columns) wide_is in
      rest-cut width (room - w.gap) w (words_of (fitting_text (room - w.gap) w.text)) (cut-fits (room - w.gap) w.text) (omega (arith, less)) broken
      (leb-true (width + w.gap + w.columns) measure fit)
  rest-placed w parts width room false false broken fit over_is wide_is others =
      rest-word width w (further_fitted (room - (w.gap + w.columns)) parts) broken fit ∙ ap (λ (line : List Part). OneWord w ∷ line) (others wide_is)

  rest-by : (w : Word) (parts : List Part) (width room : ℕ) (breaks fits : Bool) → w.breaks ≡ breaks → nat_le (width + w.gap + w.columns) measure ≡ fits
      → width + room < width_behind width (rest_of_line measure width (OneWord w ∷ parts))
      → (let next = width + w.gap + w.columns in let left = room - (w.gap + w.columns) in
      (next + left < width_behind next (rest_of_line measure next parts)
      → rest_of_line measure next (further_fitted left parts) ≡ further_fitted left (rest_of_line measure next parts)))
      → rest_of_line measure width (further_fitted room (OneWord w ∷ parts)) ≡ further_fitted room (rest_of_line measure width (OneWord w ∷ parts))
  rest-by w parts width room true fits broken fit wide others =
      let none : width_behind width (rest_of_line measure width (OneWord w ∷ parts)) ≡ width
      = ap (λ (n : ℕ). width_behind width (take n (OneWord w ∷ parts))) (joined_count-breaks measure width w parts broken) in
      absurd (omega (arith, wide, none))
  rest-by w parts width room false false broken fit wide others =
      let none : width_behind width (rest_of_line measure width (OneWord w ∷ parts)) ≡ width
      = ap (λ (n : ℕ). width_behind width (take n (OneWord w ∷ parts))) (joined_count-wide measure width w parts broken fit) in
      absurd (omega (arith, wide, none))
  rest-by w parts width room false true broken fit wide others =
      let line = rest-word width w parts broken fit in
      let next = width + w.gap + w.columns in
      let behind : width_behind width (rest_of_line measure width (OneWord w ∷ parts)) ≡ width_behind next (rest_of_line measure next parts)
      = ap (width_behind width) line in
      rest-placed w parts width room (nat_lt room w.gap) (nat_lt room (w.gap + w.columns)) broken fit refl refl
      (λ narrow. others (omega (arith, wide, behind, ltb-false room (w.gap + w.columns) narrow)))
      ∙ sym (ap (further_fitted room) line)

  rest-fitted : (parts : List Part) (width room : ℕ) → width + room < width_behind width (rest_of_line measure width parts)
      → rest_of_line measure width (further_fitted room parts) ≡ further_fitted room (rest_of_line measure width parts)
  rest-fitted [] width room wide = let none : width + room < width = wide in absurd (omega (arith, none))
  rest-fitted (EmptyLine ∷ parts) width room wide = let none : width + room < width = wide in absurd (omega (arith, none))
  rest-fitted (OneWord w ∷ parts) width room wide =
      rest-by w parts width room w.breaks (nat_le (width + w.gap + w.columns) measure) refl refl wide
      (rest-fitted parts (width + w.gap + w.columns) (room - (w.gap + w.columns)))

  -- and a line of which the first word begins it
  begun : (w : Word) (parts : List Part) → first_line measure (OneWord w ∷ parts) ≡ OneWord w ∷ rest_of_line measure (begun_width w) parts
  begun w parts = ap (λ (n : ℕ). take n (OneWord w ∷ parts)) (first_count-word measure w parts)

  begun-cut : (w : Word) (words : List Word) → let cut = map OneWord (map (with_gap_of w) (take 1 words)) in first_line measure cut ≡ cut
  begun-cut w [] = refl
  begun-cut w (v ∷ words) = begun (with_gap_of w v) []

  begun-placed : (w : Word) (parts : List Part) (room : ℕ) (over wide : Bool) → nat_lt room (leading w) ≡ over → nat_lt room (begun_width w) ≡ wide
      → (let left = room - begun_width w in
      (nat_lt room (begun_width w) ≡ false
      → rest_of_line measure (begun_width w) (further_fitted left parts) ≡ further_fitted left (rest_of_line measure (begun_width w) parts))
      → first_line measure (placed over wide room (leading w) w (further_fitted left parts))
      ≡ placed over wide room (leading w) w (further_fitted left (rest_of_line measure (begun_width w) parts)))
  begun-placed w parts room true wide over_is wide_is others = refl
  begun-placed w parts room false true over_is wide_is others = begun-cut w (words_of (fitting_text (room - leading w) w.text))
  begun-placed w parts room false false over_is wide_is others =
      begun w (further_fitted (room - begun_width w) parts) ∙ ap (λ (line : List Part). OneWord w ∷ line) (others wide_is)

  pub first-fitted : (parts : List Part) (room : ℕ) → room < line_width (first_line measure parts)
      → first_line measure (line_fitted room parts) ≡ line_fitted room (first_line measure parts)
  first-fitted [] room wide = let none : room < 0 = wide in absurd (omega (arith, none))
  first-fitted (EmptyLine ∷ parts) room wide = let none : room < 0 = wide in absurd (omega (arith, none))
  first-fitted (OneWord w ∷ parts) room wide =
      let line = begun w parts in
      let behind : line_width (first_line measure (OneWord w ∷ parts)) ≡ width_behind (begun_width w) (rest_of_line measure (begun_width w) parts)
      = ap line_width line in
      begun-placed w parts room (nat_lt room (leading w)) (nat_lt room (begun_width w)) refl refl
      (λ narrow. rest-fitted parts (begun_width w) (room - begun_width w) (omega (arith, wide, behind, ltb-false room (begun_width w) narrow)))
      ∙ sym (ap (line_fitted room) line)
