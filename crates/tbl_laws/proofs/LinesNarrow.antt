-- A line that is cut to so many columns has no more.
use Rattle.std.proofs.Common.{◌≡◌, ℕ, zero, suc, ◌+◌, ◌-◌, ◌≤◌, Bool, true, false, List, [], ◌∷◌, ◌++◌, map, take, get_or, refl, ap, arith, if◌then◌else◌, nat_lt, ltb-false}
use Rattle.std.proofs.lemmas.List.{get_or_past}
use Rattle.std.proofs.lemmas.List.Sums.{sum_by-append, sum_by-cons}
use Rattle.tbl_format.specs.declared.format.Key.{Key}
use Rattle.tbl_laws.specs.RunningOn.{AreWords}
use Rattle.tbl_layout.specs.Entries.{Above, Block, Content, Repeated, Ruled, Short, Text, columns_of, is_number, line_within, lines_of_field}
use Rattle.tbl_lines.proofs.EntriesFit.{line-wide}
use Rattle.tbl_text.proofs.Filling.{fills_block}
use Rattle.tbl_text.proofs.FrontItems.{fitting-items, fitting-width}
use Rattle.tbl_text.specs.BlockLines.{AreLongest, EachFits, IsLine, begun_width, leading, line_width, lines_of, width_behind}
use Rattle.tbl_text.specs.BlockWords.{EmptyLine, OneWord, Part, Word, has_glyph, parts_of, word_of, words_behind, words_of}
use Rattle.tbl_text.specs.Fitted.{fitting_text}
use Rattle.tbl_text.specs.FittedWords.{further_fitted, line_fitted, word_fitted}
use Rattle.tbl_text.specs.Items.{Item, columns, is_ampersand, is_blank, items}
use Rattle.tbl_text.specs.Measuring.{measured, width_of, without_ampersand}
use Rattle.tbl_text.specs.declared.items.What.TheVariants.{Nothing}

-- the first of some words has no more columns than the items of all of them
abbrev first_columns : List Word → ℕ
first_columns [] = 0
first_columns (w ∷ words) = w.columns

choose : (t : Bool) (words others : List Word) (most : ℕ) → first_columns words ≤ most → first_columns others ≤ most
    → first_columns (if t then words else others) ≤ most
choose true words others most one other = one
choose false words others most one other = other

words-narrow : (gap : ℕ) (run left : List Item) → first_columns (words_behind gap run left) ≤ width_of run + width_of left
words-narrow gap run [] =
    choose (has_glyph run) (word_of gap run ∷ []) [] (width_of run + width_of []) (omega arith) (omega arith)
words-narrow gap run (i ∷ left) =
    let f : Item → ℕ = λ x. columns x.what in
    let most = width_of run + width_of (i ∷ left) in
    let wide = sum_by-cons f i left in
    let front = sum_by-append f run (i ∷ []) in
    let one = sum_by-cons f i [] in
    choose (is_blank i.what) (if has_glyph run then word_of gap run ∷ words_behind 1 [] left else words_behind (gap + 1) [] left)
    (words_behind gap (run ++ i ∷ []) left) most
    (choose (has_glyph run) (word_of gap run ∷ words_behind 1 [] left) (words_behind (gap + 1) [] left) most (omega arith)
    (omega (arith, wide, words-narrow (gap + 1) [] left)))
    (omega (arith, wide, front, one, words-narrow gap (run ++ i ∷ []) left))

fit-narrow : (room : ℕ) (text : List ℕ) → first_columns (words_of (fitting_text room text)) ≤ room
fit-narrow room text =
    omega (
      arith,
      words-narrow 0 [] (items (fitting_text room text)),
      ap (λ (xs : List Item). width_of xs) (fitting-items room text),
      fitting-width room (items text),
    )

-- further words
cut-further : (width room gap : ℕ) (breaks : Bool) (words : List Word) → first_columns words ≤ room
    → width_behind width (map OneWord (map (λ (v : Word). record v { breaks = breaks; gap = gap }) (take 1 words))) ≤ width + gap + room
cut-further width room gap breaks [] narrow = omega arith
cut-further width room gap breaks (v ∷ words) narrow = omega (arith, narrow)

further-by : (over wide : Bool) (w : Word) (others : List Part) (room width : ℕ) → nat_lt room w.gap ≡ over → nat_lt room (w.gap + w.columns) ≡ wide
    → width_behind (width + w.gap + w.columns) others ≤ width + w.gap + w.columns + (room - (w.gap + w.columns))
    → width_behind width (if over then [] else if wide then map OneWord (word_fitted (room - w.gap) w) else OneWord w ∷ others) ≤ width + room
further-by true wide w others room width out is rest = omega arith
further-by false true w others room width out is rest =
    omega (
      arith,
      ltb-false room w.gap out,
      cut-further width (room - w.gap) w.gap w.breaks (words_of (fitting_text (room - w.gap) w.text)) (fit-narrow (room - w.gap) w.text),
    )
further-by false false w others room width out is rest = omega (arith, ltb-false room (w.gap + w.columns) is, rest)

further-narrow : (parts : List Part) (room width : ℕ) → AreWords parts → width_behind width (further_fitted room parts) ≤ width + room
further-narrow [] room width words = omega arith
further-narrow (EmptyLine ∷ parts) room width words = absurd words.0
further-narrow (OneWord w ∷ parts) room width words =
    let left = room - (w.gap + w.columns) in
    further-by (nat_lt room w.gap) (nat_lt room (w.gap + w.columns)) w (further_fitted left parts) room width refl refl
    (further-narrow parts left (width + w.gap + w.columns) words.1)

-- a line
cut-first : (room : ℕ) (w : Word) (words : List Word) → first_columns words ≤ room
    → line_width (map OneWord (map (λ (v : Word). record v { breaks = w.breaks; gap = w.gap }) (take 1 words))) ≤ leading w + room
cut-first room w [] narrow = omega arith
cut-first room w (v ∷ words) narrow = omega (arith, narrow)

line-by : (over wide : Bool) (w : Word) (others : List Part) (room : ℕ) → nat_lt room (leading w) ≡ over → nat_lt room (begun_width w) ≡ wide
    → width_behind (begun_width w) others ≤ begun_width w + (room - begun_width w)
    → line_width (if over then [] else if wide then map OneWord (word_fitted (room - leading w) w) else OneWord w ∷ others) ≤ room
line-by true wide w others room out is rest = omega arith
line-by false true w others room out is rest =
    let left = room - leading w in
    omega (arith, ltb-false room (leading w) out, cut-first left w (words_of (fitting_text left w.text)) (fit-narrow left w.text))
line-by false false w others room out is rest = omega (arith, ltb-false room (begun_width w) is, rest)

pub line-narrow : (line : List Part) (room : ℕ) → AreWords line → line_width (line_fitted room line) ≤ room
line-narrow [] room words = omega arith
line-narrow (EmptyLine ∷ line) room words = absurd words.0
line-narrow (OneWord w ∷ line) room words =
    let left = room - begun_width w in
    line-by (nat_lt room (leading w)) (nat_lt room (begun_width w)) w (further_fitted left line) room refl refl
    (further-narrow line left (begun_width w) words.1)

-- the lines of a block: such lines, and empty ones
each-word : (measure width : ℕ) (line : List Part) → EachFits measure width line → AreWords line
each-word measure width [] fits = tt
each-word measure width (EmptyLine ∷ line) fits = absurd fits
each-word measure width (OneWord w ∷ line) fits = (tt, each-word measure (width + w.gap + w.columns) line fits.2)

own-line : (measure : ℕ) (line : List Part) (room : ℕ) → IsLine measure line → line_width (line_fitted room line) ≤ room
own-line measure [] room is = absurd is
own-line measure (EmptyLine ∷ line) room is = omega (arith, ap (λ (rest : List Part). width_behind 0 rest) is)
own-line measure (OneWord w ∷ line) room is = line-narrow (OneWord w ∷ line) room (tt, each-word measure (begun_width w) line is)

abbrev no_lines : List (List Part)
no_lines = []

no-line : (n room : ℕ) → line_width (line_fitted room (get_or no_lines n [])) ≤ room
no-line n room = omega (arith, ap (λ (line : List Part). line_width (line_fitted room line)) (get_or_past no_lines n [] (omega arith)))

lines-narrow : (measure : ℕ) (lines : List (List Part)) (n room : ℕ) → AreLongest measure lines
    → line_width (line_fitted room (get_or lines n [])) ≤ room
lines-narrow measure [] n room long = no-line n room
lines-narrow measure (line ∷ []) zero room long = own-line measure line room long
lines-narrow measure (line ∷ []) (suc n) room long = no-line n room
lines-narrow measure (line ∷ next ∷ lines) zero room long = own-line measure line room long.0
lines-narrow measure (line ∷ next ∷ lines) (suc n) room long = lines-narrow measure (next ∷ lines) n room long.2

-- a text
without-by : (t : Bool) (x : Item) (xs : List Item) → width_of (without_ampersand xs) ≤ width_of xs
    → width_of (if t then record x { what = Nothing } ∷ xs else x ∷ without_ampersand xs) ≤ width_of (x ∷ xs)
without-by true x xs few =
    let f : Item → ℕ = λ i. columns i.what in omega (arith, sum_by-cons f (record x { what = Nothing }) xs, sum_by-cons f x xs)
without-by false x xs few =
    let f : Item → ℕ = λ i. columns i.what in omega (arith, few, sum_by-cons f x (without_ampersand xs), sum_by-cons f x xs)

without-narrow : (xs : List Item) → width_of (without_ampersand xs) ≤ width_of xs
without-narrow [] = omega arith
without-narrow (x ∷ xs) = without-by (is_ampersand x.what) x xs (without-narrow xs)

text-narrow : (number : Bool) (text : List ℕ) → (measured number text).width ≤ width_of (items text)
text-narrow true text = without-narrow (items text)
text-narrow false text = omega arith

run-narrow : (room : ℕ) (key : Key) (text front : List ℕ) → front ≡ fitting_text room text
    → columns_of (get_or (lines_of_field key (Text front)) 0 []) ≤ room
run-narrow room key text [] is = omega arith
run-narrow room key text (b ∷ bytes) is =
    omega (
      arith,
      text-narrow (is_number key) (b ∷ bytes),
      ap (λ (t : List ℕ). width_of (items t)) is,
      ap (λ (xs : List Item). width_of xs) (fitting-items room text),
      fitting-width room (items text),
    )

-- what is shown of a field
pub field-narrow : (room : ℕ) (key : Key) (field : Content) (n : ℕ) → columns_of (line_within room key field n) ≤ room
field-narrow room key (Text bytes) n = run-narrow room key bytes (fitting_text room bytes) refl
field-narrow room key (Block measure lines) n =
    let parts = parts_of lines in
    let filled = lines_of measure parts in
    omega (
      arith,
      line-wide (line_fitted room (get_or filled n [])),
      lines-narrow measure filled n room (fills_block measure parts).longest,
    )
field-narrow room key (Ruled sign) n = omega arith
field-narrow room key Short n = omega arith
field-narrow room key (Repeated b) n = omega arith
field-narrow room key Above n = omega arith
