-- What is shown of an entry that is cut are the first of its glyphs, as many as fit.
use Rattle.std.proofs.Common.{◌≡◌, ℕ, ◌+◌, ◌-◌, ◌<◌, Bool, true, false, List, [], ◌∷◌, ◌++◌, length, map, take, drop, refl, sym, ap, subst, ◌∙◌, arith, append_assoc, if◌then◌else◌, nat_lt, le-ltb, lt-ltb, ltb-false, ltb-true, append-nil, take-append-drop}
use Rattle.std.specs.List.{AllByRecursion}
use Rattle.tbl_laws.proofs.LinesNarrow.{line-narrow}
use Rattle.tbl_laws.specs.RunningOn.{AreWords, CutsLine, Front, HasNoBlank, IsLongestFront, IsLongestLine, Whole, front_of_word, word_cut}
use Rattle.tbl_text.proofs.FrontItems.{fitting-front, fitting-items, fitting-most, fitting-width}
use Rattle.tbl_text.specs.BlockLines.{begun_width, leading, width_behind}
use Rattle.tbl_text.specs.BlockWords.{EmptyLine, OneWord, Part, Word, has_glyph, word_of, words_behind}
use Rattle.tbl_text.specs.Fitted.{fitting, fitting_text}
use Rattle.tbl_text.specs.FittedWords.{further_fitted, line_fitted, word_fitted}
use Rattle.tbl_text.specs.Items.{Item, columns, is_blank, items}

-- of items
longest-fitting : (room : ℕ) (xs : List Item) → IsLongestFront room xs (fitting room xs)
longest-fitting room xs =
    let front = fitting room xs in
    let rest = drop (length front) xs in
    record {
      rest = rest;
      whole = sym (take-append-drop (length front) xs) ∙ ap (λ (first : List Item). first ++ rest) (fitting-front room xs);
      fits = fitting-width room xs;
      most = λ next behind is. fitting-most room xs behind next is;
    }

pub text-cut : (room : ℕ) (text : List ℕ) → IsLongestFront room (items text) (items (fitting_text room text))
text-cut room text =
    subst (λ (front : List Item). IsLongestFront room (items text) front) (sym (fitting-items room text)) (longest-fitting room (items text))

-- of a word
abbrev one_word : ℕ → List Item → List Word
one_word gap run = if has_glyph run then word_of gap run ∷ [] else []

words-whole : (gap : ℕ) (run left : List Item) → AllByRecursion (λ i. is_blank i.what ≡ false) left
    → words_behind gap run left ≡ one_word gap (run ++ left)
words-whole gap run [] none = ap (one_word gap) (sym (append-nil run))
words-whole gap run (i ∷ left) none =
    let other = if has_glyph run then word_of gap run ∷ words_behind 1 [] left else words_behind (gap + 1) [] left in
    ap (λ (t : Bool). if t then other else words_behind gap (run ++ i ∷ []) left) none.0
    ∙ words-whole gap (run ++ i ∷ []) left none.1
    ∙ ap (one_word gap) (append_assoc run (i ∷ []) left)

fitting-by : (t : Bool) (x : Item) (xs : List Item) → is_blank x.what ≡ false → AllByRecursion (λ i. is_blank i.what ≡ false) xs
    → AllByRecursion (λ i. is_blank i.what ≡ false) (if t then [] else x ∷ xs)
fitting-by true x xs one none = tt
fitting-by false x xs one none = (one, none)

fitting-none : (room : ℕ) (xs : List Item) → AllByRecursion (λ i. is_blank i.what ≡ false) xs
    → AllByRecursion (λ i. is_blank i.what ≡ false) (fitting room xs)
fitting-none room [] none = tt
fitting-none room (x ∷ xs) none =
    let own = columns x.what in
    fitting-by (nat_lt room own) x (fitting (room - own) xs) none.0 (fitting-none (room - own) xs none.1)

abbrev with_gap : Word → Word → Word
with_gap w v = record v { breaks = w.breaks; gap = w.gap }

one-of : (t : Bool) (w v : Word) → map (with_gap w) (take 1 (if t then v ∷ [] else [])) ≡ (if t then with_gap w v ∷ [] else [])
one-of true w v = refl
one-of false w v = refl

pub word-cut : (room : ℕ) (w : Word) → HasNoBlank w → word_fitted room w ≡ front_of_word room w
word-cut room w none =
    let xs = fitting room (items w.text) in
    ap (λ (all : List Item). map (with_gap w) (take 1 (words_behind 0 [] all))) (fitting-items room w.text)
    ∙ ap (λ (words : List Word). map (with_gap w) (take 1 words)) (words-whole 0 [] xs (fitting-none room (items w.text) none))
    ∙ one-of (has_glyph xs) w (word_of 0 xs)

-- of the words behind some columns of a line
data Further (room width : ℕ) (line cut : List Part) : Type 0 where
  All : (is : cut ≡ line) → Further room width line cut
  Some : (front : List Part) (w : Word) (behind : List Part) (whole : line ≡ front ++ OneWord w ∷ behind)
      (most : room < width_behind width (front ++ OneWord w ∷ []))
      (is : cut ≡ front ++ map OneWord (word_cut room (width_behind width front + w.gap) w)) → Further room width line cut

-- a word that stands behind some columns, where it doesn't fit
cut-over : (room at : ℕ) (w : Word) → nat_lt room at ≡ true → map OneWord (word_cut room at w) ≡ []
cut-over room at w over = ap (λ (t : Bool). map OneWord (if t then [] else word_fitted (room - at) w)) over

cut-here : (room at left : ℕ) (w : Word) → nat_lt room at ≡ false → left ≡ room - at
    → map OneWord (word_cut room at w) ≡ map OneWord (word_fitted left w)
cut-here room at left w inside same =
    ap (λ (t : Bool). map OneWord (if t then [] else word_fitted (room - at) w)) inside
    ∙ ap (λ (n : ℕ). map OneWord (word_fitted n w)) (sym same)

in-front : (room width : ℕ) (w : Word) (line cut : List Part) → Further room (width + w.gap + w.columns) line cut
    → Further room width (OneWord w ∷ line) (OneWord w ∷ cut)
in-front room width w line cut (All is) = All (ap (λ (rest : List Part). OneWord w ∷ rest) is)
in-front room width w line cut (Some front v behind whole most is) =
    Some (OneWord w ∷ front) v behind (ap (λ (rest : List Part). OneWord w ∷ rest) whole) most (ap (λ (rest : List Part). OneWord w ∷ rest) is)

further-by : (over wide : Bool) (w : Word) (line others : List Part) (room left width : ℕ) → width + left ≡ room → nat_lt left w.gap ≡ over
    → nat_lt left (w.gap + w.columns) ≡ wide → (wide ≡ false → Further room (width + w.gap + w.columns) line others)
    → Further room width (OneWord w ∷ line) (if over then [] else if wide then map OneWord (word_fitted (left - w.gap) w) else OneWord w ∷ others)
further-by true wide w line others room left width sum out is rest =
    let less = ltb-true left w.gap out in
    Some [] w line refl (omega (arith, sum, less)) (sym (cut-over room (width + w.gap) w (lt-ltb room (width + w.gap) (omega (arith, sum, less)))))
further-by false true w line others room left width sum out is rest =
    let some = ltb-false left w.gap out in
    let less = ltb-true left (w.gap + w.columns) is in
    Some [] w line refl (omega (arith, sum, less))
    (sym (cut-here room (width + w.gap) (left - w.gap) w (le-ltb room (width + w.gap) (omega (arith, sum, some))) (omega (arith, sum, some))))
further-by false false w line others room left width sum out is rest = in-front room width w line others (rest refl)

further : (line : List Part) (room left width : ℕ) → width + left ≡ room → AreWords line → Further room width line (further_fitted left line)
further [] room left width sum words = All refl
further (EmptyLine ∷ line) room left width sum words = absurd words.0
further (OneWord w ∷ line) room left width sum words =
    let own = w.gap + w.columns in
    further-by (nat_lt left w.gap) (nat_lt left own) w line (further_fitted (left - own) line) room left width sum refl refl
    (λ is. further line room (left - own) (width + w.gap + w.columns) (omega (arith, sum, ltb-false left own is)) words.1)

-- of a line
first-behind : (room : ℕ) (w : Word) (line cut : List Part) → Further room (begun_width w) line cut
    → CutsLine room (OneWord w ∷ line) (OneWord w ∷ cut)
first-behind room w line cut (All is) = Whole (ap (λ (rest : List Part). OneWord w ∷ rest) is)
first-behind room w line cut (Some front v behind whole most is) =
    Front (OneWord w ∷ front) v behind (ap (λ (rest : List Part). OneWord w ∷ rest) whole) most (ap (λ (rest : List Part). OneWord w ∷ rest) is)

first-by : (over wide : Bool) (w : Word) (line others : List Part) (room : ℕ) → nat_lt room (leading w) ≡ over
    → nat_lt room (begun_width w) ≡ wide → (wide ≡ false → Further room (begun_width w) line others)
    → CutsLine room (OneWord w ∷ line) (if over then [] else if wide then map OneWord (word_fitted (room - leading w) w) else OneWord w ∷ others)
first-by true wide w line others room out is rest =
    let less = ltb-true room (leading w) out in
    Front [] w line refl (omega (arith, less)) (sym (cut-over room (leading w) w out))
first-by false true w line others room out is rest =
    let less = ltb-true room (begun_width w) is in
    Front [] w line refl (omega (arith, less)) (sym (cut-here room (leading w) (room - leading w) w out refl))
first-by false false w line others room out is rest = first-behind room w line others (rest refl)

cuts : (line : List Part) (room : ℕ) → AreWords line → CutsLine room line (line_fitted room line)
cuts [] room words = Whole refl
cuts (EmptyLine ∷ line) room words = absurd words.0
cuts (OneWord w ∷ line) room words =
    let own = begun_width w in
    first-by (nat_lt room (leading w)) (nat_lt room own) w line (further_fitted (room - own) line) room refl refl
    (λ is. further line room (room - own) own (omega (arith, ltb-false room own is)) words.1)

pub line-cut : (room : ℕ) (line : List Part) → AreWords line → IsLongestLine room line (line_fitted room line)
line-cut room line words = record { cuts = cuts line room words; fits = line-narrow line room words }
