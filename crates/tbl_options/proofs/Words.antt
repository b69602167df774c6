-- The words of options, as they are read byte by byte.
use Rattle.std.proofs.Common.{◌≡◌, ℕ, suc, ◌+◌, ◌-◌, ◌<◌, ◌≤◌, Bool, true, false, not, ◌&&◌, List, [], ◌∷◌, ◌++◌, length, map, take, drop, fold, get_or, refl, sym, ap, ◌∙◌, arith, append_assoc, append-nil, length-drop, if◌then◌else◌, ◌==◌, length-take-le}
use Rattle.std.specs.List.{slice_range}
use Rattle.std.proofs.lemmas.Bool.Decides.{nat_tests}
use Rattle.std.proofs.lemmas.List.{at_drop_more, drop_all, map-append}
use Rattle.std.proofs.lemmas.List.Edits.{between_more}
use Rattle.tbl_options.specs.Notes.{ignored_message, told_at}
use Rattle.tbl_options.specs.Options.{bracketed, if_word, ignored_of, is_unknown, option_of, option_of_two, options_of, separates_options, with_said, with_set, words_behind}
use Rattle.tbl_options.specs.OptionWords.{IsHeld, behind_two, behind_word, held_word, ignored_by, ignores_before, ignores_last, options_behind}
use Rattle.tbl_options.specs.declared.message.Told.{Told}
use Rattle.tbl_options.specs.declared.options.Options.{Options}
use Rattle.tbl_options.specs.declared.options.OptionsRead.{OptionsRead}

-- a byte ends the word, or goes on with it
pub words-separator : (inside : Bool) (word : List ℕ) (b : ℕ) (text : List ℕ) → (not inside && separates_options b) ≡ true
    → words_behind inside word (b ∷ text) ≡ if_word word ++ words_behind inside [] text
words-separator inside word b text is =
    ap (λ (t : Bool). if t then if_word word ++ words_behind inside [] text else words_behind (bracketed inside b) (word ++ b ∷ []) text) is

pub words-other : (inside : Bool) (word : List ℕ) (b : ℕ) (text : List ℕ) → (not inside && separates_options b) ≡ false
    → words_behind inside word (b ∷ text) ≡ words_behind (bracketed inside b) (word ++ b ∷ []) text
words-other inside word b text is =
    ap (λ (t : Bool). if t then if_word word ++ words_behind inside [] text else words_behind (bracketed inside b) (word ++ b ∷ []) text) is

-- nothing lies between a place and itself
pub empty-part : (text : List ℕ) (at : ℕ) → slice_range text at at ≡ []
empty-part text at = let none : at - at ≡ 0 = omega arith in ap (λ (n : ℕ). take n (drop at text)) none

-- one byte more is read of a text that is left from a place on
module _ (inside : Bool) (text : List ℕ) (from at : ℕ) (begun : from ≤ at) (more : at < length text) where
  pub text-separator : (not inside && separates_options (get_or text at 0)) ≡ true
      → words_behind inside (slice_range text from at) (drop at text)
      ≡ if_word (slice_range text from at) ++ words_behind inside (slice_range text (at + 1) (at + 1)) (drop (at + 1) text)
  text-separator is =
      at_drop_more (words_behind inside (slice_range text from at)) text at 0 more
      ∙ words-separator inside (slice_range text from at) (get_or text at 0) (drop (at + 1) text) is
      ∙ ap (λ (word : List ℕ). if_word (slice_range text from at) ++ words_behind inside word (drop (at + 1) text)) (sym (empty-part text (at + 1)))

  pub text-other : (not inside && separates_options (get_or text at 0)) ≡ false
      → words_behind inside (slice_range text from at) (drop at text)
      ≡ words_behind (bracketed inside (get_or text at 0)) (slice_range text from (at + 1)) (drop (at + 1) text)
  text-other is =
      at_drop_more (words_behind inside (slice_range text from at)) text at 0 more
      ∙ words-other inside (slice_range text from at) (get_or text at 0) (drop (at + 1) text) is
      ∙ ap (λ (word : List ℕ). words_behind (bracketed inside (get_or text at 0)) word (drop (at + 1) text)) (sym (between_more text from at 0 begun more))

-- a word that has a byte, or none
if_word-some : (word : List ℕ) → 0 < length word → if_word word ≡ word ∷ []
if_word-some [] some = absurd (omega (arith, some))
if_word-some (b ∷ word) some = refl

-- where it lies: between a place and itself nothing does
slice-none : (text : List ℕ) (from to : ℕ) → (from == to) ≡ true → if_word (slice_range text from to) ≡ []
slice-none text from to same =
    let is : from ≡ to = grind (arith, nat_tests) in
    ap (λ (n : ℕ). if_word (slice_range text n to)) is ∙ ap if_word (empty-part text to)

slice-some : (text : List ℕ) (from to : ℕ) → from ≤ to → to ≤ length text → (from == to) ≡ false
    → if_word (slice_range text from to) ≡ slice_range text from to ∷ []
slice-some text from to order within other =
    let less : from < to = grind (arith, nat_tests) in
    let inside : to - from ≤ length (drop from text) = omega (arith, within, length-drop from text) in
    let len : length (slice_range text from to) ≡ to - from = length-take-le (to - from) (drop from text) inside in
    if_word-some (slice_range text from to) (omega (arith, less, len))

-- the word that waits, and the words behind it
abbrev pub held_words : List ℕ → OptionsRead → List (List ℕ)
held_words text r = if_word (held_word text r)

-- two words that are known together, or the first by itself
fold-two : (t : Bool) (o : Options) (word next : List ℕ) (words : List (List ℕ)) → is_unknown (option_of_two word next) ≡ t
    → fold with_said o (options_of (word ∷ next ∷ words))
    ≡ (if t then fold with_said (with_set (option_of word) o) (options_of (next ∷ words)) else fold with_said (with_set (option_of_two word next) o) (options_of words))
fold-two true o word next words is =
    ap (λ (t : Bool). fold with_said o (if t then record { word = word; option = option_of word } ∷ options_of (next ∷ words) else record { word = word; option = option_of_two word next } ∷ options_of words)) is
fold-two false o word next words is =
    ap (λ (t : Bool). fold with_said o (if t then record { word = word; option = option_of word } ∷ options_of (next ∷ words) else record { word = word; option = option_of_two word next } ∷ options_of words)) is

-- and those of them that are ignored
and-false : (a : Bool) → (a && false) ≡ false
and-false true = refl
and-false false = refl

and-true : (a : Bool) → (a && true) ≡ a
and-true true = refl
and-true false = refl

by-ignored : (t : Bool) (word : List ℕ) (rest : List (List ℕ)) → (if t then word ∷ rest else rest) ≡ ignored_by t word ++ rest
by-ignored true word rest = refl
by-ignored false word rest = refl

ignored-two : (t : Bool) (word next : List ℕ) (words : List (List ℕ)) → is_unknown (option_of_two word next) ≡ t
    → ignored_of (options_of (word ∷ next ∷ words))
    ≡ (if t then ignored_by (is_unknown (option_of word)) word ++ ignored_of (options_of (next ∷ words)) else ignored_of (options_of words))
ignored-two true word next words is =
    ap (λ (t : Bool). ignored_of (if t then record { word = word; option = option_of word } ∷ options_of (next ∷ words) else record { word = word; option = option_of_two word next } ∷ options_of words)) is
    ∙ by-ignored (is_unknown (option_of word)) word (ignored_of (options_of (next ∷ words)))
ignored-two false word next words is =
    let rest = ignored_of (options_of words) in
    ap (λ (t : Bool). ignored_of (if t then record { word = word; option = option_of word } ∷ options_of (next ∷ words) else record { word = word; option = option_of_two word next } ∷ options_of words)) is
    ∙ ap (λ (t : Bool). if t then word ∷ rest else rest) is

-- one word more
module _ (text : List ℕ) (r : OptionsRead) (from to : ℕ) (held : IsHeld (length text) r) (order : from ≤ to) (within : to ≤ length text) (words : List (List ℕ)) where
  abbrev word : List ℕ
  word = slice_range text from to

  abbrev now : List (List ℕ)
  now = held_words text r ++ (if_word word ++ words)

  abbrev Settles : OptionsRead → Type 0
  Settles new = fold with_said new.options (options_of (held_words text new ++ words)) ≡ fold with_said r.options (options_of now)

  settles-two : (t : Bool) → is_unknown (option_of_two (held_word text r) word) ≡ t → (r.from == r.to) ≡ false → (from == to) ≡ false
      → Settles (if t then record { options = with_set (option_of (held_word text r)) r.options; from = from; to = to } else record { options = with_set (option_of_two (held_word text r) word) r.options; from = to; to = to })
  settles-two true is other more =
      let waits = slice-some text r.from r.to held.order held.within other in
      let comes = slice-some text from to order within more in
      ap (λ (ws : List (List ℕ)). fold with_said (with_set (option_of (held_word text r)) r.options) (options_of (ws ++ words))) comes
      ∙ sym (fold-two true r.options (held_word text r) word words is)
      ∙ ap (λ (ws : List (List ℕ)). fold with_said r.options (options_of (held_word text r ∷ (ws ++ words)))) (sym comes)
      ∙ ap (λ (ws : List (List ℕ)). fold with_said r.options (options_of (ws ++ (if_word word ++ words)))) (sym waits)
  settles-two false is other more =
      let waits = slice-some text r.from r.to held.order held.within other in
      let comes = slice-some text from to order within more in
      ap (λ (ws : List (List ℕ)). fold with_said (with_set (option_of_two (held_word text r) word) r.options) (options_of (ws ++ words))) (ap if_word (empty-part text to))
      ∙ sym (fold-two false r.options (held_word text r) word words is)
      ∙ ap (λ (ws : List (List ℕ)). fold with_said r.options (options_of (held_word text r ∷ (ws ++ words)))) (sym comes)
      ∙ ap (λ (ws : List (List ℕ)). fold with_said r.options (options_of (ws ++ (if_word word ++ words)))) (sym waits)

  settles-held : (t : Bool) → (r.from == r.to) ≡ t → (from == to) ≡ false
      → Settles (if t then record { options = r.options; from = from; to = to } else behind_two r (held_word text r) (option_of_two (held_word text r) word) from to)
  settles-held true none more =
      ap (λ (ws : List (List ℕ)). fold with_said r.options (options_of (ws ++ (if_word word ++ words)))) (sym (slice-none text r.from r.to none))
  settles-held false other more = settles-two (is_unknown (option_of_two (held_word text r) word)) refl other more

  settles-by : (t : Bool) → (from == to) ≡ t
      → Settles (if t then r else if r.from == r.to then record { options = r.options; from = from; to = to } else behind_two r (held_word text r) (option_of_two (held_word text r) word) from to)
  settles-by true none =
      ap (λ (ws : List (List ℕ)). fold with_said r.options (options_of (held_words text r ++ (ws ++ words)))) (sym (slice-none text from to none))
  settles-by false more = settles-held (r.from == r.to) refl more

  pub settles : Settles (behind_word text r from to)
  settles = settles-by (from == to) refl

  -- and what is ignored
  abbrev Ignores : Bool → OptionsRead → Type 0
  Ignores t new =
      ignored_by t (held_word text r) ++ ignored_of (options_of (held_words text new ++ words)) ≡ ignored_of (options_of now)

  ignores-two : (t : Bool) → is_unknown (option_of_two (held_word text r) word) ≡ t → (r.from == r.to) ≡ false → (from == to) ≡ false
      → Ignores (is_unknown (option_of (held_word text r)) && t)
      (if t then record { options = with_set (option_of (held_word text r)) r.options; from = from; to = to } else record { options = with_set (option_of_two (held_word text r) word) r.options; from = to; to = to })
  ignores-two true is other more =
      let waits = slice-some text r.from r.to held.order held.within other in
      let comes = slice-some text from to order within more in
      let u = is_unknown (option_of (held_word text r)) in
      ap (λ (t : Bool). ignored_by t (held_word text r) ++ ignored_of (options_of (if_word word ++ words))) (and-true u)
      ∙ ap (λ (ws : List (List ℕ)). ignored_by u (held_word text r) ++ ignored_of (options_of (ws ++ words))) comes
      ∙ sym (ignored-two true (held_word text r) word words is)
      ∙ ap (λ (ws : List (List ℕ)). ignored_of (options_of (held_word text r ∷ (ws ++ words)))) (sym comes)
      ∙ ap (λ (ws : List (List ℕ)). ignored_of (options_of (ws ++ (if_word word ++ words)))) (sym waits)
  ignores-two false is other more =
      let waits = slice-some text r.from r.to held.order held.within other in
      let comes = slice-some text from to order within more in
      let u = is_unknown (option_of (held_word text r)) in
      ap (λ (t : Bool). ignored_by t (held_word text r) ++ ignored_of (options_of (if_word (slice_range text to to) ++ words))) (and-false u)
      ∙ ap (λ (ws : List (List ℕ)). ignored_of (options_of (ws ++ words))) (ap if_word (empty-part text to))
      ∙ sym (ignored-two false (held_word text r) word words is)
      ∙ ap (λ (ws : List (List ℕ)). ignored_of (options_of (held_word text r ∷ (ws ++ words)))) (sym comes)
      ∙ ap (λ (ws : List (List ℕ)). ignored_of (options_of (ws ++ (if_word word ++ words)))) (sym waits)

  ignores-held : (t : Bool) → (r.from == r.to) ≡ t → (from == to) ≡ false
      → Ignores ((not t && is_unknown (option_of (held_word text r))) && is_unknown (option_of_two (held_word text r) word))
      (if t then record { options = r.options; from = from; to = to } else behind_two r (held_word text r) (option_of_two (held_word text r) word) from to)
  ignores-held true none more =
      ap (λ (ws : List (List ℕ)). ignored_of (options_of (ws ++ (if_word word ++ words)))) (sym (slice-none text r.from r.to none))
  ignores-held false other more = ignores-two (is_unknown (option_of_two (held_word text r) word)) refl other more

  ignores-by : (t : Bool) → (from == to) ≡ t
      → Ignores (if t then false else ignores_last text r && is_unknown (option_of_two (held_word text r) word))
      (if t then r else if r.from == r.to then record { options = r.options; from = from; to = to } else behind_two r (held_word text r) (option_of_two (held_word text r) word) from to)
  ignores-by true none =
      ap (λ (ws : List (List ℕ)). ignored_of (options_of (held_words text r ++ (ws ++ words)))) (sym (slice-none text from to none))
  ignores-by false more = ignores-held (r.from == r.to) refl more

  pub ignores : Ignores (ignores_before text r from to) (behind_word text r from to)
  ignores = ignores-by (from == to) refl

  -- a message has a byte of the word that waits
  abbrev from_two : Bool → OptionsRead
  from_two t =
      if t then record { options = with_set (option_of (held_word text r)) r.options; from = from; to = to }
      else record { options = with_set (option_of_two (held_word text r) word) r.options; from = to; to = to }

  count-two : (t u : Bool) → (r.from == r.to) ≡ false
      → length (ignored_by (u && t) (held_word text r)) + ((from_two t).to - (from_two t).from) ≤ (r.to - r.from) + (to - from)
  count-two true true other = let less : r.from < r.to = grind (arith, nat_tests, held.order) in omega (arith, less)
  count-two true false other = omega arith
  count-two false true other = omega arith
  count-two false false other = omega arith

  abbrev from_held : Bool → OptionsRead
  from_held t =
      if t then record { options = r.options; from = from; to = to }
      else behind_two r (held_word text r) (option_of_two (held_word text r) word) from to

  count-held : (t u : Bool) → (r.from == r.to) ≡ t
      → length (ignored_by ((not t && u) && is_unknown (option_of_two (held_word text r) word)) (held_word text r)) + ((from_held t).to - (from_held t).from)
      ≤ (r.to - r.from) + (to - from)
  count-held true u is = omega arith
  count-held false u is = count-two (is_unknown (option_of_two (held_word text r) word)) u is

  abbrev from_word : Bool → OptionsRead
  from_word t = if t then r else from_held (r.from == r.to)

  abbrev ignored_then : Bool → Bool
  ignored_then t = if t then false else ignores_last text r && is_unknown (option_of_two (held_word text r) word)

  count-by : (t : Bool) → length (ignored_by (ignored_then t) (held_word text r)) + ((from_word t).to - (from_word t).from) ≤ (r.to - r.from) + (to - from)
  count-by true = omega arith
  count-by false = count-held (r.from == r.to) (is_unknown (option_of (held_word text r))) refl

  pub count-ignored : length (ignored_by (ignores_before text r from to) (held_word text r)) + ((behind_word text r from to).to - (behind_word text r from to).from)
      ≤ (r.to - r.from) + (to - from)
  count-ignored = count-by (from == to)

-- behind the last word
module _ (text : List ℕ) (r : OptionsRead) (held : IsHeld (length text) r) where
  settles-ended : (t : Bool) → (r.from == r.to) ≡ t
      → (if t then r.options else with_set (option_of (held_word text r)) r.options) ≡ fold with_said r.options (options_of (held_words text r ++ []))
  settles-ended true none = ap (λ (ws : List (List ℕ)). fold with_said r.options (options_of (ws ++ []))) (sym (slice-none text r.from r.to none))
  settles-ended false other =
      ap (λ (ws : List (List ℕ)). fold with_said r.options (options_of (ws ++ []))) (sym (slice-some text r.from r.to held.order held.within other))

  pub settles-last : options_behind text r ≡ fold with_said r.options (options_of (held_words text r ++ []))
  settles-last = settles-ended (r.from == r.to) refl

  ignores-ended : (t : Bool) → (r.from == r.to) ≡ t
      → ignored_by (not t && is_unknown (option_of (held_word text r))) (held_word text r) ≡ ignored_of (options_of (held_words text r ++ []))
  ignores-ended true none = ap (λ (ws : List (List ℕ)). ignored_of (options_of (ws ++ []))) (sym (slice-none text r.from r.to none))
  ignores-ended false other =
      let u = is_unknown (option_of (held_word text r)) in
      sym (append-nil (ignored_by u (held_word text r)))
      ∙ sym (by-ignored u (held_word text r) [])
      ∙ ap (λ (ws : List (List ℕ)). ignored_of (options_of (ws ++ []))) (sym (slice-some text r.from r.to held.order held.within other))

  pub ignores-end : ignored_by (ignores_last text r) (held_word text r) ≡ ignored_of (options_of (held_words text r ++ []))
  ignores-end = ignores-ended (r.from == r.to) refl

-- the words that are left of a text, where one is read that begins at a place
module _ (text : List ℕ) (all : Options) where
  pub left-separator : (inside : Bool) (from at : ℕ) (begun : from ≤ at) (more : at < length text) (r new : OptionsRead) → IsHeld (length text) r
      → (not inside && separates_options (get_or text at 0)) ≡ true → new ≡ behind_word text r from at
      → fold with_said r.options (options_of (held_words text r ++ words_behind inside (slice_range text from at) (drop at text))) ≡ all
      → fold with_said new.options (options_of (held_words text new ++ words_behind inside (slice_range text (at + 1) (at + 1)) (drop (at + 1) text))) ≡ all
  left-separator inside from at begun more r new held is made so_far =
      let words = words_behind inside (slice_range text (at + 1) (at + 1)) (drop (at + 1) text) in
      ap (λ (q : OptionsRead). fold with_said q.options (options_of (held_words text q ++ words))) made
      ∙ settles text r from at held begun (omega (arith, more)) words
      ∙ ap (λ (ws : List (List ℕ)). fold with_said r.options (options_of (held_words text r ++ ws))) (sym (text-separator inside text from at begun more is))
      ∙ so_far

  pub left-other : (inside : Bool) (from at : ℕ) (begun : from ≤ at) (more : at < length text) (r : OptionsRead)
      → (not inside && separates_options (get_or text at 0)) ≡ false
      → fold with_said r.options (options_of (held_words text r ++ words_behind inside (slice_range text from at) (drop at text))) ≡ all
      → fold with_said r.options (options_of (held_words text r ++ words_behind (bracketed inside (get_or text at 0)) (slice_range text from (at + 1)) (drop (at + 1) text))) ≡ all
  left-other inside from at begun more r is so_far =
      ap (λ (ws : List (List ℕ)). fold with_said r.options (options_of (held_words text r ++ ws))) (sym (text-other inside text from at begun more is)) ∙ so_far

  pub left-end : (inside : Bool) (from at to : ℕ) (r last : OptionsRead) → from ≤ at → at ≡ length text → to ≡ at → IsHeld (length text) r → IsHeld (length text) last
      → last ≡ behind_word text r from to
      → fold with_said r.options (options_of (held_words text r ++ words_behind inside (slice_range text from at) (drop at text))) ≡ all
      → options_behind text last ≡ all
  left-end inside from at to r last begun end to_is held held_last made so_far =
      let nothing : drop at text ≡ [] = drop_all at text (omega (arith, end)) in
      settles-last text last held_last
      ∙ ap (λ (q : OptionsRead). fold with_said q.options (options_of (held_words text q ++ []))) made
      ∙ settles text r from to held (omega (arith, begun, to_is)) (omega (arith, end, to_is)) []
      ∙ ap (λ (ws : List (List ℕ)). fold with_said r.options (options_of (held_words text r ++ ws))) (append-nil (if_word (slice_range text from to)))
      ∙ ap (λ (n : ℕ). fold with_said r.options (options_of (held_words text r ++ if_word (slice_range text from n)))) to_is
      ∙ ap (λ (rest : List ℕ). fold with_said r.options (options_of (held_words text r ++ words_behind inside (slice_range text from at) rest))) (sym nothing)
      ∙ so_far

-- the messages of options that are ignored, as they are kept while a part of a block is read
module _ (line : ℕ) (block : List ℕ) (to : ℕ) (within : to ≤ length block) (all : List Told) where
  abbrev pub told_of_words : List (List ℕ) → List Told
  told_of_words words = map (λ (word : List ℕ). told_at line (ignored_message word)) words

  abbrev pub to_tell : OptionsRead → List (List ℕ) → List Told
  to_tell r words = told_of_words (ignored_of (options_of (held_words block r ++ words)))

  -- what is left of the part, behind one byte
  part-more : (at : ℕ) → at < to → slice_range block at to ≡ get_or block at 0 ∷ slice_range block (at + 1) to
  part-more at more =
      let order : at ≤ to = omega (arith, more) in
      let n : to - at ≡ suc (to - (at + 1)) = omega (arith, more) in
      ap (λ (rest : List ℕ). take (to - at) rest) (at_drop_more (λ (xs : List ℕ). xs) block at 0 (omega (arith, more)))
      ∙ ap (λ (m : ℕ). take m (get_or block at 0 ∷ drop (at + 1) block)) n

  -- one word more
  told-word : (r : OptionsRead) (start at : ℕ) (words : List (List ℕ)) (told new_told : List Told) → IsHeld (length block) r → start ≤ at → at ≤ length block
      → new_told ≡ told ++ told_of_words (ignored_by (ignores_before block r start at) (held_word block r))
      → new_told ++ to_tell (behind_word block r start at) words ≡ told ++ to_tell r (if_word (slice_range block start at) ++ words)
  told-word r start at words told new_told held begun inside said =
      let kept = ignored_by (ignores_before block r start at) (held_word block r) in
      let new = behind_word block r start at in
      let rest = ignored_of (options_of (held_words block new ++ words)) in
      ap (λ (t : List Told). t ++ told_of_words rest) said
      ∙ append_assoc told (told_of_words kept) (told_of_words rest)
      ∙ ap (λ (t : List Told). told ++ t) (sym (map-append (λ (w : List ℕ). told_at line (ignored_message w)) kept rest))
      ∙ ap (λ (ws : List (List ℕ)). told ++ told_of_words ws) (ignores block r start at held begun inside words)

  module _ (inside : Bool) (start at : ℕ) (begun : start ≤ at) (more : at < to) (r : OptionsRead) (told : List Told)
      (so_far : told ++ to_tell r (words_behind inside (slice_range block start at) (slice_range block at to)) ≡ all) where
    pub told-separator : (new : OptionsRead) (new_told : List Told) → IsHeld (length block) r → (not inside && separates_options (get_or block at 0)) ≡ true
        → new ≡ behind_word block r start at
        → new_told ≡ told ++ told_of_words (ignored_by (ignores_before block r start at) (held_word block r))
        → new_told ++ to_tell new (words_behind inside (slice_range block (at + 1) (at + 1)) (slice_range block (at + 1) to)) ≡ all
    told-separator new new_told held is made said =
        let words = words_behind inside (slice_range block (at + 1) (at + 1)) (slice_range block (at + 1) to) in
        let split : words_behind inside (slice_range block start at) (slice_range block at to) ≡ if_word (slice_range block start at) ++ words =
        ap (words_behind inside (slice_range block start at)) (part-more at more)
        ∙ words-separator inside (slice_range block start at) (get_or block at 0) (slice_range block (at + 1) to) is
        ∙ ap (λ (w : List ℕ). if_word (slice_range block start at) ++ words_behind inside w (slice_range block (at + 1) to)) (sym (empty-part block (at + 1))) in
        ap (λ (q : OptionsRead). new_told ++ to_tell q words) made
        ∙ told-word r start at words told new_told held begun (omega (arith, more, within)) said
        ∙ ap (λ (ws : List (List ℕ)). told ++ to_tell r ws) (sym split)
        ∙ so_far

    pub told-other : (not inside && separates_options (get_or block at 0)) ≡ false
        → told ++ to_tell r (words_behind (bracketed inside (get_or block at 0)) (slice_range block start (at + 1)) (slice_range block (at + 1) to)) ≡ all
    told-other is =
        let same : words_behind inside (slice_range block start at) (slice_range block at to)
        ≡ words_behind (bracketed inside (get_or block at 0)) (slice_range block start (at + 1)) (slice_range block (at + 1) to) =
        ap (words_behind inside (slice_range block start at)) (part-more at more)
        ∙ words-other inside (slice_range block start at) (get_or block at 0) (slice_range block (at + 1) to) is
        ∙ ap (λ (w : List ℕ). words_behind (bracketed inside (get_or block at 0)) w (slice_range block (at + 1) to)) (sym (between_more block start at 0 begun (omega (arith, more, within)))) in
        ap (λ (ws : List (List ℕ)). told ++ to_tell r ws) (sym same) ∙ so_far

  -- at its end
  pub told-end : (inside : Bool) (start at : ℕ) (r last : OptionsRead) (told new_told last_told : List Told) → start ≤ at → at ≡ to → IsHeld (length block) r → IsHeld (length block) last
      → last ≡ behind_word block r start to
      → new_told ≡ told ++ told_of_words (ignored_by (ignores_before block r start to) (held_word block r))
      → last_told ≡ new_told ++ told_of_words (ignored_by (ignores_last block last) (held_word block last))
      → told ++ to_tell r (words_behind inside (slice_range block start at) (slice_range block at to)) ≡ all
      → last_told ≡ all
  told-end inside start at r last told new_told last_told begun end held held_last made said said_last so_far =
      let same : words_behind inside (slice_range block start at) (slice_range block at to) ≡ if_word (slice_range block start to) =
      ap (λ (n : ℕ). words_behind inside (slice_range block start n) (slice_range block n to)) end
      ∙ ap (words_behind inside (slice_range block start to)) (empty-part block to) in
      said_last
      ∙ ap (λ (ws : List (List ℕ)). new_told ++ told_of_words ws) (ignores-end block last held_last)
      ∙ ap (λ (q : OptionsRead). new_told ++ to_tell q []) made
      ∙ told-word r start to [] told new_told held (omega (arith, begun, end)) within said
      ∙ ap (λ (ws : List (List ℕ)). told ++ to_tell r ws) (append-nil (if_word (slice_range block start to)))
      ∙ ap (λ (ws : List (List ℕ)). told ++ to_tell r ws) (sym same)
      ∙ so_far
