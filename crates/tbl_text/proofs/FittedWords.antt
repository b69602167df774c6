-- A word that is cut, by its place.
use Rattle.std.proofs.Common.{◌≡◌, ℕ, ◌+◌, ◌-◌, ◌≤◌, List, [], ◌∷◌, map, take, drop, sym, ap, ◌∙◌, arith, length-take, take-take}
use Rattle.std.specs.List.{slice_range}
use Rattle.std.proofs.lemmas.List.{drop-take}
use Rattle.tbl_text.specs.BlockPlaces.{LiesBehind, word_at}
use Rattle.tbl_text.specs.BlockWords.{Word, words_of}
use Rattle.tbl_text.specs.Fitted.{fitting_len, fitting_text}
use Rattle.tbl_text.specs.FittedWords.{word_fitted}
use Rattle.tbl_text.specs.declared.block_words.BlockWord.{BlockWord}

-- a part of a front
slice-front : (block : List ℕ) (end a b : ℕ) → a ≤ b → b ≤ end → slice_range (take end block) a b ≡ slice_range block a b
slice-front block end a b order inside =
    let split : end ≡ a + (end - a) = omega (arith, order, inside) in
    ap (λ (k : ℕ). take (b - a) (drop a (take k block))) split
    ∙ ap (λ (xs : List ℕ). take (b - a) xs) (drop-take a (end - a) block)
    ∙ take-take (b - a) (end - a) (drop a block) (omega (arith, inside))

-- what fits of a word, in its block
text-cut : (block : List ℕ) (from to len end columns : ℕ) → end ≡ from + len → len ≤ to - from → len ≡ fitting_len columns (slice_range block from to)
    → drop from (take end block) ≡ fitting_text columns (slice_range block from to)
text-cut block from to len end columns is short fits =
    ap (λ (k : ℕ). drop from (take k block)) is
    ∙ drop-take from len block
    ∙ sym (take-take len (to - from) (drop from block) short)
    ∙ ap (λ (k : ℕ). take k (slice_range block from to)) fits

abbrev first_with : BlockWord → List Word → List Word
first_with word ws = map (λ (v : Word). record v { breaks = word.breaks; gap = word.gap }) (take 1 ws)

-- the word that is found in what fits of another
module _ (block : List ℕ) (word cut : BlockWord) (len end columns : ℕ) (lies : LiesBehind block 0 word) (is : end ≡ word.from + len)
    (short : len ≤ word.to - word.from) (found : LiesBehind (take end block) word.from cut) where
  abbrev pub placed : BlockWord
  placed = record cut { breaks = word.breaks; gap = word.gap }

  few : cut.to ≤ end
  few = omega (arith, found.within, length-take end block)

  pub cut-within : cut.to ≤ word.to
  cut-within = omega (arith, few, is, short, lies.order, lies.last)

  pub cut-lies : LiesBehind block 0 placed
  cut-lies = record {
    begins = omega arith;
    order = found.order;
    last = found.last;
    some = omega (arith, found.some);
    within = omega (arith, cut-within, lies.within);
    gap = lies.gap;
    width = found.width;
  }

  cut-is : word_at block placed ≡ record (word_at (take end block) cut) { breaks = word.breaks; gap = word.gap }
  cut-is =
      let as_word : List ℕ → List ℕ → Word = λ text to_glyph. record {
        breaks = word.breaks;
        gap = word.gap;
        text = text;
        to_glyph = to_glyph;
        columns = cut.width;
        ends_sentence = cut.ends_sentence;
      } in
      let whole = slice-front block end cut.from cut.to (omega (arith, found.order, found.last)) few in
      let front = slice-front block end cut.from cut.glyphs (omega (arith, found.order)) (omega (arith, found.last, few)) in
      sym (ap (λ (text : List ℕ). as_word text (slice_range (take end block) cut.from cut.glyphs)) whole
      ∙ ap (λ (text : List ℕ). as_word (slice_range block cut.from cut.to) text) front)

  pub cut-fitted : (rest : List Word) → len ≡ fitting_len columns (slice_range block word.from word.to)
      → words_of (drop word.from (take end block)) ≡ word_at (take end block) cut ∷ rest
      → word_at block placed ∷ [] ≡ word_fitted columns (word_at block word)
  cut-fitted rest fits words =
      ap (λ (w : Word). w ∷ []) cut-is
      ∙ sym (ap (first_with word) words)
      ∙ ap (λ (text : List ℕ). first_with word (words_of text)) (text-cut block word.from word.to len end columns is short fits)

-- where nothing of it is a word
pub none-fitted : (block : List ℕ) (word : BlockWord) (len end columns : ℕ) → end ≡ word.from + len → len ≤ word.to - word.from
    → len ≡ fitting_len columns (slice_range block word.from word.to) → words_of (drop word.from (take end block)) ≡ []
    → [] ≡ word_fitted columns (word_at block word)
none-fitted block word len end columns is short fits words =
    sym (ap (first_with word) words)
    ∙ ap (λ (text : List ℕ). first_with word (words_of text)) (text-cut block word.from word.to len end columns is short fits)
