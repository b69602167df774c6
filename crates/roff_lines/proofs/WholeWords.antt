-- Whole words that are told at once.
use Rattle.std.proofs.Common.{◌≡◌, ℕ, zero, suc, ◌+◌, ◌-◌, ◌<◌, ◌≤◌, ◌^◌, min, Bool, true, false, ◌||◌, inl, inr, List, [], ◌∷◌, ◌++◌, length, take, drop, nat_le, slice_index_or, refl, sym, ap, subst, ◌∙◌, arith, append_assoc, append-nil, ◌⊎◌, ◌==◌, if◌then◌else◌, length-append, length-take, take-append-drop}
use Rattle.std.specs.List.{AllByRecursion}
use Rattle.std.proofs.Math.Seq.{take-append_seam}
use Rattle.std.proofs.lemmas.Bool.Decides.{nat_tests}
use Rattle.std.proofs.lemmas.List.{take_more}
use Rattle.std.proofs.lemmas.List.Sums.{sum_by-cons, sum_by-append}
use Rattle.page_model.specs.declared.glyph.Glyph.TheVariants.{Printed}
use Rattle.roff_num.specs.Widths.{byte_width}
use Rattle.page_model.specs.Glyphs.{gap_blank, text_width, gaps_in}
use Rattle.page_model.specs.declared.event.Event.TheVariants.{Gap}
use Rattle.page_model.specs.Places.{has_line_glyph, moved}
use Rattle.page_model.specs.Fitting.{gap_text, may_be_wide}
use Rattle.page_model.specs.Words.{has_open_word, is_closer, is_sentence_mark, ends_sentence_behind}
use Rattle.roff_lines.specs.Env.Kept.{Kept, begun_blanks, glyph_room, with_glyphs, with_words, with_word_ended, word_fits, word_finishes}
use Rattle.roff_lines.specs.Env.Stands.{StandsPlainBehind}
use Rattle.roff_lines.specs.Env.Tells.{HasRoom, IsOneCharacter, NoWord, OneMore, TellsPlain, TellsFront, WholeWords}
use Rattle.roff_lines.proofs.Gaps.{begun-same}
use Rattle.roff_lines.proofs.LastLine.{last_text-none, last_width-none}
use Rattle.roff_lines.proofs.PendingLine.{length-gap_text}
use Rattle.roff_lines.proofs.Tells.{Tells-append}
use Rattle.roff_lines.proofs.TextRuns.{Tells-blank}
use Rattle.roff_lines.proofs.ToldGlyphs.{Tells-glyphs, moved-moved}
use Rattle.roff_lines.proofs.Widths.{gaps_in-above, gaps_in-cons, text_width-gap_text}

-- of the bytes so far these are whole words, and those behind them belong to one more
pub record Counts (bytes : List ℕ) (told words count : ℕ) : Type 0 where
  pub front : WholeWords words (take told bytes)
  pub word : List ℕ
  pub split : take count bytes ≡ take told bytes ++ word
  pub characters : AllByRecursion IsOneCharacter word

-- what is between two places that aren't the same is some
ne_pos : (told count long : ℕ) → count ≡ told + long → (count + 1 ≡ told + 1 → ⊥) → 0 < long
ne_pos told count zero same more = absurd (more (omega (arith, same)))
ne_pos told count (suc long) same more = omega arith

-- a character more
AllByRecursion-push : (word : List ℕ) (b : ℕ) → AllByRecursion IsOneCharacter word → IsOneCharacter b
    → AllByRecursion IsOneCharacter (word ++ b ∷ [])
AllByRecursion-push [] b all one = (one, tt)
AllByRecursion-push (c ∷ word) b all one = (all.0, AllByRecursion-push word b all.1 one)

module _ (bytes : List ℕ) (told words count : ℕ) (counts : Counts bytes told words count) (within : count < length bytes) where
  -- a character belongs to the word
  pub Counts-character : 32 < slice_index_or bytes count 0 → slice_index_or bytes count 0 < 128 → Counts bytes told words (count + 1)
  Counts-character above below =
      let b = slice_index_or bytes count 0 in record {
        front = counts.front;
        word = counts.word ++ b ∷ [];
        split = take_more bytes count 0 within ∙ ap (λ (xs : List ℕ). xs ++ b ∷ []) counts.split ∙ append_assoc (take told bytes) counts.word (b ∷ []);
        characters = AllByRecursion-push counts.word b counts.characters (above, below);
      }

  -- a blank ends it
  pub Counts-blank : told ≤ count → slice_index_or bytes count 0 ≡ 32 → (count + 1 ≡ told + 1 → ⊥)
      → Counts bytes (count + 1) (words + 1) (count + 1)
  Counts-blank before blank more =
      let front : List ℕ = take told bytes in
      let whole : front ++ (counts.word ++ 32 ∷ []) ≡ take (count + 1) bytes =
      sym (take_more bytes count 0 within ∙ ap (λ (xs : List ℕ). xs ++ slice_index_or bytes count 0 ∷ []) counts.split
      ∙ ap (λ b. (front ++ counts.word) ++ b ∷ []) blank ∙ append_assoc front counts.word (32 ∷ [])) in
      let long : 0 < length counts.word =
      ne_pos (told) count (length counts.word) (omega (arith, ap length counts.split, length-append front counts.word, length-take told bytes, length-take count bytes)) more in
      record {
        front = subst (WholeWords (words + 1)) whole (OneMore words front counts.word counts.front long counts.characters);
        word = [];
        split = sym (append-nil (take (count + 1) bytes));
        characters = tt;
      }

-- a character is one column wide
byte_width-one : (b : ℕ) → IsOneCharacter b → byte_width b ≡ 1
byte_width-one b one =
    let below : b < 128 = one.1 in
    let no : nat_le 128 b ≡ false = grind (arith, nat_tests) in
    rw no refl

-- so words are as wide as they are long
text_width-word : (word : List ℕ) → AllByRecursion IsOneCharacter word → text_width word ≡ length word
text_width-word [] all = refl
text_width-word (b ∷ word) all = omega (arith, sum_by-cons byte_width b word, byte_width-one b all.0, text_width-word word all.1)

-- its bytes are above the blank
above-word : (word : List ℕ) → AllByRecursion IsOneCharacter word → AllByRecursion (λ b. 32 < b) word
above-word [] all = tt
above-word (b ∷ word) all = (all.0.0, above-word word all.1)

-- sentences end behind some bytes and others
ends-append : (text others : List ℕ) (before : Bool)
    → ends_sentence_behind (text ++ others) before ≡ ends_sentence_behind others (ends_sentence_behind text before)
ends-append [] others before = refl
ends-append (b ∷ text) others before =
    ends-append text others (if is_closer (Printed b) then before else is_sentence_mark (Printed b))

-- what may be so wide may be less wide
or_less : (always : Bool) (wide less most : ℕ) → (always || nat_le wide most) ≡ true → less ≤ wide → (always || nat_le less most) ≡ true
or_less true wide less most may small = refl
or_less false wide less most may small = grind (arith, nat_tests)

pub HasRoom-less : (room less : ℕ) (k : Kept) → HasRoom room k → less ≤ room → HasRoom less k
HasRoom-less room less k has small = record {
  gap = has.gap;
  limit = omega (arith, has.limit, small);
  fits = or_less _ (k.indent + (text_width k.line + k.blanks + room)) (k.indent + (text_width k.line + k.blanks + less)) k.settings.line_length has.fits (omega (arith, small));
}

-- the gaps of some words and of others
gaps_in-append : (text others : List ℕ) → gaps_in (text ++ others) ≡ gaps_in text + gaps_in others
gaps_in-append text others = sum_by-append (λ x. if x == gap_blank then 1 else 0) text others

-- behind a gap where no word is open
abbrev pub behind_gap : ℕ → Kept → Kept
behind_gap n k = record k { blanks = min (k.blanks + n) (2 ^ 33); place = moved n k.place }

-- blanks that are counted up to a limit
counted-more : (blanks n : ℕ) → min (min blanks (2 ^ 33) + n) (2 ^ 33) ≡ min (blanks + n) (2 ^ 33)
counted-more blanks n = omega arith

-- what is kept behind the gap stands for the history with it, where a glyph stands on the line
pub Stands-gap : (n : ℕ) (k : Kept) → k.is_open ≡ false → k.has_glyph ≡ true → StandsPlainBehind k (Gap n) (behind_gap n k)
Stands-gap n k o some line_cap h s =
    let closed : has_open_word h ≡ false = sym s.is_open ∙ o in
    let glyph : has_line_glyph h ≡ true = sym s.has_glyph ∙ some in
    record {
      small = s.small;
      within = rw closed (rw closed at s.within);
      cap = s.cap;
      no_field = s.no_field;
      settings = s.settings;
      temporary_indent = s.temporary_indent;
      stops = s.stops;
      has_line = s.has_line;
      line = s.line;
      indent = s.indent;
      word = s.word;
      is_open = s.is_open;
      blanks = rw (closed, glyph) (ap (λ b. min (b + n) (2 ^ 33)) s.blanks ∙ counted-more _ n);
      has_glyph = s.has_glyph;
      ends_sentence = s.ends_sentence;
      place = rw glyph (ap (moved n) s.place);
      is_interrupted = s.is_interrupted;
      finished = s.finished ∙ sym (last_text-none h (Gap n) refl);
      last_width = s.last_width ∙ sym (last_width-none h (Gap n) refl);
    }

-- a word with a blank behind it goes into the pending line, where that has room
module _ (k : Kept) (word : List ℕ) (line : k.has_line ≡ true) (closed : k.is_open ≡ false) (none : k.word ≡ [])
    (has : HasRoom (length word) k) (some : 0 < length word) (all : AllByRecursion IsOneCharacter word) where
  gap-word : begun_blanks k ≡ k.blanks
  gap-word = begun-same k.blanks k.ends_sentence has.gap

  room-word : length word ≤ glyph_room k
  room-word =
      let gap : (if k.has_line then begun_blanks k else 0) ≡ k.blanks = rw line gap-word in
      omega (arith, gap, ap length none, has.limit)

  -- the word fits
  fits-word : word_fits (with_glyphs word k) ≡ true
  fits-word =
      let wide : text_width (k.word ++ word) ≡ length word = rw none (text_width-word word all) in
      ap (λ m. may_be_wide k.settings k.indent (text_width k.line + m + text_width (k.word ++ word))) gap-word
      ∙ ap (λ n. may_be_wide k.settings k.indent (text_width k.line + k.blanks + n)) wide ∙ has.fits

  ended-word : behind_gap 1 (with_word_ended (with_glyphs word k)) ≡ with_words word k
  ended-word =
      let place : moved 1 (moved (text_width word) k.place) ≡ moved (text_width word + 1) k.place = moved-moved (text_width word) 1 k.place in
      rw (line, fits-word, gap-word, none, place, closed) refl

  Tells-word : TellsPlain (word ++ 32 ∷ []) k (with_words word k)
  Tells-word =
      let first = with_glyphs word k in
      let mid = with_word_ended first in
      let stays : word_finishes first ≡ false = rw (line, fits-word) refl in
      let shut : mid.is_open ≡ false = rw (line, fits-word) refl in
      let glyph : mid.has_glyph ≡ true = rw (line, fits-word) refl in
      let gap : StandsPlainBehind mid (Gap 1) (with_words word k) = subst (StandsPlainBehind mid (Gap 1)) ended-word (Stands-gap 1 mid shut glyph) in
      Tells-append word (32 ∷ []) k first (with_words word k) (Tells-glyphs word some (above-word word all) k room-word)
      (Tells-blank first mid (with_words word k) stays refl gap refl)

-- some words and then one more are all of them
with_words-more : (text word : List ℕ) (k : Kept) → with_words word (with_words text k) ≡ with_words (text ++ 32 ∷ word) k
with_words-more text word k =
    let gap = gap_text k.blanks in
    let whole = with_words (text ++ 32 ∷ word) k in
    let width : text_width (text ++ 32 ∷ word) ≡ text_width text + 1 + text_width word =
    omega (arith, sum_by-append byte_width text (32 ∷ word), sum_by-cons byte_width 32 word) in
    let line : (k.line ++ (gap ++ text)) ++ 32 ∷ word ≡ k.line ++ (gap ++ (text ++ 32 ∷ word)) =
    append_assoc k.line (gap ++ text) (32 ∷ word) ∙ ap (λ xs. k.line ++ xs) (append_assoc gap text (32 ∷ word)) in
    let place : moved (text_width word + 1) (moved (text_width text + 1) k.place) ≡ moved (text_width (text ++ 32 ∷ word) + 1) k.place =
    moved-moved (text_width text + 1) (text_width word + 1) k.place ∙ ap (λ n. moved n k.place) (omega (arith, width)) in
    ap (λ xs. record (with_words word (with_words text k)) { line = xs }) line
    ∙ ap (λ e. record (with_words word (with_words text k)) { line = whole.line; ends_sentence = e }) (sym (ends-append text (32 ∷ word) false))
    ∙ ap (λ p. record whole { place = p }) place

-- these words are told, and stand in the pending line with a blank between two of them
pub record TellsWords (n : ℕ) (front : List ℕ) (k : Kept) : Type 0 where
  pub text : List ℕ
  pub split : front ≡ text ++ 32 ∷ []
  pub gaps : gaps_in text + 1 ≡ n
  pub width : text_width text ≡ length text
  pub tells : TellsPlain front k (with_words text k)

module _ (k : Kept) (room : ℕ) (line : k.has_line ≡ true) (closed : k.is_open ≡ false) (none : k.word ≡ []) (has : HasRoom room k) where
  -- the first word
  tells_first : (n : ℕ) (front word : List ℕ) → front ≡ [] → n ≡ 0 → 0 < length word → AllByRecursion IsOneCharacter word
      → length (front ++ (word ++ 32 ∷ [])) ≤ room + 1 → TellsWords (n + 1) (front ++ (word ++ 32 ∷ [])) k
  tells_first n front word nothing zeroth some all within =
      let long : length (front ++ (word ++ 32 ∷ [])) ≡ length word + 1 =
      ap (λ (xs : List ℕ). length (xs ++ (word ++ 32 ∷ []))) nothing ∙ length-append word (32 ∷ []) in
      let fits = HasRoom-less room (length word) k has (omega (arith, long, within)) in record {
        text = word;
        split = ap (λ (xs : List ℕ). xs ++ (word ++ 32 ∷ [])) nothing;
        gaps = omega (arith, gaps_in-above word (above-word word all), zeroth);
        width = text_width-word word all;
        tells = subst (λ (xs : List ℕ). TellsPlain (xs ++ (word ++ 32 ∷ [])) k (with_words word k)) (sym nothing) (Tells-word k word line closed none fits some all);
      }

  -- one more behind some
  tells_more : (n : ℕ) (front word : List ℕ) → TellsWords n front k → 0 < length word → AllByRecursion IsOneCharacter word
      → length (front ++ (word ++ 32 ∷ [])) ≤ room + 1 → TellsWords (n + 1) (front ++ (word ++ 32 ∷ [])) k
  tells_more n front word t some all within =
      let gap = gap_text k.blanks in
      let mid = with_words t.text k in
      let text : List ℕ = t.text ++ 32 ∷ word in
      let sum : length text ≡ length t.text + 1 + length word = omega (arith, length-append t.text (32 ∷ word)) in
      let long : length (front ++ (word ++ 32 ∷ [])) ≡ length text + 1 =
      omega (arith, sum, length-append front (word ++ 32 ∷ []), length-append word (32 ∷ []), ap length t.split, length-append t.text (32 ∷ [])) in
      let line_long : length mid.line ≡ length k.line + k.blanks + length t.text =
      omega (arith, length-append k.line (gap ++ t.text), length-append gap t.text, length-gap_text k.blanks) in
      let line_wide : text_width mid.line ≡ text_width k.line + k.blanks + length t.text =
      omega (arith, sum_by-append byte_width k.line (gap ++ t.text), sum_by-append byte_width gap t.text, text_width-gap_text k.blanks, t.width) in
      let whole : HasRoom (length text) k = HasRoom-less room (length text) k has (omega (arith, long, within)) in
      let width : text_width k.line + k.blanks + length text ≡ text_width mid.line + 1 + length word = omega (arith, line_wide, sum) in
      let fits : HasRoom (length word) mid = record {
        gap = omega arith;
        limit = omega (arith, line_long, sum, whole.limit);
        fits = ap (may_be_wide k.settings k.indent) (sym width) ∙ whole.fits;
      } in
      let one : TellsPlain (word ++ 32 ∷ []) mid (with_words text k) =
      subst (TellsPlain (word ++ 32 ∷ []) mid) (with_words-more t.text word k) (Tells-word mid word line refl refl fits some all) in
      record {
        text = text;
        split = ap (λ (xs : List ℕ). xs ++ (word ++ 32 ∷ [])) t.split ∙ append_assoc t.text (32 ∷ []) (word ++ 32 ∷ []) ∙ sym (append_assoc t.text (32 ∷ word) (32 ∷ []));
        gaps = omega (arith, gaps_in-append t.text (32 ∷ word), gaps_in-cons 32 word, gaps_in-above word (above-word word all), t.gaps);
        width = omega (arith, sum_by-append byte_width t.text (32 ∷ word), sum_by-cons byte_width 32 word, text_width-word word all, t.width, sum);
        tells = Tells-append front (word ++ 32 ∷ []) k mid (with_words text k) t.tells one;
      }

  -- words that the line has room for are told
  tells_words : (n : ℕ) (front : List ℕ) → WholeWords n front → length front ≤ room + 1 → ((front ≡ []) × (n ≡ 0)) ⊎ TellsWords n front k
  tells_words _ _ NoWord within = inl (refl, refl)
  tells_words _ _ (OneMore n front word before some all) within =
      inr (elim (tells_words n front before (omega (arith, length-append front (word ++ 32 ∷ []), within))) [
        | inl nothing ↦ tells_first n front word nothing.0 nothing.1 some all within
        | inr t ↦ tells_more n front word t some all within
      ])

  -- so some bytes in front are
  module _ (bytes : List ℕ) (told n : ℕ) (some : 0 < told) (few : told ≤ length bytes) (small : told ≤ room + 1)
      (words : WholeWords n (take told bytes)) where
    long-told : length (take told bytes) ≡ told
    long-told = omega (arith, length-take told bytes, few)

    pub TellsWords-told : TellsWords n (take told bytes) k
    TellsWords-told =
        elim (tells_words n (take told bytes) words (omega (arith, long-told, small))) [
          | inl nothing ↦ absurd (omega (arith, ap length nothing.0, long-told))
          | inr t ↦ t
        ]

    -- all but their last blank
    long-text : length TellsWords-told.text ≡ told - 1
    long-text = omega (arith, long-told, ap length TellsWords-told.split, length-append TellsWords-told.text (32 ∷ []))

    joined-text : TellsWords-told.text ++ 32 ∷ drop told bytes ≡ bytes
    joined-text =
        sym (append_assoc TellsWords-told.text (32 ∷ []) (drop told bytes))
        ∙ ap (λ (xs : List ℕ). xs ++ drop told bytes) (sym TellsWords-told.split) ∙ take-append-drop told bytes

    take-text : TellsWords-told.text ≡ take (told - 1) bytes
    take-text =
        sym (take-append_seam TellsWords-told.text (32 ∷ drop told bytes))
        ∙ ap (λ m. take m (TellsWords-told.text ++ 32 ∷ drop told bytes)) long-text ∙ ap (take (told - 1)) joined-text

    -- there is a word, and a gap before each other one
    pub some-words : 1 ≤ n
    some-words = omega (arith, TellsWords-told.gaps)

    pub gaps-words : gaps_in (take (told - 1) bytes) ≡ n - 1
    gaps-words = ap gaps_in (sym take-text) ∙ omega (arith, TellsWords-told.gaps)

    -- each byte is a column wide
    pub width-words : text_width (take (told - 1) bytes) ≡ length (take (told - 1) bytes)
    width-words = ap text_width (sym take-text) ∙ TellsWords-told.width ∙ ap length take-text

    -- they are told in front
    pub TellsFront-words : (rest : List ℕ) (new : Kept) → rest ≡ drop told bytes → new ≡ with_words (take (told - 1) bytes) k
        → TellsFront bytes rest k new
    TellsFront-words rest new is_rest told_new = record {
      front = take told bytes;
      joined = ap (λ (xs : List ℕ). take told bytes ++ xs) is_rest ∙ take-append-drop told bytes;
      told = subst (TellsPlain (take told bytes) k) (ap (λ (text : List ℕ). with_words text k) take-text ∙ sym told_new) TellsWords-told.tells;
    }
