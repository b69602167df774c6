-- The lines of a block behind each other, and what each of them gives.
use Rattle.std.proofs.Common.{◌≡◌, ◌==◌, ℕ, suc, ◌+◌, ◌-◌, ◌<◌, ◌≤◌, Bool, true, false, List, [], ◌∷◌, ◌++◌, length, take, drop, get_or, Option, Some, None, refl, sym, ap, ◌∙◌, arith, length-drop, if◌then◌else◌, map, IfSome, lt-ltb, le-ltb, drop-drop, get_or-take, length-take-le}
use Rattle.std.specs.List.{slice_range}
use Rattle.std.proofs.lemmas.Bool.{false_from_ne_true}
use Rattle.std.proofs.lemmas.List.Elements.{All-from_get_or}
use Rattle.std.proofs.lemmas.List.Splits.{slice_split_none, slice_split_at}
use Rattle.std.proofs.lemmas.Slice.{between_is}
use Rattle.std.proofs.Math.Seq.{split_at}
use Rattle.memchr.specs.Find.{IsFirstByte, is_byte}
use Rattle.input_source.specs.Bytes.{newline}
use Rattle.tbl_text.specs.BlockWords.{Word, EmptyLine, OneWord, is_request, is_empty_line, joined_to, joined_words, known_behind, parts_behind, lines_in, words_of}
use Rattle.tbl_text.specs.BlockPlaces.{line_behind, lines_from, parts_at, word_at, words_with, parts_of_word, WordGoesOn, LiesBehind, GoesOn}
use Rattle.tbl_text.specs.BlockRuns.{joined_word}
use Rattle.tbl_text.specs.declared.block_parts.BlockPlace.TheVariants.{Behind}
use Rattle.tbl_text.specs.declared.block_parts.BlockPart.TheVariants.{Word as AWord}
use Rattle.tbl_text.specs.declared.block_words.BlockWord.{BlockWord}
use Rattle.tbl_text.proofs.BlockSlices.{slice_range-take, slice_range-from, slice_range-rest}

-- the lines of bytes without a newline
lines_in-none : (bytes : List ℕ) → IsFirstByte (is_byte newline) bytes None → lines_in bytes ≡ bytes ∷ []
lines_in-none bytes none =
    slice_split_none (λ b. b == newline) bytes (All-from_get_or (λ b. (b == newline) ≡ false) bytes 0
    (λ k within. false_from_ne_true (get_or bytes k 0 == newline) (none k (omega arith) within)))

-- and of bytes whose first newline stands there
lines_in-first : (bytes : List ℕ) (at : ℕ) → IsFirstByte (is_byte newline) bytes (Some at)
    → lines_in bytes ≡ take at bytes ∷ lines_in (drop (at + 1) bytes)
lines_in-first bytes at first =
    let within = first.0.high in
    let len = length-take-le at bytes (omega (arith, within)) in
    let next : suc at ≡ at + 1 = omega arith in
    ap lines_in (split_at bytes at 0 within)
    ∙ slice_split_at (λ b. b == newline) (take at bytes) (get_or bytes at 0) (drop (suc at) bytes)
    (All-from_get_or (λ b. (b == newline) ≡ false) (take at bytes) 0
    (λ k few.
    let before : k < at = omega (arith, few, len) in
    ap (λ b. b == newline) (get_or-take at bytes k 0 before)
    ∙ false_from_ne_true (get_or bytes k 0 == newline) (first.0.before k (omega arith) before)))
    first.1
    ∙ ap (λ (n : ℕ). take at bytes ∷ lines_in (drop n bytes)) next

module _ (bytes : List ℕ) (line : ℕ) (within : line ≤ length bytes) where
  -- the lines from one on that no newline ends
  pub lines_from-last : IsFirstByte (is_byte newline) (drop line bytes) None
      → lines_from bytes (Some line) ≡ slice_range bytes line (length bytes) ∷ lines_from bytes (line_behind bytes (length bytes))
  lines_from-last none =
      lines_in-none (drop line bytes) none
      ∙ ap (λ (text : List ℕ). text ∷ []) (sym (slice_range-rest bytes line))
      ∙ ap (λ (t : Bool). slice_range bytes line (length bytes) ∷ lines_from bytes (if t then Some (length bytes + 1) else None))
      (sym (le-ltb (length bytes) (length bytes) (omega arith)))

  -- and from one on that a newline ends
  pub lines_from-first : (len : ℕ) → IsFirstByte (is_byte newline) (drop line bytes) (Some len)
      → lines_from bytes (Some line) ≡ slice_range bytes line (line + len) ∷ lines_from bytes (line_behind bytes (line + len))
  lines_from-first len first =
      let here : line + len < length bytes = omega (arith, first.0.high, length-drop line bytes) in
      let place : line + (len + 1) ≡ line + len + 1 = omega arith in
      lines_in-first (drop line bytes) len first
      ∙ ap (λ (text : List ℕ). text ∷ lines_in (drop (len + 1) (drop line bytes))) (sym (slice_range-from bytes line len))
      ∙ ap (λ (rest : List ℕ). slice_range bytes line (line + len) ∷ lines_in rest)
      (drop-drop (len + 1) line bytes ∙ ap (λ (n : ℕ). drop n bytes) place)
      ∙ ap (λ (t : Bool). slice_range bytes line (line + len) ∷ lines_from bytes (if t then Some (line + len + 1) else None))
      (sym (lt-ltb (line + len) (length bytes) here))

-- what a line gives that is none
other_parts : (before : Option Bool) (line : List ℕ) (lines : List (List ℕ)) → is_request line ≡ false
    → parts_behind before (line ∷ lines)
    ≡ (if is_empty_line line then EmptyLine ∷ [] else joined_words before (words_of line))
    ++ parts_behind (if is_empty_line line then None else known_behind before (words_of line)) lines
other_parts before line lines is =
    ap (λ (t : Bool). (if t then [] else if is_empty_line line then EmptyLine ∷ [] else joined_words before (words_of line))
    ++ parts_behind (if t then before else if is_empty_line line then None else known_behind before (words_of line)) lines) is

-- another line gives its words
pub word_parts : (before : Option Bool) (line : List ℕ) (lines : List (List ℕ)) → is_request line ≡ false → is_empty_line line ≡ false
    → parts_behind before (line ∷ lines) ≡ joined_words before (words_of line) ++ parts_behind (known_behind before (words_of line)) lines
word_parts before line lines no_request is =
    other_parts before line lines no_request
    ∙ ap (λ (t : Bool). (if t then EmptyLine ∷ [] else joined_words before (words_of line))
    ++ parts_behind (if t then None else known_behind before (words_of line)) lines) is

-- a word as the first of a line, by its place
gapped : (bytes : List ℕ) (ends : Bool) (w : BlockWord) (none : Bool)
    → word_at bytes (if none then record w { gap = if ends then 2 else 1 } else record w { breaks = true })
    ≡ (if none then record (word_at bytes w) { gap = if ends then 2 else 1 } else record (word_at bytes w) { breaks = true })
gapped bytes ends w true = refl
gapped bytes ends w false = refl

pub word_at-joined : (bytes : List ℕ) (before : Option Bool) (w : BlockWord) → word_at bytes (joined_word before w) ≡ joined_to before (word_at bytes w)
word_at-joined bytes None w = refl
word_at-joined bytes (Some ends) w = gapped bytes ends w (w.gap == 0)

module _ (bytes : List ℕ) (from end : ℕ) (order : from ≤ end) (within : end ≤ length bytes) where
  len : length (take end bytes) ≡ end
  len = length-take-le end bytes within

  -- the words of a part of the bytes, as they are read in their front
  pub words-part : (next : Option BlockWord) → words_of (drop from (take end bytes)) ≡ words_with (take end bytes) next
      → words_of (slice_range bytes from end) ≡ words_with (take end bytes) next
  words-part next is = ap words_of (between_is bytes from end) ∙ is

  module _ (w : BlockWord) (lies : LiesBehind (take end bytes) from w) where
    -- where a word of it lies
    pub lies-part : LiesBehind bytes from w
    lies-part = record {
      begins = lies.begins;
      order = lies.order;
      last = lies.last;
      some = lies.some;
      within = omega (arith, lies.within, len);
      gap = omega (arith, lies.gap, len);
      width = omega (arith, lies.width, len);
    }

    -- the word, and those behind it
    pub word-part : words_of (slice_range bytes from end) ≡ words_with (take end bytes) (Some w)
        → words_of (slice_range bytes from end) ≡ word_at bytes w ∷ words_of (slice_range bytes w.to end)
    word-part is =
        let ends : w.to ≤ end = omega (arith, lies.within, len) in
        is
        ∙ ap (λ (text : List ℕ). record {
          breaks = w.breaks;
          gap = w.gap;
          text = text;
          to_glyph = slice_range (take end bytes) w.from w.glyphs;
          columns = w.width;
          ends_sentence = w.ends_sentence;
        } ∷ words_of (drop w.to (take end bytes))) (slice_range-take bytes end w.from w.to ends)
        ∙ ap (λ (text : List ℕ). record {
          breaks = w.breaks;
          gap = w.gap;
          text = slice_range bytes w.from w.to;
          to_glyph = text;
          columns = w.width;
          ends_sentence = w.ends_sentence;
        } ∷ words_of (drop w.to (take end bytes))) (slice_range-take bytes end w.from w.glyphs (omega (arith, lies.last, ends)))
        ∙ ap (λ (text : List ℕ). word_at bytes w ∷ words_of text) (sym (between_is bytes w.to end))

    -- a line whose first word it is
    pub first_word : (before : Option Bool) → is_request (slice_range bytes from end) ≡ false → is_empty_line (slice_range bytes from end) ≡ false
        → words_of (slice_range bytes from end) ≡ words_with (take end bytes) (Some w)
        → parts_behind before (slice_range bytes from end ∷ lines_from bytes (line_behind bytes end))
        ≡ OneWord (word_at bytes (joined_word before w)) ∷ parts_at bytes (Behind w.to end w.ends_sentence)
    first_word before no_request some is =
        let behind = lines_from bytes (line_behind bytes end) in
        word_parts before (slice_range bytes from end) behind no_request some
        ∙ ap (λ (words : List Word). joined_words before words ++ parts_behind (known_behind before words) behind) (word-part is)
        ∙ ap (λ (v : Word). OneWord v ∷ parts_at bytes (Behind w.to end w.ends_sentence)) (sym (word_at-joined bytes before w))

    -- and behind a word that others of its line stand before
    pub goes_within : GoesOn bytes (length bytes - from + 1) (AWord w, Behind w.to end w.ends_sentence)
    goes_within = record {
      lies = record {
        begins = omega arith;
        order = lies.order;
        last = lies.last;
        some = omega (arith, lies.some);
        within = omega (arith, lies.within, len);
        gap = omega (arith, lies.gap, len);
        width = omega (arith, lies.width, len);
      };
      within = (omega (arith, lies.within, len), within);
      less = omega (arith, lies.some, lies.within, len);
    }

  -- a line that has none gives nothing
  pub no_words : (before : Option Bool) → is_request (slice_range bytes from end) ≡ false → is_empty_line (slice_range bytes from end) ≡ false
      → words_of (slice_range bytes from end) ≡ []
      → parts_behind before (slice_range bytes from end ∷ lines_from bytes (line_behind bytes end))
      ≡ parts_behind before (lines_from bytes (line_behind bytes end))
  no_words before no_request some none =
      let behind = lines_from bytes (line_behind bytes end) in
      word_parts before (slice_range bytes from end) behind no_request some
      ∙ ap (λ (words : List Word). joined_words before words ++ parts_behind (known_behind before words) behind) none

  -- what is left behind a word of the line, by the next one
  pub word-left : (next : Option BlockWord) → words_of (drop from (take end bytes)) ≡ words_with (take end bytes) next
      → IfSome next (LiesBehind (take end bytes) from) → (ends : Bool)
      → parts_at bytes (Behind from end ends) ≡ parts_of_word bytes end ends next
  word-left None is lies ends =
      let behind = lines_from bytes (line_behind bytes end) in
      ap (λ (words : List Word). map OneWord words ++ parts_behind (known_behind (Some ends) words) behind) (words-part None is)
  word-left (Some w) is lies ends =
      let behind = lines_from bytes (line_behind bytes end) in
      ap (λ (words : List Word). map OneWord words ++ parts_behind (known_behind (Some ends) words) behind)
      (word-part w lies (words-part (Some w) is))

  pub goes_left : (next : Option BlockWord) → IfSome next (LiesBehind (take end bytes) from)
      → IfSome next (WordGoesOn bytes (length bytes - from + 1) end)
  goes_left None lies = lies
  goes_left (Some w) lies = goes_within w lies
