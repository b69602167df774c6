-- A run with bytes more that print themselves, and the words that it leads to.
use Rattle.std.proofs.Common.{◌≡◌, ℕ, ◌+◌, ◌-◌, ◌<◌, ◌≤◌, Bool, true, false, List, [], ◌∷◌, ◌++◌, length, take, drop, map, refl, sym, ap, subst, ◌∙◌, arith, append_assoc, length-drop, if◌then◌else◌, append-nil, drop-drop}
use Rattle.std.specs.List.{slice_range, list_all}
use Rattle.std.proofs.lemmas.List.{take_rest}
use Rattle.std.proofs.lemmas.List.Folds.{drop_split}
use Rattle.std.proofs.Math.Seq.{drop-append_seam}
use Rattle.page_model.specs.Words.{ends_sentence_behind}
use Rattle.tbl_text.specs.Items.{Item, items, columns, is_blank, is_glyph}
use Rattle.tbl_text.specs.declared.items.What.{What}
use Rattle.tbl_text.specs.declared.items.What.TheVariants.{Blank, Byte, Glyph, Ampersand, NotMeasured, Nothing, Dropped}
use Rattle.tbl_text.specs.declared.block_words.Run.{Run}
use Rattle.tbl_text.specs.BlockWords.{has_glyph, ends_behind, word_of, words_behind, words_of, is_plain}
use Rattle.tbl_text.specs.BlockRuns.{nothing_at, with_item, with_plain}
use Rattle.tbl_text.proofs.BlockSlices.{length-slice_range}
use Rattle.tbl_text.proofs.PlainItems.{both, IsPlain, plain-is, plain_item, byte_width-plain, items-plain}
use Rattle.tbl_text.proofs.WordReading.{IsRun, IsRun-nothing, IsRun-item, item_at}

-- what is another thing than a blank
pub is_blank-other : (what : What) → (what ≡ Blank → ⊥) → is_blank what ≡ false
is_blank-other Blank other = absurd (other refl)
is_blank-other (Byte b) other = refl
is_blank-other (Glyph n) other = refl
is_blank-other Ampersand other = refl
is_blank-other (NotMeasured b) other = refl
is_blank-other Nothing other = refl
is_blank-other Dropped other = refl

-- the words, where bytes more go on with a run
words_behind-plain : (gap : ℕ) (read : List Item) (bytes : List ℕ) (left : List Item)
    → words_behind gap read (map plain_item bytes ++ left) ≡ words_behind gap (read ++ map plain_item bytes) left
words_behind-plain gap read [] left = ap (λ (r : List Item). words_behind gap r left) (sym (append-nil read))
words_behind-plain gap read (b ∷ bytes) left =
    words_behind-plain gap (read ++ plain_item b ∷ []) bytes left
    ∙ ap (λ (r : List Item). words_behind gap r left) (append_assoc read (plain_item b ∷ []) (map plain_item bytes))

module _ (line : List ℕ) where
  -- a byte more
  IsRun-byte : (run : Run) (at : ℕ) (read : List Item) (b : ℕ) (rest : List ℕ) → drop at line ≡ b ∷ rest → IsPlain b
      → IsRun line run at read → IsRun line (with_plain run (b ∷ []) (at + 1)) (at + 1) (read ++ plain_item b ∷ [])
  IsRun-byte run at read b rest front plain is =
      let width = byte_width-plain b plain in
      let some : at + 1 ≤ length line = omega (arith, ap length front, length-drop at line) in
      let made = IsRun-item line run at read is 1 (Byte b) (omega arith) some (omega (arith, width)) refl in
      let item : item_at line at 1 (Byte b) ≡ plain_item b =
      ap (λ (xs : List ℕ). record { bytes = take 1 xs; what = Byte b }) front in
      let P : Item → Type 0 = λ i. IsRun line (with_item run (Byte b) (at + 1)) (at + 1) (read ++ i ∷ []) in
      let Q : ℕ → Type 0 = λ n. IsRun line (record {
        from = run.from;
        glyphs = at + 1;
        width = run.width + n;
        has_glyph = true;
        ends_sentence = ends_sentence_behind (b ∷ []) run.ends_sentence;
      }) (at + 1) (read ++ plain_item b ∷ []) in
      subst Q width (subst P item made)

  -- several more
  pub IsRun-plain : (run : Run) (at : ℕ) (read : List Item) (b : ℕ) (bytes rest : List ℕ) → drop at line ≡ b ∷ (bytes ++ rest)
      → list_all is_plain (b ∷ bytes) ≡ true → IsRun line run at read
      → IsRun line (with_plain run (b ∷ bytes) (at + length (b ∷ bytes))) (at + length (b ∷ bytes)) (read ++ map plain_item (b ∷ bytes))
  IsRun-plain run at read b [] rest front plain is =
      IsRun-byte run at read b rest front (plain-is b (both (is_plain b) true plain).0) is
  IsRun-plain run at read b (c ∷ bytes) rest front plain is =
      let parts = both (is_plain b) (list_all is_plain (c ∷ bytes)) plain in
      let byte = IsRun-byte run at read b (c ∷ (bytes ++ rest)) front (plain-is b parts.0) is in
      let next : drop (at + 1) line ≡ c ∷ (bytes ++ rest) = sym (drop-drop 1 at line) ∙ ap (drop 1) front in
      let made = IsRun-plain (with_plain run (b ∷ []) (at + 1)) (at + 1) (read ++ plain_item b ∷ []) c bytes rest next parts.1 byte in
      let end : at + 1 + length (c ∷ bytes) ≡ at + length (b ∷ c ∷ bytes) = omega arith in
      let width : run.width + 1 + length (c ∷ bytes) ≡ run.width + length (b ∷ c ∷ bytes) = omega arith in
      let P : ℕ → ℕ → List Item → Type 0 = λ to w r. IsRun line (record {
        from = run.from;
        glyphs = to;
        width = w;
        has_glyph = true;
        ends_sentence = ends_sentence_behind (b ∷ c ∷ bytes) run.ends_sentence;
      }) to r in
      subst (λ (r : List Item). P (at + length (b ∷ c ∷ bytes)) (run.width + length (b ∷ c ∷ bytes)) r)
      (append_assoc read (plain_item b ∷ []) (map plain_item (c ∷ bytes)))
      (subst (λ (w : ℕ). P (at + length (b ∷ c ∷ bytes)) w ((read ++ plain_item b ∷ []) ++ map plain_item (c ∷ bytes))) width
      (subst (λ (to : ℕ). P to (run.width + 1 + length (c ∷ bytes)) ((read ++ plain_item b ∷ []) ++ map plain_item (c ∷ bytes))) end made))

-- a run begins where it began
from_by : (run : Run) (what : What) (end : ℕ) (glyph : Bool) → (if glyph then record run {
  glyphs = end;
  width = run.width + columns what;
  has_glyph = true;
  ends_sentence = ends_behind run.ends_sentence what;
} else run).from ≡ run.from
from_by run what end true = refl
from_by run what end false = refl

with_item-from : (run : Run) (what : What) (end : ℕ) → (with_item run what end).from ≡ run.from
with_item-from run what end = from_by run what end (is_glyph what)

-- how far a line is read from a place on: up to another one, behind so many blanks, with a run that goes on
pub record Reads (line : List ℕ) (from at gap : ℕ) (run : Run) : Type 0 where
  pub read : List Item
  pub is : IsRun line run at read
  pub words : words_of (drop from line) ≡ words_behind gap read (items (drop at line))
  pub begins : from ≤ run.from
  pub few : gap + from ≤ at

module _ (line : List ℕ) (from at gap : ℕ) (run : Run) (so_far : Reads line from at gap run) where
  -- bytes more that print themselves
  by_bytes : (bytes rest : List ℕ) → drop at line ≡ bytes ++ rest → 0 < length bytes → list_all is_plain bytes ≡ true
      → Reads line from (at + length bytes) gap (with_plain run bytes (at + length bytes))
  by_bytes [] rest front some plain = absurd (omega (arith, some))
  by_bytes (b ∷ bytes) rest front some plain =
      let left : drop (at + length (b ∷ bytes)) line ≡ rest =
      sym (drop-drop (length (b ∷ bytes)) at line) ∙ ap (drop (length (b ∷ bytes))) front ∙ drop-append_seam (b ∷ bytes) rest in record {
        read = so_far.read ++ map plain_item (b ∷ bytes);
        is = IsRun-plain line run at so_far.read b bytes rest front plain so_far.is;
        words = so_far.words
            ∙ ap (λ (text : List ℕ). words_behind gap so_far.read (items text)) front
            ∙ ap (λ (is : List Item). words_behind gap so_far.read is) (items-plain (b ∷ bytes) rest plain)
            ∙ words_behind-plain gap so_far.read (b ∷ bytes) (items rest)
            ∙ ap (λ (text : List ℕ). words_behind gap (so_far.read ++ map plain_item (b ∷ bytes)) (items text)) (sym left);
        begins = so_far.begins;
        few = omega (arith, so_far.few);
      }

  pub Reads-plain : (end : ℕ) → at < end → end ≤ length line → list_all is_plain (slice_range line at end) ≡ true
      → Reads line from end gap (with_plain run (slice_range line at end) end)
  Reads-plain end order within plain =
      let len = length-slice_range line at end within in
      let to : at + length (slice_range line at end) ≡ end = omega (arith, len) in
      subst (λ (e : ℕ). Reads line from e gap (with_plain run (slice_range line at end) e)) to
      (by_bytes (slice_range line at end) (drop end line) (drop_split line at end (omega arith)) (omega (arith, len)) plain)

  -- what is left of a line is its part from a place on
  pub first_of : (i : Item) (n : ℕ) → (let rest = take (length line - at) (drop at line) in items rest ≡ record { bytes = take n rest; what = i.what } ∷ items (drop n rest))
      → items (drop at line) ≡ item_at line at n i.what ∷ items (drop n (drop at line))
  first_of i n first =
      let P : List ℕ → Type 0 = λ rest. items rest ≡ record { bytes = take n rest; what = i.what } ∷ items (drop n rest) in
      subst P (take_rest line at) first

  module _ (len : ℕ) (what : What) (some : 0 < len) (fits : at + len ≤ length line) (first : items (drop at line) ≡ item_at line at len what ∷ items (drop len (drop at line))) where
    left_is : items (drop len (drop at line)) ≡ items (drop (at + len) line)
    left_is = ap items (drop-drop len at line)

    words_are : words_of (drop from line) ≡ words_behind gap so_far.read (item_at line at len what ∷ items (drop (at + len) line))
    words_are =
        so_far.words ∙ ap (λ (is : List Item). words_behind gap so_far.read is) first
        ∙ ap (λ (is : List Item). words_behind gap so_far.read (item_at line at len what ∷ is)) left_is

    -- what words there are behind a blank
    blank_words : is_blank what ≡ true
        → words_of (drop from line)
        ≡ (if has_glyph so_far.read then word_of gap so_far.read ∷ words_behind 1 [] (items (drop (at + len) line)) else words_behind (gap + 1) [] (items (drop (at + len) line)))
    blank_words blank =
        words_are
        ∙ ap (λ (t : Bool). if t then (if has_glyph so_far.read then word_of gap so_far.read ∷ words_behind 1 [] (items (drop (at + len) line)) else words_behind (gap + 1) [] (items (drop (at + len) line))) else words_behind gap (so_far.read ++ item_at line at len what ∷ []) (items (drop (at + len) line))) blank

    -- an item more that is no blank
    pub Reads-item : is_blank what ≡ false → columns what ≤ len → Reads line from (at + len) gap (with_item run what (at + len))
    Reads-item no_blank small = record {
      read = so_far.read ++ item_at line at len what ∷ [];
      is = IsRun-item line run at so_far.read so_far.is len what some fits small no_blank;
      words = words_are
          ∙ ap (λ (t : Bool). if t then (if has_glyph so_far.read then word_of gap so_far.read ∷ words_behind 1 [] (items (drop (at + len) line)) else words_behind (gap + 1) [] (items (drop (at + len) line))) else words_behind gap (so_far.read ++ item_at line at len what ∷ []) (items (drop (at + len) line))) no_blank;
      begins = omega (arith, so_far.begins, with_item-from run what (at + len));
      few = omega (arith, so_far.few);
    }

    -- a blank, of which there is no word in front
    pub Reads-blank : is_blank what ≡ true → run.has_glyph ≡ false → Reads line from (at + len) (gap + 1) (nothing_at (at + len))
    Reads-blank blank none = record {
      read = [];
      is = IsRun-nothing line (at + len) fits;
      words = blank_words blank
          ∙ ap (λ (t : Bool). if t then word_of gap so_far.read ∷ words_behind 1 [] (items (drop (at + len) line)) else words_behind (gap + 1) [] (items (drop (at + len) line))) (sym so_far.is.has_glyph ∙ none);
      begins = omega (arith, so_far.few);
      few = omega (arith, so_far.few);
    }
