-- The next word of a line, as its items are read.
use Rattle.std.proofs.Common.{◌≡◌, ℕ, ◌+◌, ◌-◌, ◌<◌, ◌≤◌, Bool, true, false, ◌||◌, ◌&&◌, List, [], ◌∷◌, ◌++◌, length, take, drop, get_or, length-drop, refl, sym, ap, ◌∙◌, arith, if◌then◌else◌, append-nil, get_or-drop}
use Rattle.std.specs.List.{slice_range, list_all}
use Rattle.std.proofs.lemmas.List.Sums.{sum_by-append, fold-append}
use Rattle.std.proofs.lemmas.List.Folds.{list_any-append, list_all_more}
use Rattle.std.proofs.lemmas.Grind.{flat_map-append}
use Rattle.tbl_text.specs.Items.{Item, columns, is_blank, is_glyph}
use Rattle.tbl_text.specs.Measuring.{bytes_of, width_of, before_glyphs, up_to_last_glyph}
use Rattle.tbl_text.specs.declared.items.What.{What}
use Rattle.tbl_text.specs.declared.items.What.TheVariants.{Blank, Byte, Glyph, Ampersand, NotMeasured, Nothing, Dropped}
use Rattle.tbl_text.specs.declared.block_words.Run.{Run}
use Rattle.tbl_text.specs.BlockWords.{has_glyph, ends_behind, ends_sentence, is_plain}
use Rattle.tbl_text.specs.BlockRuns.{nothing_at, with_item}
use Rattle.tbl_text.proofs.BlockSlices.{slice_range-join, slice_range-from, slice_range-none}

-- what is kept of a run of these items, which ends at a place of a line
pub record IsRun (line : List ℕ) (run : Run) (at : ℕ) (read : List Item) : Type 0 where
  pub text : slice_range line run.from at ≡ bytes_of read
  pub to_glyph : slice_range line run.from run.glyphs ≡ bytes_of (up_to_last_glyph read)
  pub width : run.width ≡ width_of read
  pub has_glyph : run.has_glyph ≡ has_glyph read
  pub ends : run.ends_sentence ≡ ends_sentence read
  pub order : run.from ≤ run.glyphs
  pub last : run.glyphs ≤ at
  pub within : at ≤ length line
  pub some : run.has_glyph ≡ true → run.from < run.glyphs
  pub few : run.width + run.from ≤ at

-- nothing is read
pub IsRun-nothing : (line : List ℕ) (at : ℕ) → at ≤ length line → IsRun line (nothing_at at) at []
IsRun-nothing line at within = record {
  text = slice_range-none line at;
  to_glyph = slice_range-none line at;
  width = refl;
  has_glyph = refl;
  ends = refl;
  order = omega arith;
  last = omega arith;
  within = within;
  some = λ has. cc;
  few = omega arith;
}

-- items with a glyph behind them have one
has_glyph-by : (before here : Bool) → here ≡ true → (before || (here || false)) ≡ true
has_glyph-by true here is = refl
has_glyph-by false here is = ap (λ (b : Bool). b || false) is

has_glyph-last : (read : List Item) (i : Item) → is_glyph i.what ≡ true → has_glyph (read ++ i ∷ []) ≡ true
has_glyph-last read i is =
    list_any-append (λ (j : Item). is_glyph j.what) read (i ∷ []) ∙ has_glyph-by (has_glyph read) (is_glyph i.what) is

-- and where what is behind them is none, they have what they had
has_glyph-none_by : (before here : Bool) → here ≡ false → (before || (here || false)) ≡ before
has_glyph-none_by true here is = refl
has_glyph-none_by false here is = ap (λ (b : Bool). b || false) is

has_glyph-same : (read : List Item) (i : Item) → is_glyph i.what ≡ false → has_glyph (read ++ i ∷ []) ≡ has_glyph read
has_glyph-same read i is =
    list_any-append (λ (j : Item). is_glyph j.what) read (i ∷ []) ∙ has_glyph-none_by (has_glyph read) (is_glyph i.what) is

-- what reaches up to the last glyph, with a glyph more
before_one : (j : Item) (read : List Item) (i : Item) → before_glyphs j (read ++ i ∷ []) ≡ j ∷ (read ++ i ∷ [])
before_one j [] i = refl
before_one j (k ∷ read) i = refl

up_to_last-glyph : (read : List Item) (i : Item) → is_glyph i.what ≡ true → up_to_last_glyph (read ++ i ∷ []) ≡ read ++ i ∷ []
up_to_last-glyph [] i is = ap (λ (b : Bool). if b then i ∷ [] else []) is
up_to_last-glyph (j ∷ read) i is = ap (before_glyphs j) (up_to_last-glyph read i is) ∙ before_one j read i

-- and with what is none
up_to_last-same : (read : List Item) (i : Item) → is_glyph i.what ≡ false → up_to_last_glyph (read ++ i ∷ []) ≡ up_to_last_glyph read
up_to_last-same [] i is = ap (λ (b : Bool). if b then i ∷ [] else []) is
up_to_last-same (j ∷ read) i is = ap (before_glyphs j) (up_to_last-same read i is)

-- what is neither a blank nor a glyph has no columns and ends no sentence
columns-none : (what : What) → is_glyph what ≡ false → is_blank what ≡ false → columns what ≡ 0
columns-none Blank none some = cc
columns-none (Byte b) none some = cc
columns-none (Glyph n) none some = cc
columns-none Ampersand none some = refl
columns-none (NotMeasured b) none some = refl
columns-none Nothing none some = refl
columns-none Dropped none some = refl

ends_behind-same : (what : What) (before : Bool) → is_glyph what ≡ false → ends_behind before what ≡ before
ends_behind-same Blank before none = refl
ends_behind-same (Byte b) before none = cc
ends_behind-same (Glyph n) before none = cc
ends_behind-same Ampersand before none = cc
ends_behind-same (NotMeasured b) before none = cc
ends_behind-same Nothing before none = refl
ends_behind-same Dropped before none = refl

-- the item of so many bytes that stands at a place
abbrev pub item_at : List ℕ → ℕ → ℕ → What → Item
item_at line at len what = record { bytes = take len (drop at line); what = what }

module _ (line : List ℕ) (run : Run) (at : ℕ) (read : List Item) (is : IsRun line run at read) (len : ℕ) (what : What) (some : 0 < len) (fits : at + len ≤ length line) (few : columns what ≤ len) where
  abbrev more : List Item
  more = read ++ item_at line at len what ∷ []

  -- its bytes, and those of an item more
  text-more : slice_range line run.from (at + len) ≡ bytes_of more
  text-more =
      slice_range-join line run.from at (at + len) (omega (arith, is.order, is.last)) (omega arith)
      ∙ ap (λ (xs : List ℕ). xs ++ slice_range line at (at + len)) is.text
      ∙ ap (λ (xs : List ℕ). bytes_of read ++ xs) (slice_range-from line at len ∙ sym (append-nil (take len (drop at line))))
      ∙ sym (flat_map-append (λ (i : Item). i.bytes) read (item_at line at len what ∷ []))

  columns-more : width_of more ≡ width_of read + columns what
  columns-more =
      sum_by-append (λ (i : Item). columns i.what) read (item_at line at len what ∷ []) ∙ omega arith

  ends-more : ends_sentence more ≡ ends_behind (ends_sentence read) what
  ends-more = fold-append (λ (before : Bool) (i : Item). ends_behind before i.what) false read (item_at line at len what ∷ [])

  -- with a glyph more
  with_glyph : is_glyph what ≡ true → IsRun line (record run {
    glyphs = at + len;
    width = run.width + columns what;
    has_glyph = true;
    ends_sentence = ends_behind run.ends_sentence what;
  }) (at + len) more
  with_glyph glyph = record {
    text = text-more;
    to_glyph = text-more ∙ ap bytes_of (sym (up_to_last-glyph read (item_at line at len what) glyph));
    width = omega (arith, is.width, columns-more);
    has_glyph = sym (has_glyph-last read (item_at line at len what) glyph);
    ends = ap (λ (b : Bool). ends_behind b what) is.ends ∙ sym ends-more;
    order = omega (arith, is.order, is.last);
    last = omega arith;
    within = fits;
    some = λ has. omega (arith, is.order, is.last);
    few = omega (arith, is.few);
  }

  -- with what is none
  with_nothing : is_glyph what ≡ false → is_blank what ≡ false → IsRun line run (at + len) more
  with_nothing none no_blank = record {
    text = text-more;
    to_glyph = is.to_glyph ∙ ap bytes_of (sym (up_to_last-same read (item_at line at len what) none));
    width = omega (arith, is.width, columns-more, columns-none what none no_blank);
    has_glyph = is.has_glyph ∙ sym (has_glyph-same read (item_at line at len what) none);
    ends = is.ends ∙ sym (ends_behind-same what (ends_sentence read) none) ∙ sym ends-more;
    order = is.order;
    last = omega (arith, is.last);
    within = fits;
    some = is.some;
    few = omega (arith, is.few);
  }

  with_item-by : (glyph : Bool) → is_glyph what ≡ glyph → is_blank what ≡ false
      → IsRun line (if glyph then record run {
        glyphs = at + len;
        width = run.width + columns what;
        has_glyph = true;
        ends_sentence = ends_behind run.ends_sentence what;
      } else run) (at + len) more
  with_item-by true glyph no_blank = with_glyph glyph
  with_item-by false glyph no_blank = with_nothing glyph no_blank

  -- with an item more that is no blank
  pub IsRun-item : is_blank what ≡ false → IsRun line (with_item run what (at + len)) (at + len) more
  IsRun-item no_blank = with_item-by (is_glyph what) refl no_blank

-- bytes that print themselves, with one more
pub plain-more : (line : List ℕ) (from at : ℕ) → from ≤ at → at < length line → list_all is_plain (slice_range line from at) ≡ true
    → is_plain (get_or line at 0) ≡ true → list_all is_plain (slice_range line from (at + 1)) ≡ true
plain-more line from at order within before here =
    let n : at + 1 - from ≡ at - from + 1 = omega arith in
    let place : from + (at - from) ≡ at = omega arith in
    ap (λ (k : ℕ). list_all is_plain (take k (drop from line))) n
    ∙ list_all_more is_plain (drop from line) (at - from) 0 (omega (arith, length-drop from line))
    ∙ ap (λ (t : Bool). t && is_plain (get_or (drop from line) (at - from) 0)) before
    ∙ ap is_plain (get_or-drop from line (at - from) 0 ∙ ap (λ (k : ℕ). get_or line k 0) place) ∙ here
