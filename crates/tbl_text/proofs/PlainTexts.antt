-- Bytes that print themselves: what their items are and measure.
use Rattle.std.proofs.Common.{◌≡◌, ℕ, zero, suc, ◌+◌, ◌-◌, ◌<◌, ◌≤◌, Bool, true, false, List, [], ◌∷◌, ◌++◌, length, take, map, get_or, refl, sym, ap, ◌∙◌, arith, ◌==◌, ◌||◌, nat_le, not, is_some, sum_by, take_while, if◌then◌else◌, eqb-true, length-take-le}
use Rattle.std.specs.Str.{IsAscii}
use Rattle.std.proofs.lemmas.Bool.Decides.{nat_tests}
use Rattle.std.proofs.lemmas.List.{map-append, take_more}
use Rattle.std.proofs.lemmas.List.Folds.{length-prefix_len}
use Rattle.std.proofs.lemmas.List.Sums.{sum_by-cons}
use Rattle.roff_num.specs.Widths.{byte_width}
use Rattle.input_source.specs.Bytes.{blank, is_dropped, is_silent, is_text_byte, tab}
use Rattle.input_source.proofs.PlainBytes.{take_while-plain}
use Rattle.tbl_text.specs.Items.{Item, byte_what, columns, is_glyph, note}
use Rattle.tbl_text.specs.Laws.{ArePlain, byte_item}
use Rattle.tbl_text.specs.Measuring.{before_glyphs, has_notes, len_of, up_to_last_glyph, width_of}
use Rattle.tbl_text.specs.MeasuredSoFar.{behind_glyphs}
use Rattle.tbl_text.specs.declared.items.What.{What}
use Rattle.tbl_text.specs.declared.items.What.TheVariants.{Blank, Byte, Dropped, NotMeasured, Nothing}
use Rattle.tbl_text.specs.declared.measure.Measuring.{Measuring}
use Rattle.tbl_text.proofs.Onto.{any-onto, glyphs-behind, glyphs_of, measuring_of, onto, sum-onto}

-- the bytes of plain text that stand in front
pub text_taken : (front : List ℕ) → ArePlain (take (length (take_while is_text_byte front)) front)
text_taken front = rw length-prefix_len (take_while-plain is_text_byte front)

-- each of them is one
pub plain-at : (bytes : List ℕ) (i : ℕ) → ArePlain bytes → i < length bytes → is_text_byte (get_or bytes i 0) ≡ true
plain-at [] i plain inside = absurd (omega (arith, inside))
plain-at (b ∷ bytes) zero plain inside = plain.0
plain-at (b ∷ bytes) (suc i) plain inside = plain-at bytes i plain.1 (omega (arith, inside))

-- it is no tab, and neither dropped nor silent
no_tab : (b : ℕ) → is_text_byte b ≡ true → (b == tab) ≡ false
no_tab b plain = grind (arith, nat_tests)

none_dropped : (b : ℕ) → is_text_byte b ≡ true → is_dropped b ≡ false
none_dropped b plain = grind (arith, nat_tests)

none_silent : (b : ℕ) → is_text_byte b ≡ true → is_silent b ≡ false
none_silent b plain = grind (arith, nat_tests)

-- what it is
plain-what : (b : ℕ) → is_text_byte b ≡ true → byte_what b ≡ (if b == blank then Blank else Byte b)
plain-what b plain =
    ap (λ (t : Bool). if b == blank then Blank else if t then NotMeasured 116 else if is_dropped b then Dropped else if is_silent b then Nothing else Byte b) (no_tab b plain)
    ∙ ap (λ (t : Bool). if b == blank then Blank else if t then Dropped else if is_silent b then Nothing else Byte b) (none_dropped b plain)
    ∙ ap (λ (t : Bool). if b == blank then Blank else if t then Nothing else Byte b) (none_silent b plain)

blank_width : (b : ℕ) (is : Bool) → (b == blank) ≡ is → columns (if is then Blank else Byte b) ≡ byte_width b
blank_width b true is = ap byte_width (sym (eqb-true b blank is))
blank_width b false is = refl

plain-columns : (b : ℕ) → is_text_byte b ≡ true → columns (byte_what b) ≡ byte_width b
plain-columns b plain = ap columns (plain-what b plain) ∙ blank_width b (b == blank) refl

-- the width of its item, and of all
pub plain-width : (bytes : List ℕ) → ArePlain bytes → width_of (map byte_item bytes) ≡ sum_by byte_width bytes
plain-width [] plain = refl
plain-width (b ∷ bytes) plain =
    omega (arith, sum_by-cons (λ i. columns i.what) (byte_item b) (map byte_item bytes), sum_by-cons byte_width b bytes, plain-columns b plain.0, plain-width bytes plain.1)

-- a byte of ASCII is one column wide
byte_width-below : (b : ℕ) → b < 128 → byte_width b ≡ 1
byte_width-below b below =
    let no : nat_le 128 b ≡ false = grind (arith, nat_tests) in
    rw no refl

-- and so bytes of ASCII are as wide as they are many
pub all_ascii-width : (bytes : List ℕ) → IsAscii bytes → sum_by byte_width bytes ≡ length bytes
all_ascii-width [] ascii = refl
all_ascii-width (b ∷ bytes) ascii =
    omega (arith, sum_by-cons byte_width b bytes, byte_width-below b (ascii 0), all_ascii-width bytes (λ i. ascii (suc i)))

-- how many bytes they have
pub plain-len : (bytes : List ℕ) → len_of (map byte_item bytes) ≡ length bytes
plain-len [] = refl
plain-len (b ∷ bytes) = omega (arith, sum_by-cons (λ i. length i.bytes) (byte_item b) (map byte_item bytes), plain-len bytes)

-- nothing is told of them
none_told : (b : ℕ) (is : Bool) → is_some (note (if is then Blank else Byte b)) ≡ false
none_told b true = refl
none_told b false = refl

pub plain-notes : (bytes : List ℕ) → ArePlain bytes → has_notes (map byte_item bytes) ≡ false
plain-notes [] plain = refl
plain-notes (b ∷ bytes) plain =
    ap (λ (t : Bool). t || has_notes (map byte_item bytes)) (ap (λ (w : What). is_some (note w)) (plain-what b plain.0) ∙ none_told b (b == blank))
    ∙ plain-notes bytes plain.1

-- each is a glyph but a blank
glyph_by : (b : ℕ) (is : Bool) → is_glyph (if is then Blank else Byte b) ≡ not is
glyph_by b true = refl
glyph_by b false = refl

pub plain-glyph : (b : ℕ) → is_text_byte b ≡ true → is_glyph (byte_what b) ≡ not (b == blank)
plain-glyph b plain = ap is_glyph (plain-what b plain) ∙ glyph_by b (b == blank)

-- an item in front of items that have a glyph stays
before_some : (x : Item) (xs : List Item) (g : Item) (gs : List Item) → before_glyphs x (xs ++ g ∷ gs) ≡ x ∷ (xs ++ g ∷ gs)
before_some x [] g gs = refl
before_some x (y ∷ xs) g gs = refl

glyphs-before : (xs ys : List Item) (g : Item) (gs : List Item) → up_to_last_glyph ys ≡ g ∷ gs → up_to_last_glyph (xs ++ ys) ≡ xs ++ g ∷ gs
glyphs-before [] ys g gs is = is
glyphs-before (x ∷ xs) ys g gs is = ap (before_glyphs x) (glyphs-before xs ys g gs is) ∙ before_some x xs g gs

-- what has no glyph goes
glyphs-without : (xs ys : List Item) → up_to_last_glyph ys ≡ [] → up_to_last_glyph (xs ++ ys) ≡ up_to_last_glyph xs
glyphs-without [] ys none = none
glyphs-without (x ∷ xs) ys none = ap (before_glyphs x) (glyphs-without xs ys none)

-- a front by its last byte
front_is : (bytes : List ℕ) (len : ℕ) → 0 < len → len ≤ length bytes
    → map byte_item (take len bytes) ≡ map byte_item (take (len - 1) bytes) ++ byte_item (get_or bytes (len - 1) 0) ∷ []
front_is bytes len some within =
    let same : len - 1 + 1 ≡ len = omega arith in
    ap (λ (n : ℕ). map byte_item (take n bytes)) (sym same)
    ∙ ap (map byte_item) (take_more bytes (len - 1) 0 (omega arith))
    ∙ map-append byte_item (take (len - 1) bytes) (get_or bytes (len - 1) 0 ∷ [])

-- one that ends in a glyph reaches up to it
pub glyphs-last : (bytes : List ℕ) (len : ℕ) → ArePlain bytes → 0 < len → len ≤ length bytes → (get_or bytes (len - 1) 0 == blank) ≡ false
    → len_of (up_to_last_glyph (map byte_item (take len bytes))) ≡ len
glyphs-last bytes len plain some within other =
    let b = get_or bytes (len - 1) 0 in
    let glyph : is_glyph (byte_what b) ≡ true = plain-glyph b (plain-at bytes (len - 1) plain (omega arith)) ∙ ap not other in
    let last : up_to_last_glyph (byte_item b ∷ []) ≡ byte_item b ∷ [] = ap (λ (t : Bool). if t then byte_item b ∷ [] else []) glyph in
    ap (λ (xs : List Item). len_of (up_to_last_glyph xs)) (front_is bytes len some within)
    ∙ ap len_of (glyphs-before (map byte_item (take (len - 1) bytes)) (byte_item b ∷ []) (byte_item b) [] last ∙ sym (front_is bytes len some within))
    ∙ plain-len (take len bytes) ∙ length-take-le len bytes within

-- one that ends in a blank reaches no further than without it
pub glyphs-shorter : (bytes : List ℕ) (len : ℕ) → ArePlain bytes → 0 < len → len ≤ length bytes → (get_or bytes (len - 1) 0 == blank) ≡ true
    → up_to_last_glyph (map byte_item (take len bytes)) ≡ up_to_last_glyph (map byte_item (take (len - 1) bytes))
glyphs-shorter bytes len plain some within is =
    let b = get_or bytes (len - 1) 0 in
    let none : is_glyph (byte_what b) ≡ false = plain-glyph b (plain-at bytes (len - 1) plain (omega arith)) ∙ ap not is in
    ap up_to_last_glyph (front_is bytes len some within)
    ∙ glyphs-without (map byte_item (take (len - 1) bytes)) (byte_item b ∷ []) (ap (λ (t : Bool). if t then byte_item b ∷ [] else []) none)

-- up to the last glyph behind bytes of plain text
pub behind-some : (glyphs at : ℕ) (left : List Item) → 0 < len_of left → at + len_of left ≡ behind_glyphs glyphs at left
behind-some glyphs at [] some = absurd (omega (arith, some))
behind-some glyphs at (x ∷ left) some = refl

-- where they have no glyph
none_left : (b : ℕ) (left : List Item) (glyph : Bool) → is_glyph (byte_what b) ≡ glyph → len_of (before_glyphs (byte_item b) left) ≤ 0
    → before_glyphs (byte_item b) left ≡ []
none_left b [] true is few =
    let some : len_of (before_glyphs (byte_item b) []) ≡ 1 = ap (λ (t : Bool). len_of (if t then byte_item b ∷ [] else [])) is in
    absurd (omega (arith, some, few))
none_left b [] false is few = ap (λ (t : Bool). if t then byte_item b ∷ [] else []) is
none_left b (x ∷ left) glyph is few = absurd (omega (arith, few, sum_by-cons (λ i. length i.bytes) (byte_item b) (x ∷ left)))

no_glyph : (bytes : List ℕ) → len_of (up_to_last_glyph (map byte_item bytes)) ≤ 0 → up_to_last_glyph (map byte_item bytes) ≡ []
no_glyph [] few = refl
no_glyph (b ∷ bytes) few = none_left b (up_to_last_glyph (map byte_item bytes)) (is_glyph (byte_what b)) refl few

pub behind-none : (glyphs at : ℕ) (bytes : List ℕ) → len_of (up_to_last_glyph (map byte_item bytes)) ≤ 0
    → glyphs ≡ behind_glyphs glyphs at (up_to_last_glyph (map byte_item bytes))
behind-none glyphs at bytes few = ap (behind_glyphs glyphs at) (sym (no_glyph bytes few))

-- they are no wider than many
pub one_wide : (b : ℕ) → byte_width b ≤ 1
one_wide b = grind (arith, nat_tests)

pub plain-narrow : (bytes : List ℕ) → ArePlain bytes → width_of (map byte_item bytes) ≤ length bytes
plain-narrow [] plain = omega arith
plain-narrow (b ∷ bytes) plain =
    omega (arith, sum_by-cons (λ i. columns i.what) (byte_item b) (map byte_item bytes), plain-columns b plain.0, one_wide b, plain-narrow bytes plain.1)

-- what is measured with them
pub measuring-plain : (before : List Item) (bytes : List ℕ) → ArePlain bytes
    → ◌≡◌ {A = Measuring} (record {
      at = len_of before + length bytes;
      width = width_of before + width_of (map byte_item bytes);
      glyphs = behind_glyphs (glyphs_of before) (len_of before) (up_to_last_glyph (map byte_item bytes));
      has_notes = has_notes before;
    }) (measuring_of (onto (map byte_item bytes) before))
measuring-plain before bytes plain =
    let read : List Item = map byte_item bytes in
    let all : List Item = onto read before in
    let at : len_of before + length bytes ≡ len_of all = omega (arith, sum-onto (λ i. length i.bytes) read before, plain-len bytes) in
    let width : width_of before + width_of read ≡ width_of all = omega (arith, sum-onto (λ i. columns i.what) read before) in
    let notes : has_notes before ≡ has_notes all =
    sym (any-onto (λ i. is_some (note i.what)) read before ∙ ap (λ (t : Bool). t || has_notes before) (plain-notes bytes plain)) in
    let glyphs : behind_glyphs (glyphs_of before) (len_of before) (up_to_last_glyph read) ≡ glyphs_of all = sym (glyphs-behind read before) in
    ap (λ (n : ℕ). record { at = n; width = width_of before + width_of read; glyphs = behind_glyphs (glyphs_of before) (len_of before) (up_to_last_glyph read); has_notes = has_notes before }) at
    ∙ ap (λ (n : ℕ). record { at = len_of all; width = n; glyphs = behind_glyphs (glyphs_of before) (len_of before) (up_to_last_glyph read); has_notes = has_notes before }) width
    ∙ ap (λ (n : ℕ). record { at = len_of all; width = width_of all; glyphs = n; has_notes = has_notes before }) glyphs
    ∙ ap (λ (t : Bool). record { at = len_of all; width = width_of all; glyphs = glyphs_of all; has_notes = t }) notes
