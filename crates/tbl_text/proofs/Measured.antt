-- A text is measured item by item.
use Rattle.std.proofs.Common.{◌≡◌, ℕ, ◌+◌, ◌≤◌, Bool, true, false, List, [], ◌∷◌, ◌++◌, length, take, drop, map, refl, sym, ap, subst, ◌∙◌, arith, length-drop, None, if◌then◌else◌, drop-drop, length-take-le, take-append-drop}
use Rattle.std.proofs.lemmas.List.Sums.{sum_by-cons}
use Rattle.std.proofs.lemmas.List.{drop_all}
use Rattle.tbl_text.specs.Items.{Item, columns, is_glyph, items}
use Rattle.tbl_text.specs.Laws.{ArePlain, byte_item}
use Rattle.tbl_text.specs.Measuring.{before_glyphs, len_of, text_measured, up_to_last_glyph, width_of}
use Rattle.tbl_text.specs.MeasuredSoFar.{behind_glyphs, measured_behind}
use Rattle.tbl_text.specs.declared.items.What.{What}
use Rattle.tbl_text.specs.declared.measure.Measuring.{Measuring}
use Rattle.tbl_text.proofs.ItemLaws.{items-plain}
use Rattle.tbl_text.proofs.Onto.{measuring-more, measuring_of, onto, onto-onto, text_measured-onto}
use Rattle.tbl_text.proofs.PlainTexts.{measuring-plain, plain-len, plain-narrow}

-- this is what the items measure of a text up to a place between them
pub record IsMeasured (text : List ℕ) (m : Measuring) : Type 0 where
  pub before : List Item
  pub parts : onto before (items (drop m.at text)) ≡ items text
  pub same : m ≡ measuring_of before
  pub narrow : m.width ≤ m.at
  pub within : m.at ≤ length text
  pub glyphs : m.glyphs ≤ m.at

-- up to the last glyph there are no more bytes than are read
pub few_glyphs : (glyph : Bool) (at len glyphs : ℕ) → glyphs ≤ at → (if glyph then at + len else glyphs) ≤ at + len
few_glyphs true at len glyphs few = omega arith
few_glyphs false at len glyphs few = omega arith

-- one item more
pub measured-more : (text : List ℕ) (m : Measuring) (len : ℕ) (what : What) → IsMeasured text m
    → items (drop m.at text) ≡ record { bytes = take len (drop m.at text); what = what } ∷ items (drop len (drop m.at text))
    → 1 ≤ len → len ≤ length (drop m.at text) → columns what ≤ len → IsMeasured text (measured_behind m len what)
measured-more text m len what so_far first some inside small =
    let x : Item = record { bytes = take len (drop m.at text); what = what } in
    let size : length x.bytes ≡ len = length-take-le len (drop m.at text) inside in
    record {
      before = x ∷ so_far.before;
      parts =
          ap (λ (rest : List ℕ). onto so_far.before (x ∷ items rest)) (sym (drop-drop len m.at text))
          ∙ ap (onto so_far.before) (sym first) ∙ so_far.parts;
      same =
          ap (λ (n : ℕ). measured_behind m n what) (sym size)
          ∙ ap (λ (before : Measuring). measured_behind before (length x.bytes) what) so_far.same
          ∙ measuring-more so_far.before x;
      narrow = omega (arith, so_far.narrow);
      within = omega (arith, so_far.within, length-drop m.at text);
      glyphs = few_glyphs (is_glyph what) m.at len m.glyphs so_far.glyphs;
    }

-- all is read
pub measured-all : (text : List ℕ) (m : Measuring) → IsMeasured text m → length text ≤ m.at
    → record { width = m.width; glyphs = m.glyphs; split = None; has_notes = m.has_notes } ≡ text_measured (items text)
measured-all text m so_far read =
    let whole : onto so_far.before [] ≡ items text =
    ap (λ (rest : List ℕ). onto so_far.before (items rest)) (sym (drop_all m.at text read)) ∙ so_far.parts in
    ap (λ (n : Measuring). record { width = n.width; glyphs = n.glyphs; split = None; has_notes = n.has_notes }) so_far.same
    ∙ sym (text_measured-onto so_far.before) ∙ ap text_measured whole

-- a front of items has no more bytes than all
few_by : (x : Item) (items left : List Item) (glyph : Bool) → is_glyph x.what ≡ glyph → len_of left ≤ len_of items → len_of (before_glyphs x left) ≤ len_of (x ∷ items)
few_by x items [] true is few =
    let one : len_of (before_glyphs x []) ≡ len_of (x ∷ []) = ap (λ (t : Bool). len_of (if t then x ∷ [] else [])) is in
    omega (arith, one, sum_by-cons (λ i. length i.bytes) x [], sum_by-cons (λ i. length i.bytes) x items)
few_by x items [] false is few =
    let none : len_of (before_glyphs x []) ≡ 0 = ap (λ (t : Bool). len_of (if t then x ∷ [] else [])) is in
    omega (arith, none)
few_by x items (y ∷ left) glyph is few =
    omega (arith, few, sum_by-cons (λ i. length i.bytes) x (y ∷ left), sum_by-cons (λ i. length i.bytes) x items)

up_to-few : (items : List Item) → len_of (up_to_last_glyph items) ≤ len_of items
up_to-few [] = omega arith
up_to-few (x ∷ items) = few_by x items (up_to_last_glyph items) (is_glyph x.what) refl (up_to-few items)

behind-few : (glyphs at most : ℕ) (left : List Item) → glyphs ≤ at → len_of left ≤ most → behind_glyphs glyphs at left ≤ at + most
behind-few glyphs at most [] few less = omega (arith, few)
behind-few glyphs at most (x ∷ left) few less = omega (arith, less)

-- bytes more that print themselves
abbrev pub with_front : Measuring → List ℕ → Measuring
with_front m bytes = record m {
  at = m.at + length bytes;
  width = m.width + width_of (map byte_item bytes);
  glyphs = behind_glyphs m.glyphs m.at (up_to_last_glyph (map byte_item bytes));
}

pub measured-plain : (text : List ℕ) (m : Measuring) (n : ℕ) → IsMeasured text m → ArePlain (take n (drop m.at text)) → n ≤ length (drop m.at text)
    → let bytes : List ℕ = take n (drop m.at text) in
    IsMeasured text (with_front m bytes)
measured-plain text m n so_far plain inside =
    let bytes : List ℕ = take n (drop m.at text) in
    let size : length bytes ≡ n = length-take-le n (drop m.at text) inside in
    let read : List Item = map byte_item bytes in
    record {
      before = onto read so_far.before;
      parts =
          onto-onto read so_far.before (items (drop (m.at + length bytes) text))
          ∙ ap (λ (k : ℕ). onto so_far.before (read ++ items (drop (m.at + k) text))) size
          ∙ ap (λ (rest : List ℕ). onto so_far.before (read ++ items rest)) (sym (drop-drop n m.at text))
          ∙ ap (onto so_far.before) (sym (items-plain bytes (drop n (drop m.at text)) plain) ∙ ap items (take-append-drop n (drop m.at text)))
          ∙ so_far.parts;
      same = ap (λ (s : Measuring). with_front s bytes) so_far.same ∙ measuring-plain so_far.before bytes plain;
      narrow = omega (arith, so_far.narrow, plain-narrow bytes plain);
      within = omega (arith, so_far.within, length-drop m.at text);
      glyphs = behind-few m.glyphs m.at (length bytes) (up_to_last_glyph read) so_far.glyphs (omega (arith, up_to-few read, plain-len bytes));
    }

-- the same by what is left of the text
pub measured-item : (text rest : List ℕ) (m : Measuring) (len : ℕ) (what : What) → IsMeasured text m → rest ≡ drop m.at text
    → items rest ≡ record { bytes = take len rest; what = what } ∷ items (drop len rest)
    → 1 ≤ len → len ≤ length rest → columns what ≤ len → IsMeasured text (measured_behind m len what)
measured-item text rest m len what so_far left first some inside small =
    measured-more text m len what so_far
    (subst (λ (r : List ℕ). items r ≡ record { bytes = take len r; what = what } ∷ items (drop len r)) left first)
    some (subst (λ (r : List ℕ). len ≤ length r) left inside) small

-- bytes of plain text in front of what is left
pub measured-front : (text rest : List ℕ) (m : Measuring) (n : ℕ) → IsMeasured text m → rest ≡ drop m.at text
    → ArePlain (take n rest) → n ≤ length rest → IsMeasured text (with_front m (take n rest))
measured-front text rest m n so_far left plain inside =
    subst (λ (r : List ℕ). IsMeasured text (with_front m (take n r))) (sym left)
    (measured-plain text m n so_far (subst (λ (r : List ℕ). ArePlain (take n r)) left plain) (subst (λ (r : List ℕ). n ≤ length r) left inside))
