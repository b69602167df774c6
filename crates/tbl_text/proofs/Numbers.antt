-- A number is measured item by item.
use Rattle.std.proofs.Common.{◌≡◌, ℕ, ◌+◌, ◌≤◌, List, [], ◌∷◌, length, take, drop, refl, sym, ap, subst, ◌∙◌, arith, length-drop, get_or-take, Option, Some, None, slice_index, if◌then◌else◌, drop-drop, length-take-le}
use Rattle.std.specs.Option.{option_or}
use Rattle.std.proofs.lemmas.List.{drop_all}
use Rattle.std.proofs.lemmas.List.Sums.{sum_by-cons}
use Rattle.tbl_text.specs.Items.{Item, columns, is_ampersand, is_glyph, items}
use Rattle.tbl_text.specs.Measuring.{len_of, number_measured, split_of, text_measured, width_of, without_ampersand}
use Rattle.tbl_text.specs.MeasuredSoFar.{item_split, measured_behind, shown}
use Rattle.tbl_text.specs.declared.items.What.{What}
use Rattle.tbl_text.specs.declared.items.What.TheVariants.{Blank, Byte, Glyph, Ampersand, NotMeasured, Nothing, Dropped}
use Rattle.tbl_text.specs.declared.measure.Measured.{Measured}
use Rattle.tbl_text.specs.declared.measure.Measuring.{Measuring}
use Rattle.tbl_text.specs.declared.measure.Split.{Split}
use Rattle.tbl_text.specs.declared.measure.Splitting.{Splitting}
use Rattle.tbl_text.proofs.Measured.{few_glyphs}
use Rattle.tbl_text.proofs.Onto.{measuring-more, measuring_of, onto, text_measured-onto}
use Rattle.tbl_text.proofs.Splits.{ampersand-more, split-all, split_more, splitting_of}

-- the items left, of which the first `\&` prints nothing, if none has split the number
abbrev pub left : Option Split → List Item → List Item
left None rest = without_ampersand rest
left (Some split) rest = rest

-- this is what the items measure of a number up to a place between them, and where it may be split
pub record IsNumber (text : List ℕ) (m : Measuring) (s : Splitting) : Type 0 where
  pub before : List Item
  pub printed : List Item
  pub parts : onto before (items (drop m.at text)) ≡ items text
  pub seen : onto printed (left s.ampersand (items (drop m.at text))) ≡ without_ampersand (items text)
  pub same : m ≡ measuring_of printed
  pub splits : s ≡ splitting_of before
  pub len : len_of before ≡ m.at
  pub width : width_of before ≡ m.width
  pub narrow : m.width ≤ m.at
  pub within : m.at ≤ length text
  pub glyphs : m.glyphs ≤ m.at

-- an item as it is shown is as wide
pub shown-columns : (split : Option Split) (what : What) → columns (shown split what) ≡ columns what
shown-columns (Some split) what = refl
shown-columns None Blank = refl
shown-columns None (Byte b) = refl
shown-columns None (Glyph n) = refl
shown-columns None Ampersand = refl
shown-columns None (NotMeasured b) = refl
shown-columns None Nothing = refl
shown-columns None Dropped = refl

-- one of the items left
left-more : (split : Option Split) (around : Split) (bytes : List ℕ) (what : What) (rest : List Item)
    → left split (record { bytes = bytes; what = what } ∷ rest)
    ≡ record { bytes = bytes; what = shown split what } ∷ left (option_or split (if is_ampersand what then Some around else None)) rest
left-more (Some split) around bytes what rest = refl
left-more None around bytes Blank rest = refl
left-more None around bytes (Byte b) rest = refl
left-more None around bytes (Glyph n) rest = refl
left-more None around bytes Ampersand rest = refl
left-more None around bytes (NotMeasured b) rest = refl
left-more None around bytes Nothing rest = refl
left-more None around bytes Dropped rest = refl

left-nothing : (split : Option Split) → left split [] ≡ []
left-nothing None = refl
left-nothing (Some split) = refl

-- one item more
module _ (text : List ℕ) (m : Measuring) (s : Splitting) (len : ℕ) (what : What) (so_far : IsNumber text m s) where
  number-more : items (drop m.at text) ≡ record { bytes = take len (drop m.at text); what = what } ∷ items (drop len (drop m.at text))
      → 1 ≤ len → len ≤ length (drop m.at text) → columns what ≤ len
      → IsNumber text (measured_behind m len (shown s.ampersand what)) (item_split s m.at m.width (slice_index (drop m.at text) 0) len what)
  number-more first some inside small =
      let bytes : List ℕ = take len (drop m.at text) in
      let x : Item = record { bytes = bytes; what = what } in
      let y : Item = record { bytes = bytes; what = shown s.ampersand what } in
      let rest : List Item = items (drop len (drop m.at text)) in
      let size : length bytes ≡ len = length-take-le len (drop m.at text) inside in
      let byte : slice_index bytes 0 ≡ slice_index (drop m.at text) 0 = get_or-take len (drop m.at text) 0 0 (omega (arith, some)) in
      let further : items (drop (m.at + len) text) ≡ rest = ap items (sym (drop-drop len m.at text)) in
      let next : Splitting = item_split s m.at m.width (slice_index (drop m.at text) 0) len what in
      let is_next : next ≡ splitting_of (x ∷ so_far.before) =
      ap (λ (n : ℕ). item_split s n m.width (slice_index (drop m.at text) 0) len what) (sym so_far.len)
      ∙ ap (λ (n : ℕ). item_split s (len_of so_far.before) n (slice_index (drop m.at text) 0) len what) (sym so_far.width)
      ∙ ap (λ (b : ℕ). item_split s (len_of so_far.before) (width_of so_far.before) b len what) (sym byte)
      ∙ ap (λ (n : ℕ). item_split s (len_of so_far.before) (width_of so_far.before) (slice_index bytes 0) n what) (sym size)
      ∙ ap (λ (t : Splitting). split_more t so_far.before x) so_far.splits in
      let around : Split = record { left = width_of so_far.before; end = len_of so_far.before; behind = len_of so_far.before + length bytes } in
      let splits : next.ampersand ≡ option_or s.ampersand (if is_ampersand what then Some around else None) =
      ap (λ (t : Splitting). t.ampersand) is_next ∙ ampersand-more so_far.before x
      ∙ ap (λ (t : Splitting). option_or t.ampersand (if is_ampersand what then Some around else None)) (sym so_far.splits) in
      record {
        before = x ∷ so_far.before;
        printed = y ∷ so_far.printed;
        parts = ap (λ (r : List Item). onto so_far.before (x ∷ r)) further ∙ ap (onto so_far.before) (sym first) ∙ so_far.parts;
        seen =
            ap (λ (o : Option Split). onto so_far.printed (y ∷ left o (items (drop (m.at + len) text)))) splits
            ∙ ap (λ (r : List Item). onto so_far.printed (y ∷ left (option_or s.ampersand (if is_ampersand what then Some around else None)) r)) further
            ∙ ap (onto so_far.printed) (sym (left-more s.ampersand around bytes what rest) ∙ ap (left s.ampersand) (sym first))
            ∙ so_far.seen;
        same =
            ap (λ (n : ℕ). measured_behind m n (shown s.ampersand what)) (sym size)
            ∙ ap (λ (n : Measuring). measured_behind n (length bytes) (shown s.ampersand what)) so_far.same
            ∙ measuring-more so_far.printed y;
        splits = is_next;
        len = omega (arith, so_far.len, size, sum_by-cons (λ i. length i.bytes) x so_far.before);
        width = omega (arith, so_far.width, shown-columns s.ampersand what, sum_by-cons (λ i. columns i.what) x so_far.before);
        narrow = omega (arith, so_far.narrow, shown-columns s.ampersand what);
        within = omega (arith, so_far.within, length-drop m.at text);
        glyphs = few_glyphs (is_glyph (shown s.ampersand what)) m.at len m.glyphs so_far.glyphs;
      }

-- by what is left of the text
pub number-item : (text rest : List ℕ) (m : Measuring) (s : Splitting) (len : ℕ) (what : What) → IsNumber text m s → rest ≡ drop m.at text
    → items rest ≡ record { bytes = take len rest; what = what } ∷ items (drop len rest)
    → 1 ≤ len → len ≤ length rest → columns what ≤ len
    → IsNumber text (measured_behind m len (shown s.ampersand what)) (item_split s m.at m.width (slice_index rest 0) len what)
number-item text rest m s len what so_far is first some inside small =
    subst (λ (r : List ℕ). IsNumber text (measured_behind m len (shown s.ampersand what)) (item_split s m.at m.width (slice_index r 0) len what)) (sym is)
    (number-more text m s len what so_far
    (subst (λ (r : List ℕ). items r ≡ record { bytes = take len r; what = what } ∷ items (drop len r)) is first)
    some (subst (λ (r : List ℕ). len ≤ length r) is inside) small)

-- all is read
pub number-all : (text : List ℕ) (m : Measuring) (s : Splitting) → IsNumber text m s → length text ≤ m.at
    → ◌≡◌ {A = Measured} (record { width = m.width; glyphs = m.glyphs; split = option_or s.ampersand (option_or s.dot s.digit); has_notes = m.has_notes })
    (number_measured (items text))
number-all text m s so_far read =
    let end : items (drop m.at text) ≡ [] = ap items (drop_all m.at text read) in
    let whole : onto so_far.before [] ≡ items text = ap (onto so_far.before) (sym end) ∙ so_far.parts in
    let printed : onto so_far.printed [] ≡ without_ampersand (items text) =
    ap (onto so_far.printed) (sym (left-nothing s.ampersand) ∙ ap (left s.ampersand) (sym end)) ∙ so_far.seen in
    let split : option_or s.ampersand (option_or s.dot s.digit) ≡ split_of (items text) =
    ap (λ (t : Splitting). option_or t.ampersand (option_or t.dot t.digit)) so_far.splits ∙ sym (split-all so_far.before) ∙ ap split_of whole in
    let texts : ◌≡◌ {A = Measured} (record { width = m.width; glyphs = m.glyphs; split = None; has_notes = m.has_notes }) (text_measured (without_ampersand (items text))) =
    ap (λ (n : Measuring). record { width = n.width; glyphs = n.glyphs; split = None; has_notes = n.has_notes }) so_far.same
    ∙ sym (text_measured-onto so_far.printed) ∙ ap text_measured printed in
    ap (λ (o : Option Split). record { width = m.width; glyphs = m.glyphs; split = o; has_notes = m.has_notes }) split
    ∙ ap (λ (t : Measured). record t { split = split_of (items text) }) texts
