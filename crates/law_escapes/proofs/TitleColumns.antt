-- Parts of printable bytes stand in a title's text at the columns where they belong.
use Rattle.std.proofs.Common.{◌≡◌, ℕ, ◌+◌, ◌-◌, ◌≤◌, Bool, true, false, List, [], ◌∷◌, ◌++◌, ◌/◌, length, map, take, drop, Option, Some, None, refl, ap, sym, subst, ◌∙◌, arith, append_assoc, All, ◌&&◌, nat_le, nat_lt, if◌then◌else◌, ◌==◌, eqb-true, leb-true, ne_eqb, append-nil, length-append, length-drop}
use Rattle.std.proofs.lemmas.List.{drop_all, drop-append-le, length-replicate, take-append-le}
use Rattle.std.proofs.lemmas.List.Elements.{All-append, All-cons, All-drop, All-head, All-nil, All-replicate, All-tail, All-take}
use Rattle.std.proofs.lemmas.List.Sums.{sum_by-cons}
use Rattle.std.proofs.Math.Nat.{le-max_right}
use Rattle.std.proofs.Math.Seq.{drop-append-add, drop-append_seam, take-append_seam, take-length}
use Rattle.page_model.specs.Columns.{spaces}
use Rattle.page_model.specs.Glyphs.{glyph_blank, text_width}
use Rattle.page_model.specs.TitleColumns.{centre_column, right_column as column_of_right}
use Rattle.page_model.specs.Words.{is_empty}
use Rattle.roff_num.specs.Widths.{byte_width}
use Rattle.page_model.specs.Titles.{page_mark, part_at, part_text, parts_placed}
use Rattle.input_source.specs.Bytes.{blank}
use Rattle.law_escapes.specs.TitleLaws.{HasBytesAt, IsBlank, PartsStand, TitleOnLine, is_printable, middle_column, right_title_column, with_number}
use Rattle.run_model.specs.Reading.Titles.{is_page_character}

-- a printable byte is neither below the blank nor above the tilde
pub printable-bounds : (b : ℕ) → is_printable b ≡ true → (32 ≤ b) × (b ≤ 126)
printable-bounds b prints = by_bounds (nat_le 32 b) (nat_le b 126) refl refl prints
  where
    by_bounds : (low high : Bool) → nat_le 32 b ≡ low → nat_le b 126 ≡ high → (low && high) ≡ true → (32 ≤ b) × (b ≤ 126)
    by_bounds true true above below prints = (leb-true 32 b above, leb-true b 126 below)
    by_bounds true false above below prints = absurd (cc)
    by_bounds false high above below prints = absurd (cc)

-- a byte that isn't another one
pub not-byte : (b c : ℕ) → (b ≡ c → ⊥) → (b == c) ≡ false
not-byte b c differs = ne_eqb b c differs

-- bytes that are printed in one column each
abbrev pub ArePrintable : List ℕ → Type 0
ArePrintable bytes = All (λ b. is_printable b ≡ true) bytes

-- a byte of a part as it is read: the page number is marked, and a blank is one of a glyph
abbrev pub byte_kept : Option ℕ → ℕ → ℕ
byte_kept page b = if is_page_character page b then page_mark else if b == blank then glyph_blank else b

-- as it is printed it is the number, or itself
byte-printed : (b : ℕ) (number rest : List ℕ) (is_page is_blank : Bool) → (b == blank) ≡ is_blank → is_printable b ≡ true
    → part_text number ((if is_page then page_mark else if is_blank then glyph_blank else b) ∷ rest)
    ≡ (if is_page then number ++ part_text number rest else b ∷ part_text number rest)
byte-printed b number rest true is_blank is prints = refl
byte-printed b number rest false true is prints = ap (λ (c : ℕ). c ∷ part_text number rest) (sym (eqb-true b blank is))
byte-printed b number rest false false is prints =
    let bounds = printable-bounds b prints in
    ap (λ (c : Bool). if c then number ++ part_text number rest else (if b == glyph_blank then 32 else b) ∷ part_text number rest)
    (not-byte b page_mark (λ same. omega (arith, bounds.0, same)))
    ∙ ap (λ (c : Bool). (if c then 32 else b) ∷ part_text number rest) (not-byte b glyph_blank (λ same. omega (arith, bounds.0, same)))

pub part-printed : (page : Option ℕ) (number part : List ℕ) → ArePrintable part → part_text number (map (byte_kept page) part) ≡ with_number page number part
part-printed None number [] prints = refl
part-printed None number (b ∷ part) prints =
    byte-printed b number (map (byte_kept None) part) false (b == blank) refl (All-head (λ c. is_printable c ≡ true) b part prints)
    ∙ ap (λ (rest : List ℕ). b ∷ rest) (part-printed None number part (All-tail (λ c. is_printable c ≡ true) b part prints))
part-printed (Some c) number [] prints = refl
part-printed (Some c) number (b ∷ part) prints =
    byte-printed b number (map (byte_kept (Some c)) part) (b == c) (b == blank) refl (All-head (λ c. is_printable c ≡ true) b part prints)
    ∙ ap (λ (rest : List ℕ). if b == c then number ++ rest else b ∷ rest)
    (part-printed (Some c) number part (All-tail (λ c. is_printable c ≡ true) b part prints))

-- with printable numbers a part is printable
printable-byte : (number rest : List ℕ) (b : ℕ) (is_page : Bool) → ArePrintable number → is_printable b ≡ true → ArePrintable rest
    → ArePrintable (if is_page then number ++ rest else b ∷ rest)
printable-byte number rest b true number_is is rest_is = All-append (λ c. is_printable c ≡ true) number rest number_is rest_is
printable-byte number rest b false number_is is rest_is = All-cons (λ c. is_printable c ≡ true) b rest is rest_is

pub printable-numbered : (page : Option ℕ) (number part : List ℕ) → ArePrintable number → ArePrintable part → ArePrintable (with_number page number part)
printable-numbered None number part number_is prints = prints
printable-numbered (Some c) number [] number_is prints = prints
printable-numbered (Some c) number (b ∷ part) number_is prints =
    printable-byte number (with_number (Some c) number part) b (b == c) number_is (All-head (λ c. is_printable c ≡ true) b part prints)
    (printable-numbered (Some c) number part number_is (All-tail (λ c. is_printable c ≡ true) b part prints))

-- its width is its length
width-byte : (b : ℕ) → is_printable b ≡ true → byte_width b ≡ 1
width-byte b prints =
    by_bound (nat_le 128 b) refl
  where
    by_bound : (high : Bool) → nat_le 128 b ≡ high → let width : ℕ = if high && nat_lt b 192 then 0 else 1 in width ≡ 1
    by_bound true is = absurd (omega (arith, leb-true 128 b is, (printable-bounds b prints).1))
    by_bound false is = refl

width-printed : (bytes : List ℕ) → ArePrintable bytes → text_width bytes ≡ length bytes
width-printed [] prints = refl
width-printed (b ∷ bytes) prints =
    let one : byte_width b ≡ 1 = width-byte b (All-head (λ c. is_printable c ≡ true) b bytes prints) in
    let others : text_width bytes ≡ length bytes = width-printed bytes (All-tail (λ c. is_printable c ≡ true) b bytes prints) in
    omega (arith, sum_by-cons byte_width b bytes, one, others)

-- a part with blanks in front is printed so too
printable-part : (column end : ℕ) (part : List ℕ) → ArePrintable part → ArePrintable (part_at column end part)
printable-part column end [] prints = All-nil (λ b. is_printable b ≡ true)
printable-part column end (b ∷ part) prints =
    All-append (λ b. is_printable b ≡ true) (spaces (column - end)) (b ∷ part) (All-replicate (λ b. is_printable b ≡ true) (column - end) 32 refl) prints

-- three parts at these columns
abbrev pub at_columns : ℕ → ℕ → List ℕ → List ℕ → List ℕ → List ℕ
at_columns middle_at right_at left middle right =
    let shown : List ℕ = left ++ part_at middle_at (length left) middle in shown ++ part_at right_at (length shown) right

-- so a title's text is, where each byte is a column
placed-columns : (columns : ℕ) (t : TitleOnLine) → ArePrintable t.left → ArePrintable t.middle → ArePrintable t.right
    → parts_placed columns t.left t.middle t.right ≡ at_columns (middle_column columns t) (right_title_column columns t) t.left t.middle t.right
placed-columns columns t left_is middle_is right_is =
    let of : ℕ → ℕ → ℕ → (List ℕ → ℕ) → List ℕ = λ wl wm wr width.
    let middle_at : ℕ = centre_column columns wm wl in
    let right_at : ℕ = column_of_right columns wr (middle_at + wm) in
    let shown : List ℕ = t.left ++ part_at middle_at wl t.middle in shown ++ part_at right_at (width shown) t.right in
    let shown : List ℕ = t.left ++ part_at (middle_column columns t) (length t.left) t.middle in
    ap (λ (w : ℕ). of w (text_width t.middle) (text_width t.right) text_width) (width-printed t.left left_is)
    ∙ ap (λ (w : ℕ). of (length t.left) w (text_width t.right) text_width) (width-printed t.middle middle_is)
    ∙ ap (λ (w : ℕ). of (length t.left) (length t.middle) w text_width) (width-printed t.right right_is)
    ∙ ap (λ (w : ℕ). shown ++ part_at (right_title_column columns t) w t.right)
    (width-printed shown
    (All-append (λ b. is_printable b ≡ true) t.left (part_at (middle_column columns t) (length t.left) t.middle) left_is
    (printable-part (middle_column columns t) (length t.left) t.middle middle_is)))

-- what stands behind so many bytes stands at that column
stands-behind : (column : ℕ) (front part behind : List ℕ) → length front ≡ column → HasBytesAt column part (front ++ (part ++ behind))
stands-behind column front part behind is =
    subst (λ (at : ℕ). HasBytesAt at part (front ++ (part ++ behind))) is
    (ap (take (length part)) (drop-append_seam front (part ++ behind)) ∙ take-append_seam part behind)

-- and so it is behind blanks up to there
stands-behind_blanks : (column : ℕ) (front part behind : List ℕ) → length front ≤ column
    → HasBytesAt column part (front ++ (spaces (column - length front) ++ (part ++ behind)))
stands-behind_blanks column front part behind few =
    let blanks : List ℕ = spaces (column - length front) in
    subst (HasBytesAt column part) (append_assoc front blanks (part ++ behind))
    (stands-behind column (front ++ blanks) part behind
    (omega (arith, few, length-append front blanks, length-replicate {A = ℕ} (column - length front) 32)))

-- there are blanks between a front and what is behind them
blank-between : (from to count : ℕ) (front behind : List ℕ) → length front ≤ from → from ≤ length front + count → to ≤ length front + count
    → IsBlank from to (front ++ (spaces count ++ behind))
blank-between from to count front behind begins goes_on ends =
    let skipped : ℕ = from - length front in
    let blanks : List ℕ = drop skipped (spaces count) in
    let text : List ℕ = front ++ (spaces count ++ behind) in
    let few : length blanks ≡ count - skipped = length-drop skipped (spaces count) ∙ ap (λ (n : ℕ). n - skipped) (length-replicate {A = ℕ} count 32) in
    let sum : from ≡ length front + skipped = omega (arith, begins) in
    let is : take (to - from) (drop from text) ≡ take (to - from) blanks =
    ap (λ (n : ℕ). take (to - from) (drop n text)) sum
    ∙ ap (take (to - from))
    (drop-append-add front (spaces count ++ behind) skipped
    ∙ drop-append-le skipped (spaces count) behind (omega (arith, goes_on, length-replicate {A = ℕ} count 32)))
    ∙ take-append-le (to - from) blanks behind (omega (arith, few, ends, begins)) in
    subst (All (λ b. b ≡ blank)) (sym is)
    (All-take (λ b. b ≡ blank) (to - from) blanks (All-drop (λ b. b ≡ blank) skipped (spaces count) (All-replicate (λ b. b ≡ blank) count 32 refl)))

-- beyond a text there is nothing
blank-beyond : (from to : ℕ) (text : List ℕ) → length text ≤ from → IsBlank from to text
blank-beyond from to text ends =
    subst (λ (behind : List ℕ). All (λ b. b ≡ blank) (take (to - from) behind)) (sym (drop_all from text ends))
    (All-take (λ b. b ≡ blank) (to - from) [] (All-nil (λ b. b ≡ blank)))

-- what stands so where the middle and the right part have these columns
record Stand (middle_at right_at : ℕ) (left middle right text : List ℕ) : Type 0 where
  at_left : HasBytesAt 0 left text
  at_middle : HasBytesAt middle_at middle text
  at_right : HasBytesAt right_at right text
  before_middle : IsBlank (length left) middle_at text
  before_right : IsBlank (middle_at + length middle) right_at text
  ends :
      length text
      ≡ (if is_empty right then (if is_empty middle then length left else middle_at + length middle) else right_at + length right)

-- a part in the middle, and something behind it
middle-first : (middle_at : ℕ) (left middle behind : List ℕ)
    → (left ++ (spaces (middle_at - length left) ++ middle)) ++ behind ≡ left ++ (spaces (middle_at - length left) ++ (middle ++ behind))
middle-first middle_at left middle behind =
    let blanks : List ℕ = spaces (middle_at - length left) in
    append_assoc left (blanks ++ middle) behind ∙ ap (λ (rest : List ℕ). left ++ rest) (append_assoc blanks middle behind)

-- how long a text is that ends with a part at a column
shown-length : (middle_at : ℕ) (left middle : List ℕ) → length left ≤ middle_at
    → length (left ++ (spaces (middle_at - length left) ++ middle)) ≡ middle_at + length middle
shown-length middle_at left middle few =
    let blanks : List ℕ = spaces (middle_at - length left) in
    omega (arith, few, length-append left (blanks ++ middle), length-append blanks middle, length-replicate {A = ℕ} (middle_at - length left) 32)

-- a part that ends a text
stands-last : (column : ℕ) (front part : List ℕ) → length front ≤ column → HasBytesAt column part (front ++ (spaces (column - length front) ++ part))
stands-last column front part few =
    subst (λ (end : List ℕ). HasBytesAt column part (front ++ (spaces (column - length front) ++ end))) (append-nil part)
    (stands-behind_blanks column front part [] few)

stand : (middle_at right_at : ℕ) (left middle right : List ℕ) → length left ≤ middle_at → middle_at + length middle ≤ right_at
    → Stand middle_at right_at left middle right (at_columns middle_at right_at left middle right)
stand middle_at right_at left [] [] few behind =
    let text : List ℕ = (left ++ []) ++ [] in
    let is : text ≡ left = append-nil (left ++ []) ∙ append-nil left in
    let size : length text ≡ length left = ap length is in
    record {
      at_left = subst (HasBytesAt 0 left) (sym is) (take-length left);
      at_middle = refl;
      at_right = refl;
      before_middle = blank-beyond (length left) middle_at text (omega (arith, size));
      before_right = blank-beyond (middle_at + 0) right_at text (omega (arith, size, few));
      ends = size;
    }
stand middle_at right_at left [] (b ∷ right) few behind =
    let last : List ℕ = b ∷ right in
    let text : List ℕ = left ++ (spaces (right_at - length left) ++ last) in
    let is : (left ++ []) ++ (spaces (right_at - length (left ++ [])) ++ last) ≡ text =
    ap (λ (shown : List ℕ). shown ++ (spaces (right_at - length shown) ++ last)) (append-nil left) in
    subst (Stand middle_at right_at left [] last) (sym is)
    (record {
      at_left = stands-behind 0 [] left (spaces (right_at - length left) ++ last) refl;
      at_middle = refl;
      at_right = stands-last right_at left last (omega (arith, few, behind));
      before_middle = blank-between (length left) middle_at (right_at - length left) left last (omega arith) (omega arith) (omega (arith, few, behind));
      before_right = blank-between (middle_at + 0) right_at (right_at - length left) left last (omega (arith, few)) (omega (arith, few, behind)) (omega (arith, few, behind));
      ends = shown-length right_at left last (omega (arith, few, behind));
    })
stand middle_at right_at left (b ∷ middle) [] few behind =
    let mid : List ℕ = b ∷ middle in
    let blanks : List ℕ = spaces (middle_at - length left) in
    let shown : List ℕ = left ++ (blanks ++ mid) in
    let size : length (shown ++ []) ≡ middle_at + length mid = ap length (append-nil shown) ∙ shown-length middle_at left mid few in
    let first : shown ++ [] ≡ left ++ (blanks ++ (mid ++ [])) = middle-first middle_at left mid [] in
    record {
      at_left = subst (HasBytesAt 0 left) (sym first) (stands-behind 0 [] left (blanks ++ (mid ++ [])) refl);
      at_middle = subst (HasBytesAt middle_at mid) (sym first) (stands-behind_blanks middle_at left mid [] few);
      at_right = refl;
      before_middle =
          subst (IsBlank (length left) middle_at) (sym first)
          (blank-between (length left) middle_at (middle_at - length left) left (mid ++ []) (omega arith) (omega arith) (omega (arith, few)));
      before_right = blank-beyond (middle_at + length mid) right_at (shown ++ []) (omega (arith, size));
      ends = size;
    }
stand middle_at right_at left (b ∷ middle) (c ∷ right) few behind =
    let mid : List ℕ = b ∷ middle in
    let last : List ℕ = c ∷ right in
    let blanks : List ℕ = spaces (middle_at - length left) in
    let shown : List ℕ = left ++ (blanks ++ mid) in
    let size : length shown ≡ middle_at + length mid = shown-length middle_at left mid few in
    let others : List ℕ = spaces (right_at - length shown) ++ last in
    let first : shown ++ others ≡ left ++ (blanks ++ (mid ++ others)) = middle-first middle_at left mid others in
    record {
      at_left = subst (HasBytesAt 0 left) (sym first) (stands-behind 0 [] left (blanks ++ (mid ++ others)) refl);
      at_middle = subst (HasBytesAt middle_at mid) (sym first) (stands-behind_blanks middle_at left mid others few);
      at_right = stands-last right_at shown last (omega (arith, size, behind));
      before_middle =
          subst (IsBlank (length left) middle_at) (sym first)
          (blank-between (length left) middle_at (middle_at - length left) left (mid ++ others) (omega arith) (omega arith) (omega (arith, few)));
      before_right =
          blank-between (middle_at + length mid) right_at (right_at - length shown) shown last (omega (arith, size)) (omega (arith, size, behind))
          (omega (arith, size, behind));
      ends = shown-length right_at shown last (omega (arith, size, behind));
    }

-- so the parts of a title stand where they belong
pub stands-placed : (columns : ℕ) (t : TitleOnLine) → ArePrintable t.left → ArePrintable t.middle → ArePrintable t.right
    → PartsStand columns t (parts_placed columns t.left t.middle t.right)
stands-placed columns t left_is middle_is right_is =
    let middle_at : ℕ = middle_column columns t in
    let right_at : ℕ = right_title_column columns t in
    let text : List ℕ = at_columns middle_at right_at t.left t.middle t.right in
    let s : Stand middle_at right_at t.left t.middle t.right text =
    stand middle_at right_at t.left t.middle t.right (le-max_right ((columns - length t.middle) / 2) (length t.left))
    (le-max_right (columns - length t.right) (middle_at + length t.middle)) in
    subst (PartsStand columns t) (sym (placed-columns columns t left_is middle_is right_is))
    (record {
      left = s.at_left;
      middle = s.at_middle;
      right = s.at_right;
      before_middle = s.before_middle;
      before_right = s.before_right;
      ends = s.ends;
    })
