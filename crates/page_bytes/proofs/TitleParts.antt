-- Titles, piece by piece.
use Rattle.std.proofs.Common.{◌≡◌, ℕ, zero, suc, ◌+◌, ◌-◌, ◌/◌, ◌<◌, ◌≤◌, max, Bool, true, false, inl, inr, List, [], ◌∷◌, ◌++◌, length, take, drop, slice_index_or, refl, sym, ap, ◌∙◌, arith, append_assoc, append-nil, ne_eqb, not, ◌&&◌, ◌||◌, if◌then◌else◌, ◌==◌, eqb-true, length-take}
use Rattle.std.proofs.lemmas.Bool.{and_right, cases_Bool}
use Rattle.std.proofs.lemmas.List.{replicate-append-replicate}
use Rattle.std.proofs.lemmas.List.Folds.{sum_by-replicate}
use Rattle.std.proofs.lemmas.List.Sums.{sum_by-append, take_while-cons}
use Rattle.roff_num.specs.Widths.{byte_width}
use Rattle.page_model.specs.Glyphs.{glyph_blank, text_width}
use Rattle.page_model.specs.Words.{is_empty}
use Rattle.page_model.specs.Columns.{spaces, trimmed}
use Rattle.page_model.specs.TitleColumns.{centre_column, right_column, title_columns}
use Rattle.page_model.specs.Titles.{page_mark, part_at, part_text, parts_placed}
use Rattle.page_bytes.specs.TitleParts.{HasNoBlank, blank_bytes_in_front, blanks_before, is_blank_byte, is_shown, shown_in_front}

-- the tail of lists that are the same
tails : (b c : ℕ) (xs ys : List ℕ) → b ∷ xs ≡ c ∷ ys → xs ≡ ys
tails b c xs ys e = ap (drop 1) e

-- a byte that stands for a blank is printed as one
blank_printed : (glyph blank : Bool) (number : List ℕ) (b : ℕ) (part : List ℕ) → (b == glyph_blank) ≡ glyph → (b == 32) ≡ blank → (glyph || blank) ≡ true
    → part_text number (b ∷ part) ≡ 32 ∷ part_text number part
blank_printed true blank number b part is_glyph is_blank either = rw (eqb-true b glyph_blank is_glyph) refl
blank_printed false true number b part is_glyph is_blank either = rw (eqb-true b 32 is_blank) refl
blank_printed false false number b part is_glyph is_blank either = let wrong : false ≡ true = either in cc

-- so are all that stand in front
pub blanks_in_front : (number : List ℕ) (n : ℕ) (part : List ℕ) → take n part ≡ blank_bytes_in_front part → n ≤ length part
    → spaces n ++ part_text number (drop n part) ≡ part_text number part
blanks_in_front number zero part front within = refl
blanks_in_front number (suc n) [] front within = absurd (omega arith)
blanks_in_front number (suc n) (b ∷ part) front within =
    elim (cases_Bool (is_blank_byte b)) [
      | inl e ↦
          let whole : blank_bytes_in_front (b ∷ part) ≡ b ∷ blank_bytes_in_front part = take_while-cons is_blank_byte b part ∙ rw e refl in
          let before : take n part ≡ blank_bytes_in_front part = tails b b _ _ (front ∙ whole) in
          ap (λ (bytes : List ℕ). 32 ∷ bytes) (blanks_in_front number n part before (omega (arith, within)))
          ∙ sym (blank_printed (b == glyph_blank) (b == 32) number b part refl refl e)
      | inr e ↦
          let none : blank_bytes_in_front (b ∷ part) ≡ [] = take_while-cons is_blank_byte b part ∙ rw e refl in
          let wrong : b ∷ take n part ≡ [] = front ∙ none in cc
    ]

-- what stands behind them is none
pub none_behind : (n b : ℕ) (part rest : List ℕ) → take n part ≡ blank_bytes_in_front part → drop n part ≡ b ∷ rest → is_blank_byte b ≡ false
none_behind zero b part rest front behind =
    elim (cases_Bool (is_blank_byte b)) [
      | inl e ↦
          let whole : blank_bytes_in_front part ≡ b ∷ blank_bytes_in_front rest =
          ap blank_bytes_in_front behind ∙ take_while-cons is_blank_byte b rest ∙ rw e refl in
          let wrong : [] ≡ b ∷ blank_bytes_in_front rest = front ∙ whole in cc
      | inr e ↦ e
    ]
none_behind (suc n) b [] rest front behind = let wrong : [] ≡ b ∷ rest = behind in cc
none_behind (suc n) b (c ∷ part) rest front behind =
    elim (cases_Bool (is_blank_byte c)) [
      | inl e ↦
          let whole : blank_bytes_in_front (c ∷ part) ≡ c ∷ blank_bytes_in_front part = take_while-cons is_blank_byte c part ∙ rw e refl in
          none_behind n b part rest (tails c c _ _ (front ∙ whole)) behind
      | inr e ↦
          let none : blank_bytes_in_front (c ∷ part) ≡ [] = take_while-cons is_blank_byte c part ∙ rw e refl in
          let wrong : c ∷ take n part ≡ [] = front ∙ none in cc
    ]

-- what the tests of a byte that is printed as itself tell
shown_tests : (glyph blank mark : Bool) → (not (glyph || blank) && not mark) ≡ true → (glyph ≡ false) × ((blank ≡ false) × (mark ≡ false))
shown_tests false false false e = (refl, (refl, refl))
shown_tests false false true e = let wrong : false ≡ true = e in cc
shown_tests false true mark e = let wrong : false ≡ true = e in cc
shown_tests true blank mark e = let wrong : false ≡ true = e in cc

-- bytes that are printed as themselves
pub shown_printed : (number : List ℕ) (n : ℕ) (part : List ℕ) → take n part ≡ shown_in_front part
    → take n part ++ part_text number (drop n part) ≡ part_text number part
shown_printed number zero part front = refl
shown_printed number (suc n) [] front = refl
shown_printed number (suc n) (b ∷ part) front =
    elim (cases_Bool (is_shown b)) [
      | inl e ↦
          let whole : shown_in_front (b ∷ part) ≡ b ∷ shown_in_front part = take_while-cons is_shown b part ∙ rw e refl in
          let tests = shown_tests (b == glyph_blank) (b == 32) (b == page_mark) e in
          let printed : part_text number (b ∷ part) ≡ b ∷ part_text number part = rw (tests.1.1, tests.0) refl in
          ap (λ (bytes : List ℕ). b ∷ bytes) (shown_printed number n part (tails b b _ _ (front ∙ whole))) ∙ sym printed
      | inr e ↦
          let none : shown_in_front (b ∷ part) ≡ [] = take_while-cons is_shown b part ∙ rw e refl in
          let wrong : b ∷ take n part ≡ [] = front ∙ none in cc
    ]

-- none of them is a blank
pub shown_no_blank : (n : ℕ) (part : List ℕ) → take n part ≡ shown_in_front part → HasNoBlank (take n part)
shown_no_blank zero part front = tt
shown_no_blank (suc n) [] front = tt
shown_no_blank (suc n) (b ∷ part) front =
    elim (cases_Bool (is_shown b)) [
      | inl e ↦
          let whole : shown_in_front (b ∷ part) ≡ b ∷ shown_in_front part = take_while-cons is_shown b part ∙ rw e refl in
          ((shown_tests (b == glyph_blank) (b == 32) (b == page_mark) e).1.0, shown_no_blank n part (tails b b _ _ (front ∙ whole)))
      | inr e ↦
          let none : shown_in_front (b ∷ part) ≡ [] = take_while-cons is_shown b part ∙ rw e refl in
          let wrong : b ∷ take n part ≡ [] = front ∙ none in cc
    ]

-- one that is neither a blank nor the mark of the page number is one of them
pub some_shown : (n b : ℕ) (part rest : List ℕ) → take n part ≡ shown_in_front part → part ≡ b ∷ rest → is_blank_byte b ≡ false
    → (b == page_mark) ≡ false → length (take n part) ≡ 0 → ⊥
some_shown n b part rest front first blank mark none =
    let shown : is_shown b ≡ true = rw (blank, mark) refl in
    let whole : shown_in_front part ≡ b ∷ shown_in_front rest = ap shown_in_front first ∙ take_while-cons is_shown b rest ∙ rw shown refl in
    let long : length (take n part) ≡ suc (length (shown_in_front rest)) = ap length (front ∙ whole) in
    absurd (omega (arith, none, long))

-- a text in which no byte is a blank ends the trailing blanks
trimmed-shown : (glyphs rest : List ℕ) → HasNoBlank glyphs → trimmed (glyphs ++ rest) ≡ glyphs ++ trimmed rest
trimmed-shown [] rest shown = refl
trimmed-shown (b ∷ glyphs) rest shown = rw (trimmed-shown glyphs rest shown.1, shown.0) refl

-- blanks with something behind them aren't empty
is_empty-spaces : (n b : ℕ) (bytes : List ℕ) → is_empty (spaces n ++ b ∷ bytes) ≡ false
is_empty-spaces zero b bytes = refl
is_empty-spaces (suc n) b bytes = refl

-- so blanks in front of it stay
trimmed-behind : (n b : ℕ) (rest : List ℕ) → (b == 32) ≡ false → trimmed (spaces n ++ b ∷ rest) ≡ spaces n ++ b ∷ trimmed rest
trimmed-behind zero b rest other = rw other refl
trimmed-behind (suc n) b rest other = rw (trimmed-behind n b rest other, is_empty-spaces n b (trimmed rest)) refl

trimmed-piece : (n : ℕ) (glyphs rest : List ℕ) → HasNoBlank glyphs → 0 < length glyphs
    → trimmed (spaces n ++ (glyphs ++ rest)) ≡ spaces n ++ (glyphs ++ trimmed rest)
trimmed-piece n [] rest shown some = absurd (omega arith)
trimmed-piece n (b ∷ glyphs) rest shown some =
    trimmed-behind n b (glyphs ++ rest) shown.0 ∙ ap (λ (bytes : List ℕ). spaces n ++ b ∷ bytes) (trimmed-shown glyphs rest shown.1)

-- a piece of the first part
pub piece_left : (n : ℕ) (glyphs old new rest : List ℕ) → spaces n ++ (glyphs ++ new) ≡ old → HasNoBlank glyphs → 0 < length glyphs
    → spaces n ++ (glyphs ++ trimmed (new ++ rest)) ≡ trimmed (old ++ rest)
piece_left n glyphs old new rest whole shown some =
    let joined : old ++ rest ≡ spaces n ++ (glyphs ++ (new ++ rest)) =
    ap (λ (bytes : List ℕ). bytes ++ rest) (sym whole) ∙ append_assoc (spaces n) (glyphs ++ new) rest
    ∙ ap (λ (bytes : List ℕ). spaces n ++ bytes) (append_assoc glyphs new rest) in
    sym (ap trimmed joined ∙ trimmed-piece n glyphs (new ++ rest) shown some)

-- a part of which blanks alone are left
pub all_blank : (n : ℕ) (glyphs old new : List ℕ) → spaces n ++ (glyphs ++ new) ≡ old → length glyphs ≡ 0 → new ≡ [] → old ≡ spaces n
all_blank n [] old new whole none ended =
    sym whole ∙ ap (λ (bytes : List ℕ). spaces n ++ bytes) ended ∙ append-nil (spaces n)
all_blank n (b ∷ glyphs) old new whole none ended = absurd (omega arith)

-- blanks in front of a part that begins with blanks
more_blanks : (n m : ℕ) (bytes : List ℕ) → spaces n ++ (spaces m ++ bytes) ≡ spaces (n + m) ++ bytes
more_blanks n m bytes =
    sym (append_assoc (spaces n) (spaces m) bytes) ∙ ap (λ (front : List ℕ). front ++ bytes) (replicate-append-replicate n m 32)

-- a piece of the part behind one of which blanks alone are left
pub piece_behind : (n m : ℕ) (glyphs first old new rest : List ℕ) → first ≡ spaces n → spaces m ++ (glyphs ++ new) ≡ old → HasNoBlank glyphs
    → 0 < length glyphs → spaces (n + m) ++ (glyphs ++ trimmed (new ++ rest)) ≡ trimmed (first ++ (old ++ rest))
piece_behind n m glyphs first old new rest blank whole shown some =
    let front : spaces (n + m) ++ (glyphs ++ new) ≡ first ++ old =
    sym (more_blanks n m (glyphs ++ new)) ∙ ap (λ (bytes : List ℕ). spaces n ++ bytes) whole ∙ ap (λ (bytes : List ℕ). bytes ++ old) (sym blank) in
    piece_left (n + m) glyphs (first ++ old) new rest front shown some ∙ ap trimmed (append_assoc first old rest)

-- a list with something at its end isn't empty
is_empty-push : (bytes : List ℕ) (b : ℕ) → is_empty (bytes ++ b ∷ []) ≡ false
is_empty-push [] b = refl
is_empty-push (c ∷ bytes) b = refl

-- a blank at the end is cut; a text that ends in another byte stays as it is
pub trimmed_push : (bytes : List ℕ) (b : ℕ) → trimmed (bytes ++ b ∷ []) ≡ (if b == 32 then trimmed bytes else bytes ++ b ∷ [])
trimmed_push [] b = elim (cases_Bool (b == 32)) [ inl e ↦ rw e refl | inr e ↦ rw e refl ]
trimmed_push (c ∷ bytes) b =
    elim (cases_Bool (b == 32)) [
      | inl e ↦ rw (trimmed_push bytes b, e) refl
      | inr e ↦ rw (trimmed_push bytes b, e, is_empty-push bytes b, and_right (c == 32) false refl) refl
    ]

-- nothing is left of blanks alone
trimmed-blank : (n : ℕ) → trimmed (spaces n) ≡ []
trimmed-blank zero = refl
trimmed-blank (suc n) = rw (trimmed-blank n) refl

-- nor of parts of which blanks alone are left
pub none_left : (n m k : ℕ) (first second third : List ℕ) → first ≡ spaces n → second ≡ spaces m → third ≡ spaces k
    → trimmed (first ++ (second ++ third)) ≡ []
none_left n m k first second third is_first is_second is_third =
    let joined : first ++ (second ++ third) ≡ spaces (n + (m + k)) =
    rw (is_first, is_second, is_third, replicate-append-replicate, replicate-append-replicate) refl in
    ap trimmed joined ∙ trimmed-blank (n + (m + k))

-- a part's text is empty where the part is
empty_text : (number part : List ℕ) → 0 < length number → is_empty (part_text number part) ≡ is_empty part
empty_text number [] some = refl
empty_text [] (b ∷ part) some = absurd (omega arith)
empty_text (c ∷ number) (b ∷ part) some =
    elim (cases_Bool (b == page_mark)) [ inl e ↦ rw e refl | inr e ↦ rw e refl ]

-- blanks in front of a part, told whether it is empty
pub part_placed : (number part : List ℕ) (n blanks : ℕ) → 0 < length number → n ≡ (if length part == 0 then 0 else blanks)
    → spaces n ++ part_text number part ≡ blanks_before blanks (part_text number part)
part_placed number [] n blanks some is = rw is refl
part_placed number (b ∷ part) n blanks some is =
    let full : is_empty (part_text number (b ∷ part)) ≡ false = empty_text number (b ∷ part) some in
    let long : n ≡ blanks = is ∙ rw (ne_eqb (length (b ∷ part)) 0 (λ e. absurd (omega arith))) refl in
    rw (long, full) refl

-- blanks are as wide as they are many
text_width-spaces : (n : ℕ) → text_width (spaces n) ≡ n
text_width-spaces n = omega (arith, sum_by-replicate byte_width n 32)

-- where the left part and the centre end
width-shown : (centre_at : ℕ) (left centre : List ℕ) → text_width left ≤ centre_at
    → text_width (left ++ part_at centre_at (text_width left) centre) ≡ (if is_empty centre then text_width left else centre_at + text_width centre)
width-shown centre_at left [] few = ap text_width (append-nil left)
width-shown centre_at left (b ∷ centre) few =
    let n : ℕ = centre_at - text_width left in
    let first = sum_by-append byte_width left (spaces n ++ b ∷ centre) in
    let second = sum_by-append byte_width (spaces n) (b ∷ centre) in
    omega (arith, first, second, text_width-spaces n, few)

-- blanks that are owed, and those that a part begins with
pub run_taken : (number : List ℕ) (owed from n : ℕ) (part blank behind : List ℕ) → from ≡ owed → blank ≡ take n part → behind ≡ drop n part
    → n ≤ length part → take n part ≡ blank_bytes_in_front part
    → spaces (from + length blank) ++ part_text number behind ≡ spaces owed ++ part_text number part
run_taken number owed from n part blank behind is_owed is_blank is_behind within front =
    let long : length blank ≡ n = omega (arith, ap length is_blank, length-take n part, within) in
    rw (is_owed, long, is_behind)
    (sym (more_blanks owed n (part_text number (drop n part))) ∙ ap (λ (bytes : List ℕ). spaces owed ++ bytes) (blanks_in_front number n part front within))

-- the mark of the page number in front
pub mark_printed : (number : List ℕ) (b : ℕ) (behind rest : List ℕ) → behind ≡ b ∷ rest → b ≡ page_mark
    → number ++ part_text number rest ≡ part_text number behind
mark_printed number b behind rest first is_mark = sym (ap (part_text number) first ∙ ap (λ c. part_text number (c ∷ rest)) is_mark)

-- a piece of the last part, behind two of which blanks alone are left
pub piece_last : (n m k : ℕ) (glyphs first second old new : List ℕ) → first ≡ spaces n → second ≡ spaces m → spaces k ++ (glyphs ++ new) ≡ old
    → HasNoBlank glyphs → 0 < length glyphs → spaces (n + m + k) ++ (glyphs ++ trimmed new) ≡ trimmed (first ++ (second ++ old))
piece_last n m k glyphs first second old new is_first is_second whole shown some =
    let split : first ++ (second ++ old) ≡ spaces n ++ (spaces m ++ (spaces k ++ (glyphs ++ new))) = rw (is_first, is_second, ← whole) refl in
    let joined : first ++ (second ++ old) ≡ spaces (n + m + k) ++ (glyphs ++ new) =
    split ∙ more_blanks n m (spaces k ++ (glyphs ++ new)) ∙ more_blanks (n + m) k (glyphs ++ new) in
    sym (ap trimmed joined ∙ trimmed-piece (n + m + k) glyphs new shown some)

-- the greater of two numbers is no less than the second
at_least : (m n : ℕ) → n ≤ max m n
at_least m n = omega arith

-- a title's parts behind columns, each in its place
pub title_assembled : (columns length end first second : ℕ) (left centre right : List ℕ)
    → let centre_at = centre_column length (text_width centre) (text_width left) in
    first ≡ centre_at - text_width left → second ≡ right_column length (text_width right) (centre_at + text_width centre) - end
    → end ≡ (if is_empty centre then text_width left else centre_at + text_width centre)
    → (spaces columns ++ left) ++ (blanks_before first centre ++ blanks_before second right) ≡ spaces columns ++ parts_placed length left centre right
title_assembled columns length end first second left centre right is_first is_second is_end =
    let centre_at : ℕ = centre_column length (text_width centre) (text_width left) in
    let right_at : ℕ = right_column length (text_width right) (centre_at + text_width centre) in
    let shown : List ℕ = left ++ part_at centre_at (text_width left) centre in
    let few : text_width left ≤ centre_at = at_least ((length - text_width centre) / 2) (text_width left) in
    let same : second ≡ right_at - text_width shown =
    is_second ∙ ap (λ n. right_at - n) (is_end ∙ sym (width-shown centre_at left centre few)) in
    ap (λ n. (spaces columns ++ left) ++ (blanks_before n centre ++ blanks_before second right)) is_first
    ∙ ap (λ n. (spaces columns ++ left) ++ (part_at centre_at (text_width left) centre ++ blanks_before n right)) same
    ∙ append_assoc (spaces columns) left (part_at centre_at (text_width left) centre ++ part_at right_at (text_width shown) right)
    ∙ ap (λ (bytes : List ℕ). spaces columns ++ bytes)
    (sym (append_assoc left (part_at centre_at (text_width left) centre) (part_at right_at (text_width shown) right)))

-- a part's text is empty where the part has no bytes
pub is_empty-part : (number part : List ℕ) → 0 < length number → is_empty (part_text number part) ≡ (length part == 0)
is_empty-part number [] some = refl
is_empty-part number (b ∷ part) some =
    empty_text number (b ∷ part) some ∙ sym (ne_eqb (length (b ∷ part)) 0 (λ e. absurd (omega arith)))

-- where the centre and the right part are placed
pub parts_at : (length l c r : ℕ) (columns left centre right : List ℕ) → columns ≡ title_columns length l c r → l ≡ text_width left
    → c ≡ text_width centre → r ≡ text_width right → let centre_at = centre_column length (text_width centre) (text_width left) in
    (slice_index_or columns 1 0 ≡ centre_at)
    × (slice_index_or columns 2 0 ≡ right_column length (text_width right) (centre_at + text_width centre))
parts_at length l c r columns left centre right placed is_l is_c is_r = rw (placed, is_l, is_c, is_r) (refl, refl)

-- how wide a title is
shown_within : (none : Bool) (left centre end shown : ℕ) → shown ≡ (if none then left else end) → left ≤ centre → centre ≤ end → shown ≤ end
shown_within true left centre end shown is few some = omega arith
shown_within false left centre end shown is few some = omega arith

pub width-placed : (length : ℕ) (left centre right : List ℕ) → let centre_at = centre_column length (text_width centre) (text_width left) in
    text_width (parts_placed length left centre right)
    ≡ (if is_empty right then (if is_empty centre then text_width left else centre_at + text_width centre)
    else right_column length (text_width right) (centre_at + text_width centre) + text_width right)
width-placed length left centre right =
    let centre_at : ℕ = centre_column length (text_width centre) (text_width left) in
    let right_at : ℕ = right_column length (text_width right) (centre_at + text_width centre) in
    let shown : List ℕ = left ++ part_at centre_at (text_width left) centre in
    let few : text_width left ≤ centre_at = at_least ((length - text_width centre) / 2) (text_width left) in
    let wide = width-shown centre_at left centre few in
    let within : text_width shown ≤ centre_at + text_width centre =
    shown_within (is_empty centre) (text_width left) centre_at (centre_at + text_width centre) (text_width shown) wide few (omega arith) in
    let before : text_width shown ≤ right_at = omega (arith, within, at_least (length - text_width right) (centre_at + text_width centre)) in
    width-shown right_at shown right before ∙ ap (λ n. if is_empty right then n else right_at + text_width right) wide
