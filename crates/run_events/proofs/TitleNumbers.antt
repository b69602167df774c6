-- The page's number as a title prints it: it has a byte or more, and none is a blank; and how wide a part may be with it.
use Rattle.std.proofs.Common.{◌≡◌, ℕ, zero, suc, ◌+◌, ◌-◌, ◌*◌, ◌<◌, ◌≤◌, ◌^◌, Bool, true, false, ◌&&◌, List, [], ◌∷◌, ◌++◌, length, replicate, refl, w32, FitsSigned, arith, length-append, ℤ, pos, negsuc, codes, nat_le, min, ◌/◌, ◌%◌, ◌==◌, if◌then◌else◌}
use Rattle.std.specs.List.{AllByRecursion}
use Rattle.std.specs.Char.{to_ascii_uppercase}
use Rattle.std.specs.Fmt.{decimal}
use Rattle.std.specs.Str.{str_to_ascii_uppercase}
use Rattle.std.specs.Str.Parse.{AllDigits}
use Rattle.std.proofs.lemmas.Bool.{and_parts}
use Rattle.std.proofs.lemmas.Bool.Decides.{nat_tests}
use Rattle.std.proofs.lemmas.Fmt.{decimal_is_IsNumeral}
use Rattle.std.proofs.lemmas.List.{length-map}
use Rattle.std.proofs.lemmas.Str.Parse.{digit_from_value}
use Rattle.roff_num.specs.Alphabetic.{IsOverLetters, place, word}
use Rattle.roff_num.specs.RegisterText.{alphabetic_text, decimal_field, register_text, roman_text, size_text}
use Rattle.roff_num.specs.Roman.{digit_of, hundreds, ones, roman, roman_value, tens, thousands}
use Rattle.roff_num.specs.declared.format.Format.{Format}
use Rattle.roff_num.specs.declared.format.Format.TheVariants.{Decimal, RomanLower, RomanUpper, AlphaLower, AlphaUpper}
use Rattle.roff_num.proofs.Fields.{AllDigits-decimal_field}
use Rattle.roff_num.proofs.Listing.{IsOverLetters-word, place-word}
use Rattle.roff_num.proofs.RomanValues.{roman_value-roman}
use Rattle.page_model.specs.Glyphs.{glyph_blank, text_width}
use Rattle.roff_lines.proofs.Widths.{text_width_le}
use Rattle.page_bytes.specs.TitleParts.{HasNoBlank}
use Rattle.page_model.specs.Titles.{page_mark, part_text}

-- bytes above the blank
abbrev Shown : List ℕ → Type 0
Shown bytes = AllByRecursion (λ b. 32 < b) bytes

no_blank : (bytes : List ℕ) → Shown bytes → HasNoBlank bytes
no_blank [] shown = tt
no_blank (b ∷ bytes) shown = let above : 32 < b = shown.0 in (grind (arith, nat_tests), no_blank bytes shown.1)

shown-append : (xs ys : List ℕ) → Shown xs → Shown ys → Shown (xs ++ ys)
shown-append [] ys first second = second
shown-append (b ∷ xs) ys first second = (first.0, shown-append xs ys first.1 second)

-- digits
shown-digits : (digits : List ℕ) → AllDigits 10 digits → Shown digits
shown-digits [] all = tt
shown-digits (c ∷ digits) all = (omega (arith, (digit_from_value c all.0).0), shown-digits digits all.1)

some-decimal : (n : ℕ) → n < 2 ^ 64 → 0 < length (decimal n)
some-decimal n small = ((decimal_is_IsNumeral n small).0).0

-- Roman numbers
shown-digit : (table : List (List ℕ)) (digit : ℕ) → AllByRecursion Shown table → Shown (digit_of table digit)
shown-digit [] digit all = tt
shown-digit (text ∷ table) zero all = all.0
shown-digit (text ∷ table) (suc digit) all = shown-digit table digit all.1

shown-roman : (n : ℕ) → Shown (roman n)
unfolding roman
shown-roman n =
    let m : List ℕ = digit_of thousands (n / 1000) in
    let c : List ℕ = digit_of hundreds (n / 100 % 10) in
    let x : List ℕ = digit_of tens (n / 10 % 10) in
    let i : List ℕ = digit_of ones (n % 10) in
    shown-append (m ++ c ++ x) i
    (shown-append (m ++ c) x (shown-append m c (shown-digit thousands (n / 1000) (search (arith))) (shown-digit hundreds (n / 100 % 10) (search (arith))))
    (shown-digit tens (n / 10 % 10) (search (arith))))
    (shown-digit ones (n % 10) (search (arith)))

some-counted : (text : List ℕ) (n : ℕ) → roman_value text ≡ n → 0 < n → 0 < length text
some-counted [] n is more = absurd (omega (arith, is, more))
some-counted (c ∷ text) n is more = omega arith

shown-roman_text : (n : ℕ) → n < 2 ^ 64 → (is_roman : Bool) → Shown (if is_roman then roman n else decimal n)
shown-roman_text n small true = shown-roman n
shown-roman_text n small false = shown-digits (decimal n) ((decimal_is_IsNumeral n small).0).1

some-roman_text : (n : ℕ) → n < 2 ^ 64 → (is_roman : Bool) → nat_le 1 n && nat_le n 3999 ≡ is_roman → 0 < length (if is_roman then roman n else decimal n)
some-roman_text n small true is =
    let (least, most) = and_parts (nat_le 1 n) (nat_le n 3999) is in
    some-counted (roman n) n (roman_value-roman n (grind (arith, nat_tests))) (grind (arith, nat_tests))
some-roman_text n small false is = some-decimal n small

-- words
shown-word : (text : List ℕ) → IsOverLetters text → Shown text
shown-word [] all = tt
shown-word (c ∷ text) all = (omega (arith, all.0.0), shown-word text all.1)

some-placed : (text : List ℕ) (n : ℕ) → place text ≡ n → 0 < n → 0 < length text
unfolding place
some-placed [] n is more = absurd (omega (arith, is, more))
some-placed (c ∷ text) n is more = omega arith

shown-alphabetic : (n : ℕ) (is_none : Bool) → Shown (if is_none then codes "0" else word n)
shown-alphabetic n true = (omega arith, tt)
shown-alphabetic n false = shown-word (word n) (IsOverLetters-word n)

some-alphabetic : (n : ℕ) (is_none : Bool) → (n == 0) ≡ is_none → 0 < length (if is_none then codes "0" else word n)
some-alphabetic n true is = omega arith
some-alphabetic n false is = some-placed (word n) n (place-word n) (grind (arith, nat_tests))

-- capitals
shown-upper : (text : List ℕ) → Shown text → Shown (str_to_ascii_uppercase text)
shown-upper [] shown = tt
shown-upper (c ∷ text) shown = let above : 32 < c = shown.0 in (grind (arith, nat_tests), shown-upper text shown.1)

some-upper : (text : List ℕ) → 0 < length text → 0 < length (str_to_ascii_uppercase text)
some-upper text some = omega (arith, some, length-map text to_ascii_uppercase)

some-field : (width n : ℕ) → n < 2 ^ 64 → 0 < length (decimal_field width n)
some-field width n small = omega (arith, some-decimal n small, length-append (replicate (width - length (decimal n)) 48) (decimal n))

-- in each format
shown-size : (format : Format) (n : ℕ) → n < 2 ^ 64 → Shown (size_text format n)
shown-size (Decimal digits) n small = shown-digits (decimal_field (min digits 32) n) (AllDigits-decimal_field (min digits 32) n small)
shown-size RomanLower n small = shown-roman_text n small (nat_le 1 n && nat_le n 3999)
shown-size RomanUpper n small = shown-upper (roman_text n) (shown-roman_text n small (nat_le 1 n && nat_le n 3999))
shown-size AlphaLower n small = shown-alphabetic n (n == 0)
shown-size AlphaUpper n small = shown-upper (alphabetic_text n) (shown-alphabetic n (n == 0))

some-size : (format : Format) (n : ℕ) → n < 2 ^ 64 → 0 < length (size_text format n)
some-size (Decimal digits) n small = some-field (min digits 32) n small
some-size RomanLower n small = some-roman_text n small (nat_le 1 n && nat_le n 3999) refl
some-size RomanUpper n small = some-upper (roman_text n) (some-roman_text n small (nat_le 1 n && nat_le n 3999) refl)
some-size AlphaLower n small = some-alphabetic n (n == 0) refl
some-size AlphaUpper n small = some-upper (alphabetic_text n) (some-alphabetic n (n == 0) refl)

-- a number that is shown has a byte
pub number-some : (format : Format) (value : ℤ) → FitsSigned w32 value → 0 < length (register_text format value)
number-some format (pos n) fits = some-size format n (omega (arith, fits))
number-some format (negsuc n) fits = omega arith

-- and no blank
pub number-shown : (format : Format) (value : ℤ) → FitsSigned w32 value → HasNoBlank (register_text format value)
number-shown format (pos n) fits = no_blank (size_text format n) (shown-size format n (omega (arith, fits)))
number-shown format (negsuc n) fits = (refl, no_blank (size_text format (suc n)) (shown-size format (suc n) (omega (arith, fits))))

-- the bytes of a part as it is printed
part-first : (number part : List ℕ) (b : ℕ) (is_mark : Bool) → length (part_text number part) ≤ length part * (1 + length number)
    → length (if is_mark then number ++ part_text number part else (if b == glyph_blank then 32 else b) ∷ part_text number part)
    ≤ length (b ∷ part) * (1 + length number)
part-first number part b true rest = grind (arith, rest, length-append number (part_text number part))
part-first number part b false rest = grind (arith, rest)

part-length : (number part : List ℕ) → length (part_text number part) ≤ length part * (1 + length number)
part-length number [] = omega arith
part-length number (b ∷ part) =
    let rest : length (part_text number part) ≤ length part * (1 + length number) = part-length number part in
    part-first number part b (b == page_mark) rest

-- and its columns
pub part-width : (number part : List ℕ) → text_width (part_text number part) ≤ length part * (1 + length number)
part-width number part = omega (arith, text_width_le (part_text number part), part-length number part)
