-- The bytes of a register's text are printable.
use Rattle.std.proofs.Common.{◌≡◌, ℕ, zero, suc, ◌<◌, ◌≤◌, ◌^◌, Bool, true, false, List, [], ◌∷◌, ◌++◌, w32, FitsSigned, arith, ℤ, pos, negsuc, codes, min, nat_le, ◌&&◌, ◌/◌, ◌%◌, ◌==◌, if◌then◌else◌, le-leb}
use Rattle.std.specs.List.{AllByRecursion}
use Rattle.std.specs.Fmt.{decimal}
use Rattle.std.specs.Str.{str_to_ascii_uppercase}
use Rattle.std.specs.Str.Parse.{AllDigits}
use Rattle.std.proofs.lemmas.Bool.{and_from}
use Rattle.std.proofs.lemmas.Bool.Decides.{nat_tests}
use Rattle.std.proofs.lemmas.Fmt.{decimal_is_IsNumeral}
use Rattle.std.proofs.lemmas.List.Elements.{All-cons, All-nil}
use Rattle.std.proofs.lemmas.Str.Parse.{digit_from_value}
use Rattle.roff_num.specs.Alphabetic.{IsOverLetters, word}
use Rattle.roff_num.specs.RegisterText.{alphabetic_text, decimal_field, register_text, roman_text, size_text}
use Rattle.roff_num.specs.Roman.{digit_of, hundreds, ones, roman, tens, thousands}
use Rattle.roff_num.specs.declared.format.Format.{Format}
use Rattle.roff_num.specs.declared.format.Format.TheVariants.{Decimal, RomanLower, RomanUpper, AlphaLower, AlphaUpper}
use Rattle.roff_num.proofs.Fields.{AllDigits-decimal_field}
use Rattle.roff_num.proofs.Listing.{IsOverLetters-word}
use Rattle.law_escapes.proofs.TitleColumns.{ArePrintable}
use Rattle.law_escapes.specs.TitleLaws.{is_printable}

-- bytes above the blank, and none above the tilde
abbrev Shown : List ℕ → Type 0
Shown bytes = AllByRecursion (λ b. (32 < b) × (b ≤ 126)) bytes

shown-append : (xs ys : List ℕ) → Shown xs → Shown ys → Shown (xs ++ ys)
shown-append [] ys first second = second
shown-append (b ∷ xs) ys first second = (first.0, shown-append xs ys first.1 second)

-- digits
shown-digits : (digits : List ℕ) → AllDigits 10 digits → Shown digits
shown-digits [] all = tt
shown-digits (c ∷ digits) all =
    let digit = digit_from_value c all.0 in ((omega (arith, digit.0), omega (arith, digit.1)), shown-digits digits all.1)

-- Roman numbers
shown-digit : (table : List (List ℕ)) (digit : ℕ) → AllByRecursion Shown table → Shown (digit_of table digit)
shown-digit [] digit all = tt
shown-digit (text ∷ table) zero all = all.0
shown-digit (text ∷ table) (suc digit) all = shown-digit table digit all.1

shown-roman : (n : ℕ) → Shown (roman n)
unfolding roman
shown-roman n =
    let m : List ℕ = digit_of thousands (n / 1000) in
    let c : List ℕ = digit_of hundreds (n / 100 % 10) in
    let x : List ℕ = digit_of tens (n / 10 % 10) in
    let i : List ℕ = digit_of ones (n % 10) in
    shown-append (m ++ c ++ x) i
    (shown-append (m ++ c) x (shown-append m c (shown-digit thousands (n / 1000) (search (arith))) (shown-digit hundreds (n / 100 % 10) (search (arith))))
    (shown-digit tens (n / 10 % 10) (search (arith))))
    (shown-digit ones (n % 10) (search (arith)))

shown-roman_text : (n : ℕ) → n < 2 ^ 64 → (is_roman : Bool) → Shown (if is_roman then roman n else decimal n)
shown-roman_text n small true = shown-roman n
shown-roman_text n small false = shown-digits (decimal n) ((decimal_is_IsNumeral n small).0).1

-- words
shown-word : (text : List ℕ) → IsOverLetters text → Shown text
shown-word [] all = tt
shown-word (c ∷ text) all = ((omega (arith, all.0.0), omega (arith, all.0.1)), shown-word text all.1)

shown-alphabetic : (n : ℕ) (is_none : Bool) → Shown (if is_none then codes "0" else word n)
shown-alphabetic n true = ((omega arith, omega arith), tt)
shown-alphabetic n false = shown-word (word n) (IsOverLetters-word n)

-- capitals
shown-upper : (text : List ℕ) → Shown text → Shown (str_to_ascii_uppercase text)
shown-upper [] shown = tt
shown-upper (c ∷ text) shown =
    let above : 32 < c = shown.0.0 in let below : c ≤ 126 = shown.0.1 in ((grind (arith, nat_tests), grind (arith, nat_tests)), shown-upper text shown.1)

-- in each format
shown-size : (format : Format) (n : ℕ) → n < 2 ^ 64 → Shown (size_text format n)
shown-size (Decimal digits) n small = shown-digits (decimal_field (min digits 32) n) (AllDigits-decimal_field (min digits 32) n small)
shown-size RomanLower n small = shown-roman_text n small (nat_le 1 n && nat_le n 3999)
shown-size RomanUpper n small = shown-upper (roman_text n) (shown-roman_text n small (nat_le 1 n && nat_le n 3999))
shown-size AlphaLower n small = shown-alphabetic n (n == 0)
shown-size AlphaUpper n small = shown-upper (alphabetic_text n) (shown-alphabetic n (n == 0))

-- with its sign
printable-shown : (bytes : List ℕ) → Shown bytes → ArePrintable bytes
printable-shown [] shown = All-nil (λ b. is_printable b ≡ true)
printable-shown (b ∷ bytes) shown =
    All-cons (λ b. is_printable b ≡ true) b bytes
    (and_from (nat_le 32 b) (nat_le b 126) (le-leb 32 b (omega (arith, shown.0.0))) (le-leb b 126 shown.0.1))
    (printable-shown bytes shown.1)

pub printable-number : (format : Format) (value : ℤ) → FitsSigned w32 value → ArePrintable (register_text format value)
printable-number format (pos n) fits = printable-shown (size_text format n) (shown-size format n (omega (arith, fits)))
printable-number format (negsuc n) fits =
    printable-shown (45 ∷ size_text format (suc n)) ((omega arith, omega arith), shown-size format (suc n) (omega (arith, fits)))
