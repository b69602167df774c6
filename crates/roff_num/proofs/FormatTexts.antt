-- Which texts are formats.
use Rattle.std.proofs.Common.{◌≡◌, ℕ, true, ◌&&◌, eqb, leb, List, [], ◌∷◌, length, Option, Some, MatchOption, refl, ap, ◌∙◌, subst, arith, eqb-true, leb-true, le-leb}
use Rattle.std.specs.Prelude.{⊤}
use Rattle.std.specs.Char.{is_ascii_digit, IsAsciiDigit}
use Rattle.std.specs.List.{list_all, AllByRecursion}
use Rattle.std.proofs.lemmas.Bool.{and_parts, cond_both, cond-true, and_from}
use Rattle.roff_num.specs.declared.format.Format.{Format}
use Rattle.roff_num.specs.declared.format.Format.TheVariants.{Decimal, RomanLower, RomanUpper, AlphaLower, AlphaUpper}
use Rattle.roff_num.specs.Formats.{format_of, is_field, letter_format, IsWritten}

-- digits by the test and as a fact
AllDigits-test : (text : List ℕ) → list_all is_ascii_digit text ≡ true → AllByRecursion IsAsciiDigit text
AllDigits-test [] e = tt
AllDigits-test (c ∷ text) e =
    let (first, rest) = and_parts (is_ascii_digit c) (list_all is_ascii_digit text) e in
    let (low, high) = and_parts (leb 48 c) (leb c 57) first in
    ((leb-true 48 c low, leb-true c 57 high), AllDigits-test text rest)

list_all-digits : (text : List ℕ) → AllByRecursion IsAsciiDigit text → list_all is_ascii_digit text ≡ true
list_all-digits [] all = refl
list_all-digits (c ∷ text) ((low, high), all) =
    and_from (is_ascii_digit c) (list_all is_ascii_digit text) (and_from (leb 48 c) (leb c 57) (le-leb 48 c low) (le-leb c 57 high)) (list_all-digits text all)

-- how the format that was read is written, if one was
abbrev Tells : List ℕ → Option Format → Type 0
Tells text read = MatchOption read ⊤ (λ format. IsWritten format text)

-- a letter
letter_format-tells : (c : ℕ) → Tells (c ∷ []) (letter_format c)
letter_format-tells c =
    cond_both (eqb c 105) _ _ (Tells (c ∷ [])) (λ e. ap (λ k. k ∷ []) (eqb-true c 105 e))
    (λ _. cond_both (eqb c 73) _ _ (Tells (c ∷ [])) (λ e. ap (λ k. k ∷ []) (eqb-true c 73 e))
    (λ _. cond_both (eqb c 97) _ _ (Tells (c ∷ [])) (λ e. ap (λ k. k ∷ []) (eqb-true c 97 e))
    (λ _. cond_both (eqb c 65) _ _ (Tells (c ∷ [])) (λ e. ap (λ k. k ∷ []) (eqb-true c 65 e)) (λ _. tt))))

-- a text of one byte
one_byte-tells : (c : ℕ) (text : List ℕ) → eqb (length text) 0 ≡ true → Tells (c ∷ text) (letter_format c)
one_byte-tells c [] e = letter_format-tells c
one_byte-tells c (d ∷ text) e = absurd (let none : length (d ∷ text) ≡ 0 = eqb-true (length (d ∷ text)) 0 e in omega arith)

-- a field
field-tells : (c : ℕ) (text : List ℕ) → is_field (c ∷ text) ≡ true → Tells (c ∷ text) (Some (Decimal (length (c ∷ text))))
field-tells c text e =
    let (sized, digits) = and_parts (leb 1 (length (c ∷ text)) && leb (length (c ∷ text)) 32) (list_all is_ascii_digit (c ∷ text)) e in
    let (low, high) = and_parts (leb 1 (length (c ∷ text))) (leb (length (c ∷ text)) 32) sized in
    (AllDigits-test (c ∷ text) digits, refl, leb-true 1 (length (c ∷ text)) low, leb-true (length (c ∷ text)) 32 high)

format_of-tells : (text : List ℕ) → Tells text (format_of text)
format_of-tells [] = tt
format_of-tells (c ∷ text) =
    cond_both (is_field (c ∷ text)) _ _ (Tells (c ∷ text)) (field-tells c text)
    (λ _. cond_both (eqb (length text) 0) _ _ (Tells (c ∷ text)) (one_byte-tells c text) (λ _. tt))

-- a text that is read as a format is so written
pub IsWritten-read : (text : List ℕ) (format : Format) → format_of text ≡ Some format → IsWritten format text
IsWritten-read text format e = subst (Tells text) e (format_of-tells text)

-- a text that is so written is read as the format
pub format_of-written : (text : List ℕ) (format : Format) → IsWritten format text → format_of text ≡ Some format
format_of-written [] (Decimal digits) (all, same, low, high) = absurd (omega arith)
format_of-written (c ∷ text) (Decimal digits) (all, same, low, high) =
    let sized : (leb 1 (length (c ∷ text)) && leb (length (c ∷ text)) 32) ≡ true =
    and_from (leb 1 (length (c ∷ text))) (leb (length (c ∷ text)) 32) (le-leb 1 (length (c ∷ text)) (omega arith)) (le-leb (length (c ∷ text)) 32 (omega arith)) in
    let field : is_field (c ∷ text) ≡ true = and_from (leb 1 (length (c ∷ text)) && leb (length (c ∷ text)) 32) (list_all is_ascii_digit (c ∷ text)) sized (list_all-digits (c ∷ text) all) in
    cond-true (is_field (c ∷ text)) _ _ field ∙ ap (λ n. Some (Decimal n)) same
format_of-written text RomanLower e = ap format_of e
format_of-written text RomanUpper e = ap format_of e
format_of-written text AlphaLower e = ap format_of e
format_of-written text AlphaUpper e = ap format_of e
