-- Decimal fields.
use Rattle.std.proofs.Common.{◌≡◌, ℕ, zero, suc, ◌+◌, ◌-◌, ◌<◌, ◌≤◌, ◌^◌, List, ◌++◌, length, replicate, refl, ap, ◌∙◌, arith, length-append}
use Rattle.std.specs.Fmt.{decimal}
use Rattle.std.specs.Str.Parse.{AllDigits, digits_value}
use Rattle.std.proofs.lemmas.Fmt.{decimal_is_IsNumeral}
use Rattle.std.proofs.lemmas.List.{length-replicate}
use Rattle.roff_num.specs.RegisterText.{decimal_field}

-- zeros in front are digits
AllDigits-zeros : (k : ℕ) (text : List ℕ) → AllDigits 10 text → AllDigits 10 (replicate k 48 ++ text)
AllDigits-zeros zero text all = all
AllDigits-zeros (suc k) text all = (omega arith, AllDigits-zeros k text all)

-- and count nothing
digits_value-zeros : (k : ℕ) (text : List ℕ) → digits_value 10 (replicate k 48 ++ text) ≡ digits_value 10 text
digits_value-zeros zero text = refl
digits_value-zeros (suc k) text = digits_value-zeros k text

-- a field has digits alone
pub AllDigits-decimal_field : (width n : ℕ) → n < 2 ^ 64 → AllDigits 10 (decimal_field width n)
AllDigits-decimal_field width n small = AllDigits-zeros (width - length (decimal n)) (decimal n) ((decimal_is_IsNumeral n small).0).1

-- they count the number
pub digits_value-decimal_field : (width n : ℕ) → n < 2 ^ 64 → digits_value 10 (decimal_field width n) ≡ n
digits_value-decimal_field width n small = digits_value-zeros (width - length (decimal n)) (decimal n) ∙ (decimal_is_IsNumeral n small).1

-- how many digits a field has
length-decimal_field : (width n : ℕ) → length (decimal_field width n) ≡ (width - length (decimal n)) + length (decimal n)
length-decimal_field width n =
    length-append (replicate (width - length (decimal n)) 48) (decimal n) ∙ ap (λ k. k + length (decimal n)) (length-replicate (width - length (decimal n)) 48)

-- as many as it should have
pub decimal_field-wide : (width n : ℕ) → width ≤ length (decimal_field width n)
decimal_field-wide width n = omega (arith, length-decimal_field width n)

-- and no zeros in front if it has more
pub decimal_field-long : (width n : ℕ) → width < length (decimal_field width n) → decimal_field width n ≡ decimal n
decimal_field-long width n long =
    let none : width - length (decimal n) ≡ 0 = omega (arith, length-decimal_field width n) in
    ap (λ k. replicate k 48 ++ decimal n) none
