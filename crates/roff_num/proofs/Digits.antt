-- Digits at a text's front, and the numbers that they write.
use Rattle.std.proofs.Common.{◌≡◌, ℕ, ◌+◌, ◌*◌, ◌-◌, ◌<◌, min, Bool, true, false, cond, List, [], ◌∷◌, ◌++◌, length, take, drop, get_or, refl, arith, ap, sym, ◌∙◌, add-one}
use Rattle.std.specs.Char.{is_ascii_digit, digit_value}
use Rattle.std.specs.List.{take_while}
use Rattle.std.specs.Str.Parse.{AllDigits, digits_value, digits_value_after}
use Rattle.std.proofs.lemmas.Bool.Decides.{nat_tests}
use Rattle.std.proofs.Math.Seq.{drop-cons}
use Rattle.std.proofs.lemmas.Str.{digit_value_digit}
use Rattle.std.proofs.lemmas.Str.Parse.{digit_at}
use Rattle.std.proofs.lemmas.List.Sums.{take_while-cons}
use Rattle.std.proofs.lemmas.List.Folds.{length-prefix_len}

-- a digit's value
pub digit_value-lt : (c : ℕ) → is_ascii_digit c ≡ true → digit_value c < 10
digit_value-lt c digit = grind (arith, nat_tests)

-- it is how far the digit stands behind `0`
pub digit_value-code : (c : ℕ) → is_ascii_digit c ≡ true → digit_value c ≡ c - 48
digit_value-code c digit = grind (arith, nat_tests)

-- a byte in front of digits, if it is one
pub AllDigits-cond : (b : Bool) (c : ℕ) (digits : List ℕ) → is_ascii_digit c ≡ b → AllDigits 10 digits → AllDigits 10 (cond b (c ∷ digits) [])
AllDigits-cond true c digits e all = (digit_value-lt c e, all)
AllDigits-cond false c digits e all = tt

-- the digits at the front of a text are digits
pub AllDigits-take_while : (text : List ℕ) → AllDigits 10 (take_while is_ascii_digit text)
AllDigits-take_while [] = tt
AllDigits-take_while (c ∷ text) = rw take_while-cons (AllDigits-cond (is_ascii_digit c) c (take_while is_ascii_digit text) refl (AllDigits-take_while text))

-- so they are, as they are cut off by their number
pub AllDigits-take : (text : List ℕ) → AllDigits 10 (take (length (take_while is_ascii_digit text)) text)
AllDigits-take text = rw length-prefix_len (AllDigits-take_while text)

-- digits behind two numbers that are the same up to a cap write numbers that are the same up to it
pub digits_value_after-capped : (cap m n : ℕ) (digits : List ℕ) → min m cap ≡ min n cap
    → min (digits_value_after 10 m digits) cap ≡ min (digits_value_after 10 n digits) cap
digits_value_after-capped cap m n [] same = same
digits_value_after-capped cap m n (c ∷ digits) same =
    digits_value_after-capped cap (m * 10 + digit_value c) (n * 10 + digit_value c) digits (omega arith)

-- digits behind digits
pub digits_value_after-append : (n : ℕ) (xs ys : List ℕ) → digits_value_after 10 n (xs ++ ys) ≡ digits_value_after 10 (digits_value_after 10 n xs) ys
digits_value_after-append n [] ys = refl
digits_value_after-append n (c ∷ xs) ys = digits_value_after-append (n * 10 + digit_value c) xs ys

-- a loop over digits: one more is taken into the number so far, up to the cap
pub digits_value_after-step : (digits : List ℕ) (i cap number more total : ℕ) → AllDigits 10 digits → i < length digits
    → min more cap ≡ min (number * 10 + (get_or digits i 0 - 48)) cap
    → min (digits_value_after 10 number (drop i digits)) cap ≡ total
    → min (digits_value_after 10 more (drop (i + 1) digits)) cap ≡ total
digits_value_after-step digits i cap number more total all lt taken before =
    let here : digit_value (get_or digits i 0) + 48 ≡ get_or digits i 0 = digit_value_digit (get_or digits i 0) (digit_at digits i all lt) in
    let front : drop i digits ≡ get_or digits i 0 ∷ drop (i + 1) digits = rw (add-one i) (drop-cons digits i 0 lt) in
    let opened : min (digits_value_after 10 (number * 10 + digit_value (get_or digits i 0)) (drop (i + 1) digits)) cap ≡ total = rw front at before in
    digits_value_after-capped cap more (number * 10 + digit_value (get_or digits i 0)) (drop (i + 1) digits) (omega arith) ∙ opened

-- the number of two runs of digits, each capped as it is read
pub digits_value-capped : (whole decimals : List ℕ) (cap : ℕ)
    → min (digits_value_after 10 (min (digits_value 10 whole) cap) decimals) cap ≡ min (digits_value 10 (whole ++ decimals)) cap
digits_value-capped whole decimals cap =
    rw (digits_value_after-append 0 whole decimals)
    (digits_value_after-capped cap (min (digits_value 10 whole) cap) (digits_value 10 whole) decimals (omega arith))

-- the digits at a text's front, as they are cut off by their number
pub digits_at-take : (text : List ℕ) → take (length (take_while is_ascii_digit text)) text ≡ take_while is_ascii_digit text
digits_at-take text = rw length-prefix_len refl

-- a digit at a place is the first of the digits there
pub digits_at-digit : (text : List ℕ) (i : ℕ) → i < length text → is_ascii_digit (get_or text i 0) ≡ true
    → take_while is_ascii_digit (drop i text) ≡ get_or text i 0 ∷ take_while is_ascii_digit (drop (i + 1) text)
digits_at-digit text i lt digit =
    let front : drop i text ≡ get_or text i 0 ∷ drop (i + 1) text = rw (add-one i) (drop-cons text i 0 lt) in
    ap (take_while is_ascii_digit) front
    ∙ (take_while-cons is_ascii_digit (get_or text i 0) (drop (i + 1) text)
    ∙ ap (λ b. cond b (get_or text i 0 ∷ take_while is_ascii_digit (drop (i + 1) text)) []) digit)

-- where another byte stands there are none
pub digits_at-none : (text : List ℕ) (i : ℕ) → i < length text → is_ascii_digit (get_or text i 0) ≡ false
    → take_while is_ascii_digit (drop i text) ≡ []
digits_at-none text i lt other =
    let front : drop i text ≡ get_or text i 0 ∷ drop (i + 1) text = rw (add-one i) (drop-cons text i 0 lt) in
    ap (take_while is_ascii_digit) front
    ∙ (take_while-cons is_ascii_digit (get_or text i 0) (drop (i + 1) text)
    ∙ ap (λ b. cond b (get_or text i 0 ∷ take_while is_ascii_digit (drop (i + 1) text)) []) other)

-- one more digit is taken into the number of the digits at a text's front, up to the cap
pub digits_at-step : (text : List ℕ) (i cap number more total : ℕ) → i < length text → is_ascii_digit (get_or text i 0) ≡ true
    → min more cap ≡ min (number * 10 + (get_or text i 0 - 48)) cap
    → min (digits_value_after 10 number (take_while is_ascii_digit (drop i text))) cap ≡ total
    → min (digits_value_after 10 more (take_while is_ascii_digit (drop (i + 1) text))) cap ≡ total
digits_at-step text i cap number more total lt digit taken before =
    let value : digit_value (get_or text i 0) ≡ get_or text i 0 - 48 = digit_value-code (get_or text i 0) digit in
    let same : min more cap ≡ min (number * 10 + digit_value (get_or text i 0)) cap = omega arith in
    digits_value_after-capped cap more (number * 10 + digit_value (get_or text i 0)) (take_while is_ascii_digit (drop (i + 1) text)) same
    ∙ (ap (λ ds. min (digits_value_after 10 number ds) cap) (sym (digits_at-digit text i lt digit)) ∙ before)
