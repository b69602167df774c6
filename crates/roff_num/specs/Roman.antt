-- Roman numbers, by a table of digits for each decimal place (manual, section 8: the format `i`).
use Rattle.std.specs.Prelude.{ℕ, ◌+◌, ◌-◌, ◌/◌, ◌%◌, nat_lt, List, [], ◌∷◌, ◌++◌, slice_index_or, codes, if◌then◌else◌, ◌==◌}

-- the digits 0 to 9 of each place; there are thousands up to 3
abbrev pub ones : List (List ℕ)
ones = codes "" ∷ codes "i" ∷ codes "ii" ∷ codes "iii" ∷ codes "iv" ∷ codes "v" ∷ codes "vi" ∷ codes "vii" ∷ codes "viii" ∷ codes "ix" ∷ []

abbrev pub tens : List (List ℕ)
tens = codes "" ∷ codes "x" ∷ codes "xx" ∷ codes "xxx" ∷ codes "xl" ∷ codes "l" ∷ codes "lx" ∷ codes "lxx" ∷ codes "lxxx" ∷ codes "xc" ∷ []

abbrev pub hundreds : List (List ℕ)
hundreds = codes "" ∷ codes "c" ∷ codes "cc" ∷ codes "ccc" ∷ codes "cd" ∷ codes "d" ∷ codes "dc" ∷ codes "dcc" ∷ codes "dccc" ∷ codes "cm" ∷ []

abbrev pub thousands : List (List ℕ)
thousands = codes "" ∷ codes "m" ∷ codes "mm" ∷ codes "mmm" ∷ []

-- the digit of one place
abbrev pub digit_of : List (List ℕ) → ℕ → List ℕ
digit_of table digit = slice_index_or table digit []

-- a number of 1 to 3999
unfoldable pub roman : ℕ → List ℕ
roman n = digit_of thousands (n / 1000) ++ digit_of hundreds (n / 100 % 10) ++ digit_of tens (n / 10 % 10) ++ digit_of ones (n % 10)

-- what a letter counts
abbrev pub letter_value : ℕ → ℕ
letter_value c =
    if c == 109 then 1000
    else if c == 100 then 500
    else if c == 99 then 100
    else if c == 108 then 50
    else if c == 120 then 10
    else if c == 118 then 5
    else 1

-- the value of a Roman number: its letters' sum, but a letter before a greater one is taken off
abbrev pub roman_value : List ℕ → ℕ
roman_value [] = 0
roman_value (c ∷ []) = letter_value c
roman_value (c ∷ d ∷ text) =
    let behind = roman_value (d ∷ text) in
    if nat_lt (letter_value c) (letter_value d) then behind - letter_value c else letter_value c + behind
