-- Numerals: digits with at most one dot, and a scale letter (manual, section 1.3).
use Rattle.std.specs.Prelude.{ℕ, ◌+◌, ◌*◌, ◌/◌, ◌^◌, min, Bool, List, [], ◌∷◌, ◌++◌, length, take, drop, take_while, ℤ, pos, Option, Some, None, option_map, unwrap_or, Result, Ok, Err, if◌then◌else◌, ◌==◌}
use Rattle.std.specs.Char.{is_ascii_digit}
use Rattle.std.specs.Str.Parse.{digits_value}
use Rattle.roff_num.specs.declared.num.NumFault.{NumFault}
use Rattle.roff_num.specs.declared.num.NumFault.TheVariants.{Missing}
use Rattle.roff_num.specs.declared.num.Scale.{Scale}
use Rattle.roff_num.specs.declared.num.Scale.TheVariants.{Units, Columns, Lines}
use Rattle.roff_num.specs.declared.numeral.Ratio.{Ratio}
use Rattle.roff_num.specs.Ranges.{in_range, signed}
use Rattle.roff_num.specs.Steps.{followed}

-- a unit of so many basic units: `over` in each `under` of it
abbrev pub ratio : ℕ → ℕ → Ratio
ratio over under = record { over = over; under = under }

-- the unit of a scale letter: an inch has 240 basic units, a pica 1/6 inch, a point 1/72 inch, a
-- centimetre 1/2.54 inch; a column has 24 basic units, a line 40
abbrev pub letter_unit : ℕ → Option Ratio
letter_unit c =
    if c == 105 then Some (ratio 240 1)
    else if c == 80 then Some (ratio 40 1)
    else if c == 112 then Some (ratio 10 3)
    else if c == 99 then Some (ratio 12000 127)
    else if c == 109 then Some (ratio 24 1)
    else if c == 110 then Some (ratio 24 1)
    else if c == 118 then Some (ratio 40 1)
    else if c == 117 then Some (ratio 1 1)
    else None

-- the unit of a number without a scale letter
abbrev pub scale_unit : Scale → Ratio
scale_unit Units = ratio 1 1
scale_unit Columns = ratio 24 1
scale_unit Lines = ratio 40 1

-- the unit that stands at a text's front, with its number of bytes
abbrev pub unit_at : Scale → List ℕ → Ratio × ℕ
unit_at scale [] = (scale_unit scale, 0)
unit_at scale (c ∷ text) = unwrap_or (option_map (λ unit. (unit, 1)) (letter_unit c)) (scale_unit scale, 0)

-- the digits at a text's front
abbrev pub digits_at : List ℕ → List ℕ
digits_at text = take_while is_ascii_digit text

-- whether a dot stands at a text's front, as a number of bytes
abbrev pub dot_at : List ℕ → ℕ
dot_at [] = 0
dot_at (c ∷ text) = if c == 46 then 1 else 0

-- the digits behind the dot at a text's front
abbrev pub decimals_at : List ℕ → List ℕ
decimals_at [] = []
decimals_at (c ∷ text) = if c == 46 then digits_at text else []

-- the size of a numeral: the number that its digits form without the dot, at most nine decimals kept,
-- over ten for each decimal kept, in this unit; truncated
abbrev pub size_of : List ℕ → List ℕ → Ratio → ℕ
size_of whole decimals unit =
    digits_value 10 (whole ++ take 9 decimals) * unit.over / (10 ^ min 9 (length decimals) * unit.under)

-- the value of a numeral of these digits, and of what stands behind the whole ones, behind a sign, with
-- the number of its bytes
abbrev pub numeral_of : Scale → Bool → List ℕ → List ℕ → Result (ℤ × ℕ) NumFault
numeral_of scale is_negative whole behind =
    let decimals = decimals_at behind in
    let unit = unit_at scale (drop (dot_at behind + length decimals) behind) in
    if length whole + length decimals == 0 then Err Missing
    else followed (in_range (signed is_negative (pos (size_of whole decimals unit.0))))
    (λ v. Ok (v, length whole + (dot_at behind + length decimals) + unit.1))

-- the value of the numeral at a text's front, behind a sign, with the number of its bytes
abbrev pub numeral_at : Scale → Bool → List ℕ → Result (ℤ × ℕ) NumFault
numeral_at scale is_negative text =
    numeral_of scale is_negative (digits_at text) (drop (length (digits_at text)) text)
