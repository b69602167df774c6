-- Expressions: operands with operators between them, from the left, without precedence (manual, section 1.4).
-- What is read gives a value and how many bytes it takes, or the first fault from the left.
use Rattle.std.specs.Prelude.{ℕ, zero, suc, ◌+◌, Bool, true, false, List, [], ◌∷◌, drop, ℤ, ◌-ℤ◌, Option, Some, None, Result, Ok, Err, if◌then◌else◌, ◌==◌}
use Rattle.roff_num.specs.declared.num.Num.{Num}
use Rattle.roff_num.specs.declared.num.NumFault.{NumFault}
use Rattle.roff_num.specs.declared.num.NumFault.TheVariants.{Missing}
use Rattle.roff_num.specs.declared.num.Scale.{Scale}
use Rattle.roff_num.specs.Numerals.{numeral_at}
use Rattle.roff_num.specs.Operators.{applied, begins_with, operator_from}
use Rattle.roff_num.specs.Ranges.{in_range, signed}
use Rattle.roff_num.specs.Steps.{followed}

-- what is read of the text behind so many bytes, these counted with it
abbrev pub past : ℕ → Result (ℤ × ℕ) NumFault → Result (ℤ × ℕ) NumFault
past n (Ok r) = Ok (r.0, n + r.1)
past n (Err e) = Err e

-- the operators and operands that follow a value, folded onto it from the left; the first so many bytes of
-- the text are passed over, since what was read before has them
unfoldable pub folded_onto : (List ℕ → Result (ℤ × ℕ) NumFault) → ℕ → ℤ → List ℕ → Result (ℤ × ℕ) NumFault
folded_onto operand passed value [] = Ok (value, 0)
folded_onto operand (suc passed) value (c ∷ text) = folded_onto operand passed value text
folded_onto operand zero value (c ∷ text) =
    elim (operator_from c text) [
      | None ↦ Ok (value, 0)
      | Some o ↦ followed (operand (drop o.1 text)) (λ r. followed (applied o.0 value r.0) (λ v. past (1 + o.1 + r.1) (folded_onto operand (o.1 + r.1) v text)))
    ]

-- an expression: an operand, and the operators and operands that follow it
abbrev pub expression_of : (List ℕ → Result (ℤ × ℕ) NumFault) → List ℕ → Result (ℤ × ℕ) NumFault
expression_of operand text = followed (operand text) (λ r. past r.1 (folded_onto operand r.1 r.0 text))

-- the `)` behind an expression of this value, whose sign stands before its `(`
abbrev pub closed_behind : Bool → ℤ → List ℕ → Result (ℤ × ℕ) NumFault
closed_behind is_negative value text =
    if begins_with 41 text then followed (in_range (signed is_negative value)) (λ v. Ok (v, 1)) else Err Missing

-- an expression and its `)`, behind the `(`
abbrev pub parenthesis_of : (List ℕ → Result (ℤ × ℕ) NumFault) → Bool → List ℕ → Result (ℤ × ℕ) NumFault
parenthesis_of operand is_negative text =
    followed (expression_of operand text) (λ r. past r.1 (closed_behind is_negative r.0 (drop r.1 text)))

-- an operand less the present place, behind the `|`; without a place it is missing
abbrev pub distance_of : Option ℤ → (List ℕ → Result (ℤ × ℕ) NumFault) → Bool → List ℕ → Result (ℤ × ℕ) NumFault
distance_of None operand is_negative text = Err Missing
distance_of (Some place) operand is_negative text =
    followed (operand text) (λ r. followed (in_range (signed is_negative (r.0 -ℤ place))) (λ v. Ok (v, r.1)))

-- what stands behind an operand's sign: an expression in parentheses, a distance, or a numeral
abbrev pub unsigned_of : Scale → Option ℤ → (List ℕ → Result (ℤ × ℕ) NumFault) → Bool → List ℕ → Result (ℤ × ℕ) NumFault
unsigned_of scale place operand is_negative text =
    if begins_with 40 text then past 1 (parenthesis_of operand is_negative (drop 1 text))
    else if begins_with 124 text then past 1 (distance_of place operand is_negative (drop 1 text))
    else numeral_at scale is_negative text

-- the sign at a text's front: whether it is `-`, and its number of bytes
abbrev pub sign_at : List ℕ → Bool × ℕ
sign_at [] = (false, 0)
sign_at (c ∷ text) = if c == 43 then (false, 1) else if c == 45 then (true, 1) else (false, 0)

-- an operand: its sign, and what stands behind it
abbrev pub operand_of : Scale → Option ℤ → (List ℕ → Result (ℤ × ℕ) NumFault) → List ℕ → Result (ℤ × ℕ) NumFault
operand_of scale place operand text =
    past (sign_at text).1 (unsigned_of scale place operand (sign_at text).0 (drop (sign_at text).1 text))

-- an operand of so many levels: one of none is missing, and within parentheses or behind a `|` there is a level less
unfoldable pub operand_within : Scale → Option ℤ → ℕ → List ℕ → Result (ℤ × ℕ) NumFault
operand_within scale place zero text = Err Missing
operand_within scale place (suc levels) text = operand_of scale place (operand_within scale place levels) text

-- the levels of an expression: its own, and 32 within it
abbrev pub most_levels : ℕ
most_levels = 33

-- a value and a place, as a number and that place
abbrev pub as_number : Result (ℤ × ℕ) NumFault → Result (Num × ℕ) NumFault
as_number (Ok r) = Ok (record { 0 = r.0 }, r.1)
as_number (Err e) = Err e

-- the value of the expression that begins at a place of a text, and the place behind it
unfoldable pub value_at : List ℕ → ℕ → Scale → Option ℤ → Result (Num × ℕ) NumFault
value_at text at scale place = as_number (past at (expression_of (operand_within scale place most_levels) (drop at text)))
