-- The operators of expressions, and what they give (manual, section 1.4).
use Rattle.std.specs.Prelude.{ℕ, Bool, false, ◌&&◌, ◌||◌, List, [], ◌∷◌, Option, Some, None, ℤ, pos, ◌+ℤ◌, ◌-ℤ◌, ◌*ℤ◌, int_div, int_rem, int_lt, int_le, Result, Ok, Err, if◌then◌else◌, ◌==◌}
use Rattle.std.specs.Ordering.{int_eq}
use Rattle.roff_num.specs.declared.num.NumFault.{NumFault}
use Rattle.roff_num.specs.declared.num.NumFault.TheVariants.{ZeroDivisor}
use Rattle.roff_num.specs.declared.operator.Operator.{Operator}
use Rattle.roff_num.specs.declared.operator.Operator.TheVariants.{Add, Subtract, Multiply, Divide, Remainder, Less, Greater, LessOrEqual, GreaterOrEqual, Equal, And, Or}
use Rattle.roff_num.specs.Ranges.{in_range}

-- 1 for what holds, 0 for what doesn't
abbrev pub truth : Bool → ℤ
truth holds = if holds then pos 1 else pos 0

-- a value above 0 counts as true
abbrev pub is_true : ℤ → Bool
is_true z = int_lt (pos 0) z

-- what a division or its remainder gives, unless it is by 0; both round toward 0
abbrev pub divided : ℤ → Result ℤ NumFault → Result ℤ NumFault
divided divisor given = if int_eq divisor (pos 0) then Err ZeroDivisor else given

-- what an operator gives of two values
abbrev pub applied : Operator → ℤ → ℤ → Result ℤ NumFault
applied Add a b = in_range (a +ℤ b)
applied Subtract a b = in_range (a -ℤ b)
applied Multiply a b = in_range (a *ℤ b)
applied Divide a b = divided b (in_range (int_div a b))
applied Remainder a b = divided b (Ok (int_rem a b))
applied Less a b = Ok (truth (int_lt a b))
applied Greater a b = Ok (truth (int_lt b a))
applied LessOrEqual a b = Ok (truth (int_le a b))
applied GreaterOrEqual a b = Ok (truth (int_le b a))
applied Equal a b = Ok (truth (int_eq a b))
applied And a b = Ok (truth (is_true a && is_true b))
applied Or a b = Ok (truth (is_true a || is_true b))

-- an operator of one byte, with the number of its further bytes
abbrev pub alone : Operator → Option (Operator × ℕ)
alone operator = Some (operator, 0)

-- whether a byte stands at a text's front
abbrev pub begins_with : ℕ → List ℕ → Bool
begins_with byte [] = false
begins_with byte (c ∷ text) = c == byte

-- an operator that an `=` behind its first byte makes another one
abbrev pub with_equals : Operator → Operator → List ℕ → Option (Operator × ℕ)
with_equals bare equals text = if begins_with 61 text then Some (equals, 1) else alone bare

-- the operator that begins with a byte, before what follows it: `+ - * / % < > <= >= = == & :`
abbrev pub operator_from : ℕ → List ℕ → Option (Operator × ℕ)
operator_from c text =
    if c == 43 then alone Add
    else if c == 45 then alone Subtract
    else if c == 42 then alone Multiply
    else if c == 47 then alone Divide
    else if c == 37 then alone Remainder
    else if c == 60 then with_equals Less LessOrEqual text
    else if c == 62 then with_equals Greater GreaterOrEqual text
    else if c == 61 then with_equals Equal Equal text
    else if c == 38 then alone And
    else if c == 58 then alone Or
    else None

-- the operator at a text's front, with the number of its bytes behind the first
abbrev pub operator_at : List ℕ → Option (Operator × ℕ)
operator_at [] = None
operator_at (c ∷ text) = operator_from c text
