-- Numbers as arguments of requests (manual, sections 1.3 and 1.4).
--
-- What follows an expression in its argument is passed over. Control lines have no place on the line: a distance `|N` is
-- measured from 0 there, and one down the page from the place that is given.
use Rattle.std.specs.Prelude.{ℕ, List, drop, ℤ, pos, negsuc, ◌+ℤ◌, Some, Result, Ok, if◌then◌else◌, ◌==◌}
use Rattle.roff_num.specs.Expressions.{value_at, sign_at}
use Rattle.roff_num.specs.Ranges.{in_range, signed}
use Rattle.roff_num.specs.Rounding.{rounded}
use Rattle.roff_num.specs.Steps.{followed}
use Rattle.roff_num.specs.declared.num.NumFault.{NumFault}
use Rattle.roff_num.specs.declared.num.Scale.{Scale}
use Rattle.roff_num.specs.declared.num.Scale.TheVariants.{Lines}

-- the value of a text that is an argument, in basic units where it is a length
abbrev pub value_in : Scale → List ℕ → Result ℤ NumFault
value_in scale text = followed (value_at text 0 scale (Some (pos 0))) (λ r. Ok r.0.0)

-- the same down the page, where this is the place
abbrev pub height_in : ℤ → List ℕ → Result ℤ NumFault
height_in place text = followed (value_at text 0 Lines (Some place)) (λ r. Ok r.0.0)

-- a value that a sign in front adds to the one in force, or takes from it; without a sign, the text's own
abbrev pub value_beside : ℤ → Scale → List ℕ → Result ℤ NumFault
value_beside in_force scale text =
    if (sign_at text).1 == 0 then value_in scale text
    else followed (value_in scale (drop 1 text)) (λ v. in_range (in_force +ℤ signed (sign_at text).0 v))

-- the same of a height, where this is the place
abbrev pub height_beside : ℤ → ℤ → List ℕ → Result ℤ NumFault
height_beside place in_force text =
    if (sign_at text).1 == 0 then height_in place text
    else followed (height_in place (drop 1 text)) (λ v. in_range (in_force +ℤ signed (sign_at text).0 v))

-- a value rounded to a multiple of a step, unless that is out of range
abbrev pub rounded_in_range : ℕ → ℤ → Result ℤ NumFault
rounded_in_range step v = in_range (rounded step v)

-- a length that isn't below 0
abbrev pub at_least_zero : ℤ → ℕ
at_least_zero (pos n) = n
at_least_zero (negsuc n) = 0
