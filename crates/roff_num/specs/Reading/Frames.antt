-- An expression that is being read, and what it comes to: the frames say what its value is when the operand
-- that is read next has a value.
use Rattle.std.specs.Prelude.{ℕ, suc, ◌+◌, ◌-◌, ◌*◌, ◌<◌, Bool, List, [], ◌∷◌, ◌++◌, length, drop, reverse, ℤ, ◌-ℤ◌, Option, Some, None, Result, Ok, Err}
use Rattle.roff_num.specs.declared.expression.Frame.{Frame}
use Rattle.roff_num.specs.declared.expression.Next.{Next}
use Rattle.roff_num.specs.declared.expression.Next.TheVariants.{Opened, Operand, Ended}
use Rattle.roff_num.specs.declared.expression.Opening.{Opening}
use Rattle.roff_num.specs.declared.expression.Opening.TheVariants.{Parenthesis, Bar}
use Rattle.roff_num.specs.declared.expression.Reading.{Reading}
use Rattle.roff_num.specs.declared.num.NumFault.{NumFault}
use Rattle.roff_num.specs.declared.num.Scale.{Scale}
use Rattle.roff_num.specs.declared.operator.Operator.{Operator}
use Rattle.roff_num.specs.Expressions.{closed_behind, folded_onto, most_levels, operand_within, past}
use Rattle.roff_num.specs.Operators.{applied}
use Rattle.roff_num.specs.Ranges.{in_range, signed}
use Rattle.roff_num.specs.Steps.{followed}

-- what an operand's value gives behind the operator before it
abbrev pub combined : Option (Operator × ℤ) → ℤ → Result ℤ NumFault
combined None value = Ok value
combined (Some before) value = applied before.0 before.1 value

-- what follows a value at a place, folded onto it, with the place behind
abbrev pub folded_from : List ℕ → (List ℕ → Result (ℤ × ℕ) NumFault) → ℤ → ℕ → Result (ℤ × ℕ) NumFault
folded_from text operand value at = past at (folded_onto operand 0 value (drop at text))

-- the value of an operand that holds another one, where a value within it is reached at a place
abbrev pub held_value : List ℕ → (List ℕ → Result (ℤ × ℕ) NumFault) → Opening → Bool → ℤ → ℕ → Result (ℤ × ℕ) NumFault
held_value text operand Parenthesis is_negative value at =
    followed (folded_from text operand value at) (λ r. past r.1 (closed_behind is_negative r.0 (drop r.1 text)))
held_value text operand (Bar place) is_negative value at =
    followed (in_range (signed is_negative (value -ℤ place))) (λ v. Ok (v, at))

-- what an expression comes to where a value is reached at a place, within these frames, the innermost first
unfoldable pub come_to : List ℕ → Scale → Option ℤ → ℕ → List Frame → ℤ → ℕ → Result (ℤ × ℕ) NumFault
come_to text scale place levels [] value at = folded_from text (operand_within scale place levels) value at
come_to text scale place levels (f ∷ frames) value at =
    followed (held_value text (operand_within scale place levels) f.opening f.negative value at)
    (λ r. followed (combined f.pending r.0) (λ v. come_to text scale place (suc levels) frames v r.1))

-- what it comes to where an operand has been read, or is a fault
abbrev pub outcome_of : List ℕ → Scale → Option ℤ → Reading → Result (ℤ × ℕ) NumFault → Result (ℤ × ℕ) NumFault
outcome_of text scale place reading operand =
    followed operand (λ r. followed (combined reading.pending r.0)
    (λ v. come_to text scale place (most_levels - length reading.frames.items) (reverse reading.frames.items) v r.1))

-- what it comes to where an operand is read next
abbrev pub outcome_opened : List ℕ → Scale → Option ℤ → Reading → Result (ℤ × ℕ) NumFault
outcome_opened text scale place reading =
    outcome_of text scale place reading
    (past reading.at (operand_within scale place (most_levels - length reading.frames.items) (drop reading.at text)))

-- what it comes to behind an operand of a value
abbrev pub outcome_behind : List ℕ → Scale → Option ℤ → Reading → ℤ → Result (ℤ × ℕ) NumFault
outcome_behind text scale place reading value = outcome_of text scale place reading (Ok (value, reading.at))

-- what it comes to where an operand is read next, or one has been read
abbrev pub outcome_now : List ℕ → Scale → Option ℤ → Reading → Option ℤ → Result (ℤ × ℕ) NumFault
outcome_now text scale place reading None = outcome_opened text scale place reading
outcome_now text scale place reading (Some value) = outcome_behind text scale place reading value

-- what it comes to behind a step
abbrev pub outcome_next : List ℕ → Scale → Option ℤ → Reading → Next → Result (ℤ × ℕ) NumFault
outcome_next text scale place reading Opened = outcome_opened text scale place reading
outcome_next text scale place reading (Operand value) = outcome_behind text scale place reading value
outcome_next text scale place reading (Ended value) = Ok (value, reading.at)

-- what it comes to behind a step that may be a fault
abbrev pub outcome_stepped : List ℕ → Scale → Option ℤ → Reading → Result Next NumFault → Result (ℤ × ℕ) NumFault
outcome_stepped text scale place reading (Ok next) = outcome_next text scale place reading next
outcome_stepped text scale place reading (Err e) = Err e

-- an operand begins at a place that no other one holds
abbrev pub unheld : ℕ → Option (Operator × ℤ) → Reading
unheld at pending = record { at = at; pending = pending; frames = record { items = [] } }

-- an operand begins within another one
abbrev pub entered : Reading → ℕ → Bool → Opening → Reading
entered reading at is_negative opening =
    record {
      at = at;
      pending = None;
      frames = record { items = reading.frames.items ++ (record { pending = reading.pending; negative = is_negative; opening = opening }) ∷ [] };
    }

-- a reading within one more frame
abbrev pub with_frame : Frame → Reading → Reading
with_frame frame reading = record reading { frames = record { items = reading.frames.items ++ frame ∷ [] } }

-- a reading that has left an operand, behind which it stands at a place
abbrev pub left_behind : Frame → ℕ → Reading → Reading
left_behind frame at reading = record { at = at; pending = frame.pending; frames = reading.frames }

-- how much is left to do: at most twice the bytes left, and the frames
abbrev pub work_left : List ℕ → Reading → ℕ
work_left text reading = 2 * (length text - reading.at) + length reading.frames.items

-- less is left to do behind a step, unless it is the last
abbrev pub LeavesLess : List ℕ → Reading → Reading → Next → Type 0
LeavesLess text old new Opened = work_left text new < work_left text old
LeavesLess text old new (Operand value) = work_left text new < work_left text old
LeavesLess text old new (Ended value) = Unit {0}
