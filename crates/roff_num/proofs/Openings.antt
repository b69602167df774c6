-- An operand that holds another one: the reading goes on within it.
use Rattle.std.proofs.Common.{◌≡◌, ℕ, ◌+◌, Bool, true, false, List, drop, refl, ap, sym, ◌∙◌, Ok, Err, Some, None, add_assoc, ℤ, Result, Option, ◌-ℤ◌, drop-drop}
use Rattle.roff_num.specs.declared.num.NumFault.{NumFault}
use Rattle.roff_num.specs.declared.num.NumFault.TheVariants.{Missing}
use Rattle.roff_num.specs.declared.num.Scale.{Scale}
use Rattle.roff_num.specs.Expressions.{closed_behind, distance_of, folded_onto, parenthesis_of, past, unsigned_of}
use Rattle.roff_num.specs.Reading.Frames.{folded_from}
use Rattle.roff_num.specs.Numerals.{numeral_at}
use Rattle.roff_num.specs.Operators.{begins_with}
use Rattle.roff_num.specs.Ranges.{in_range, signed}
use Rattle.roff_num.specs.Steps.{followed}
use Rattle.roff_num.proofs.Folds.{folded_onto-drop, past-past}

-- behind the operands of an expression comes its `)`
closed_at : (text : List ℕ) (is_negative : Bool) (at taken : ℕ) (next : ℤ × ℕ → Result (ℤ × ℕ) NumFault) (x : Result (ℤ × ℕ) NumFault)
    → followed (past at (followed (past taken x) (λ r. past r.1 (closed_behind is_negative r.0 (drop r.1 (drop at text)))))) next
    ≡ followed (followed (past (at + taken) x) (λ r. past r.1 (closed_behind is_negative r.0 (drop r.1 text)))) next
closed_at text is_negative at taken next (Ok r) =
    ap (λ y. followed y next)
    (past-past at (taken + r.1) (closed_behind is_negative r.0 (drop (taken + r.1) (drop at text)))
    ∙ (ap (λ l. past (at + (taken + r.1)) (closed_behind is_negative r.0 l)) (drop-drop (taken + r.1) at text)
    ∙ ap (λ n. past n (closed_behind is_negative r.0 (drop n text))) (sym (add_assoc at taken r.1))))
closed_at text is_negative at taken next (Err e) = refl

-- an expression in parentheses is read on from its first operand
parenthesis_from : (text : List ℕ) (operand : List ℕ → Result (ℤ × ℕ) NumFault) (is_negative : Bool) (at : ℕ) (next : ℤ × ℕ → Result (ℤ × ℕ) NumFault) (x : Result (ℤ × ℕ) NumFault)
    → followed (past at (followed (followed x (λ r. past r.1 (folded_onto operand r.1 r.0 (drop at text)))) (λ r. past r.1 (closed_behind is_negative r.0 (drop r.1 (drop at text)))))) next
    ≡ followed (past at x) (λ r. followed (followed (folded_from text operand r.0 r.1) (λ s. past s.1 (closed_behind is_negative s.0 (drop s.1 text)))) next)
parenthesis_from text operand is_negative at next (Ok r) =
    closed_at text is_negative at r.1 next (folded_onto operand r.1 r.0 (drop at text))
    ∙ ap (λ y. followed (followed (past (at + r.1) y) (λ s. past s.1 (closed_behind is_negative s.0 (drop s.1 text)))) next)
    (folded_onto-drop operand r.1 r.0 (drop at text) ∙ ap (folded_onto operand 0 r.0) (drop-drop r.1 at text))
parenthesis_from text operand is_negative at next (Err e) = refl

-- a distance is read on from its operand
distance_from : (place : ℤ) (is_negative : Bool) (at : ℕ) (next : ℤ × ℕ → Result (ℤ × ℕ) NumFault) (x : Result (ℤ × ℕ) NumFault)
    → followed (past at (followed x (λ r. followed (in_range (signed is_negative (r.0 -ℤ place))) (λ v. Ok (v, r.1))))) next
    ≡ followed (past at x) (λ r. followed (followed (in_range (signed is_negative (r.0 -ℤ place))) (λ v. Ok (v, r.1))) next)
distance_from place is_negative at next (Ok r) = distance_value at r.1 next (in_range (signed is_negative (r.0 -ℤ place)))
  where
    distance_value : (at taken : ℕ) (next : ℤ × ℕ → Result (ℤ × ℕ) NumFault) (x : Result ℤ NumFault)
        → followed (past at (followed x (λ v. Ok (v, taken)))) next ≡ followed (followed x (λ v. Ok (v, at + taken))) next
    distance_value at taken next (Ok v) = refl
    distance_value at taken next (Err e) = refl
distance_from place is_negative at next (Err e) = refl

-- the byte that opens an operand, and what follows it
opened_behind : (text : List ℕ) (at : ℕ) (read : List ℕ → Result (ℤ × ℕ) NumFault) (next : ℤ × ℕ → Result (ℤ × ℕ) NumFault)
    → followed (past at (past 1 (read (drop 1 (drop at text))))) next ≡ followed (past (at + 1) (read (drop (at + 1) text))) next
opened_behind text at read next =
    ap (λ y. followed y next) (past-past at 1 (read (drop 1 (drop at text))) ∙ ap (λ l. past (at + 1) (read l)) (drop-drop 1 at text))

-- an operand that `(` opens
pub unsigned_of-parenthesis : (text : List ℕ) (scale : Scale) (place : Option ℤ) (operand : List ℕ → Result (ℤ × ℕ) NumFault) (is_negative : Bool) (at : ℕ) (next : ℤ × ℕ → Result (ℤ × ℕ) NumFault)
    → begins_with 40 (drop at text) ≡ true
    → followed (past at (unsigned_of scale place operand is_negative (drop at text))) next
    ≡ followed (past (at + 1) (operand (drop (at + 1) text))) (λ r. followed (followed (folded_from text operand r.0 r.1) (λ s. past s.1 (closed_behind is_negative s.0 (drop s.1 text)))) next)
unsigned_of-parenthesis text scale place operand is_negative at next found =
    rw found (opened_behind text at (parenthesis_of operand is_negative) next
    ∙ parenthesis_from text operand is_negative (at + 1) next (operand (drop (at + 1) text)))

-- an operand that `|` opens
pub unsigned_of-bar : (text : List ℕ) (scale : Scale) (place : ℤ) (operand : List ℕ → Result (ℤ × ℕ) NumFault) (is_negative : Bool) (at : ℕ) (next : ℤ × ℕ → Result (ℤ × ℕ) NumFault)
    → begins_with 40 (drop at text) ≡ false → begins_with 124 (drop at text) ≡ true
    → followed (past at (unsigned_of scale (Some place) operand is_negative (drop at text))) next
    ≡ followed (past (at + 1) (operand (drop (at + 1) text))) (λ r. followed (followed (in_range (signed is_negative (r.0 -ℤ place))) (λ v. Ok (v, r.1))) next)
unsigned_of-bar text scale place operand is_negative at next other found =
    rw (other, found) (opened_behind text at (distance_of (Some place) operand is_negative) next
    ∙ distance_from place is_negative (at + 1) next (operand (drop (at + 1) text)))

-- a `|` where there is no place
pub unsigned_of-no_place : (text : List ℕ) (scale : Scale) (operand : List ℕ → Result (ℤ × ℕ) NumFault) (is_negative : Bool)
    → begins_with 40 text ≡ false → begins_with 124 text ≡ true → unsigned_of scale None operand is_negative text ≡ Err Missing
unsigned_of-no_place text scale operand is_negative other found = rw (other, found) refl

-- an operand that is a numeral
pub unsigned_of-numeral : (text : List ℕ) (scale : Scale) (place : Option ℤ) (operand : List ℕ → Result (ℤ × ℕ) NumFault) (is_negative : Bool)
    → begins_with 40 text ≡ false → begins_with 124 text ≡ false → unsigned_of scale place operand is_negative text ≡ numeral_at scale is_negative text
unsigned_of-numeral text scale place operand is_negative other found = rw (other, found) refl
