-- Which fronts of control lines are read at once.
use Rattle.std.proofs.Common.{◌≡◌, ◌==◌, ℕ, Bool, true, false, List, subst, ◌&&◌, ◌||◌}
use Rattle.input_source.specs.Bytes.{apostrophe, dot}
use Rattle.read_shortcuts.specs.ControlFronts.{Fronts, begins_line, control_byte}
use Rattle.read_shortcuts.specs.declared.control.ControlFront.{ControlFront}

-- the second of two facts
second-true : (first second : Bool) → first && second ≡ true → second ≡ true
second-true true second so = so
second-true false second so = absurd (cc)

-- bytes that begin with a line's dot or apostrophe, and two of which this is so, have a front of two such bytes
pub two-read : (of : ℕ → ℕ → Bool) (bytes : List ℕ) (front : ControlFront) → Fronts bytes front → begins_line of bytes ≡ true → of front.first front.second ≡ true
two-read of bytes front fronts reads =
    let mark : ℕ = control_byte front.breaks in
    second-true (mark == dot || mark == apostrophe) (of front.first front.second) (subst (λ (all : List ℕ). begins_line of all ≡ true) fronts.are reads)
