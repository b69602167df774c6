-- Steps that may fail, one behind the other: the first fault stands.
use Rattle.std.specs.Prelude.{Result, Ok, Err}

-- a step, and behind it one that goes by what it gave
abbrev pub followed : {A B E : Type 0} → Result A E → (A → Result B E) → Result B E
followed (Ok x) next = next x
followed (Err e) next = Err e
