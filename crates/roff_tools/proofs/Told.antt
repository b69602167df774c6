-- What is told where a run doesn't start.
use Rattle.std.proofs.Common.{ℕ, List, Result, Ok, Err, inl, inr}
use Rattle.page_bytes.specs.Sinks.{Puts, Sunk}
use Rattle.roff_tools.specs.Told.{Tells}

-- what was put was told
pub Puts-Tells : {F : Type 0} (old new : Sunk) (text : List ℕ) (r : Result (Unit {0}) F) → Puts old new text r → Tells old new text
Puts-Tells old new text (Ok done) puts = inl puts.ok
Puts-Tells old new text (Err fault) puts = inr puts.err
