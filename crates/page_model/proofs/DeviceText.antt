-- What is written to the device where nothing is put.
use Rattle.std.proofs.Common.{◌≡◌, ℕ, Bool, true, false, List, [], refl, if◌then◌else◌}

-- nothing, whatever the layout writes
pub either_none : (b : Bool) → let none : List ℕ = [] in (if b then none else none) ≡ none
either_none true = refl
either_none false = refl
