-- Whether a page is odd, as conditions ask it.
use Rattle.std.proofs.Common.{◌≡◌, Bool, true, false, not, refl, if◌then◌else◌}
use mathlib.Core.Bool.{beq}

-- whether a page is odd, where a condition asks for odd pages or for even ones
pub odd_as_asked : (is_odd asks_odd : Bool) → beq is_odd asks_odd ≡ (if asks_odd then is_odd else not is_odd)
odd_as_asked true true = refl
odd_as_asked true false = refl
odd_as_asked false true = refl
odd_as_asked false false = refl
