-- How names of read-only registers begin.
use Rattle.std.specs.Prelude.{ℕ, ◌==◌, ◌||◌, Bool, false, List, [], ◌∷◌}

-- whether a name begins as one of those does
abbrev pub begins_read_only : List ℕ → Bool
begins_read_only [] = false
begins_read_only (b ∷ others) = b == 46 || b == 110 || b == 100
