-- Counts of devices' failures.
use Rattle.std.specs.Prelude.{ℕ, ◌-◌, ◌^◌, ◌+◌, ◌≤◌, min}

-- the last value of a count of failures, at which it stays
abbrev pub last_count : ℕ
last_count = 2 ^ 64 - 1

-- the count of failures rose, or stood at its last value
abbrev pub Rises : ℕ → ℕ → Type 0
Rises old new = min (old + 1) last_count ≤ new
