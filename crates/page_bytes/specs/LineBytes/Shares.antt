-- How spare columns are shared out.
use Rattle.std.specs.Prelude.{ℕ, ◌/◌, ◌%◌, if◌then◌else◌, ◌==◌}

-- what each of the gaps gets, what is left over, and the number of the gaps: nothing, and one gap, where
-- there is none
abbrev pub shared_out : ℕ → ℕ → ℕ × ℕ × ℕ
shared_out spare gaps = if gaps == 0 then (0, 0, 1) else (spare / gaps, spare % gaps, gaps)
