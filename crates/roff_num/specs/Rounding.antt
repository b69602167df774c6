-- Rounding to what a device can show (manual, section 1.3).
use Rattle.std.specs.Prelude.{ℕ, ◌/◌, ℤ, pos, ◌+ℤ◌, ◌*ℤ◌}
use Rattle.std.specs.Int.{int_div_euclid}

-- the multiple of a step that is nearest to a length, of two as near the greater: `step * floor((length + step / 2) / step)`
abbrev pub rounded : ℕ → ℤ → ℤ
rounded step length = int_div_euclid (length +ℤ pos (step / 2)) (pos step) *ℤ pos step
