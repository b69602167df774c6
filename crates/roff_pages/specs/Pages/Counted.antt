-- How boxes and columns are counted.
use Rattle.std.specs.Prelude.{ℕ, ◌^◌, min}

-- No more boxes and columns are counted: no page is as long, no trap lies as far, and no register holds as much.
abbrev pub counted : ℕ → ℕ
counted n = min n (2 ^ 33)
