-- The width of what is printed, in columns (manual, section 11.2).
use Rattle.std.specs.Prelude.{ℕ, ◌&&◌, nat_le, nat_lt, if◌then◌else◌}

-- the columns of one byte of a text: none where it goes on with a character of several bytes
abbrev pub byte_width : ℕ → ℕ
byte_width b = if nat_le 128 b && nat_lt b 192 then 0 else 1
