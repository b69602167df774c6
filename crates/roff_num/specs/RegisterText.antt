-- How a register's value is written (manual, section 8).
use Rattle.std.specs.Prelude.{ℕ, suc, ◌-◌, min, ◌&&◌, List, ◌∷◌, ◌++◌, length, replicate, nat_le, ℤ, pos, negsuc, decimal, codes, if◌then◌else◌, ◌==◌}
use Rattle.std.specs.Str.{str_to_ascii_uppercase}
use Rattle.roff_num.specs.declared.format.Format.{Format}
use Rattle.roff_num.specs.declared.format.Format.TheVariants.{Decimal, RomanLower, RomanUpper, AlphaLower, AlphaUpper}
use Rattle.roff_num.specs.Roman.{roman}
use Rattle.roff_num.specs.Alphabetic.{word}

-- decimal, with zeros in front up to so many digits
abbrev pub decimal_field : ℕ → ℕ → List ℕ
decimal_field digits n = replicate (digits - length (decimal n)) 48 ++ decimal n

-- Roman from 1 to 3999, otherwise decimal
abbrev pub roman_text : ℕ → List ℕ
roman_text n = if nat_le 1 n && nat_le n 3999 then roman n else decimal n

-- the n-th word over `a` to `z`; 0 is `0`
abbrev pub alphabetic_text : ℕ → List ℕ
alphabetic_text n = if n == 0 then codes "0" else word n

-- the text of a number without sign; a field has at most 32 digits
abbrev pub size_text : Format → ℕ → List ℕ
size_text (Decimal digits) n = decimal_field (min digits 32) n
size_text RomanLower n = roman_text n
size_text RomanUpper n = str_to_ascii_uppercase (roman_text n)
size_text AlphaLower n = alphabetic_text n
size_text AlphaUpper n = str_to_ascii_uppercase (alphabetic_text n)

-- the text of a value: a negative one is `-` and the text of its size
abbrev pub register_text : Format → ℤ → List ℕ
register_text format (pos n) = size_text format n
register_text format (negsuc n) = 45 ∷ size_text format (suc n)
