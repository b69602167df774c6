-- The texts that name a format (manual, section 8: `.af`).
use Rattle.std.specs.Prelude.{◌≡◌, ℕ, ◌≤◌, Bool, ◌&&◌, List, [], ◌∷◌, length, nat_le, codes, Option, Some, None, if◌then◌else◌, ◌==◌}
use Rattle.std.specs.Char.{is_ascii_digit, IsAsciiDigit}
use Rattle.std.specs.List.{list_all, AllByRecursion}
use Rattle.roff_num.specs.declared.format.Format.{Format}
use Rattle.roff_num.specs.declared.format.Format.TheVariants.{Decimal, RomanLower, RomanUpper, AlphaLower, AlphaUpper}

-- the format that a letter names
abbrev pub letter_format : ℕ → Option Format
letter_format c =
    if c == 105 then Some RomanLower
    else if c == 73 then Some RomanUpper
    else if c == 97 then Some AlphaLower
    else if c == 65 then Some AlphaUpper
    else None

-- whether a text is 1 to 32 digits
abbrev pub is_field : List ℕ → Bool
is_field text = nat_le 1 (length text) && nat_le (length text) 32 && list_all is_ascii_digit text

-- the format that a text names: 1 to 32 digits a field of as many, else one letter
abbrev pub format_of : List ℕ → Option Format
format_of [] = None
format_of (c ∷ text) =
    if is_field (c ∷ text) then Some (Decimal (length (c ∷ text)))
    else if length text == 0 then letter_format c
    else None

-- how a format is written
abbrev pub IsWritten : Format → List ℕ → Type 0
IsWritten (Decimal digits) text = AllByRecursion IsAsciiDigit text × (length text ≡ digits) × (1 ≤ digits) × (digits ≤ 32)
IsWritten RomanLower text = text ≡ codes "i"
IsWritten RomanUpper text = text ≡ codes "I"
IsWritten AlphaLower text = text ≡ codes "a"
IsWritten AlphaUpper text = text ≡ codes "A"
