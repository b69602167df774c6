-- The code's table of characters, as the definition's.
use Rattle.std.specs.Prelude.{ℕ, List}
use Rattle.input_escapes.specs.Characters.{Character}
use Rattle.input_escapes.specs.declared.characters.Row.{Row}
use Rattle.input_escapes.specs.declared.characters.Text.{Text}
use Rattle.input_escapes.specs.declared.characters.Text.TheVariants.{One, Two, Three, Four}

-- the bytes that a character prints in the code's table
abbrev pub bytes_of : Text → List ℕ
bytes_of (One bytes) = bytes
bytes_of (Two bytes) = bytes
bytes_of (Three bytes) = bytes
bytes_of (Four bytes) = bytes

-- a row of it
abbrev pub character_of : Row → Character
character_of row = record { name = row.name; text = bytes_of row.text }
