-- What escapes of the text measure: characters, motions and the rest, in columns (manual, sections 2.3 and 11).
use Rattle.std.specs.Prelude.{ℕ, ℤ, pos, negsuc, ◌+◌, ◌*◌, ◌/◌, ◌||◌, List, length, min, Option, Some, None, Result, Ok, Err, if◌then◌else◌, ◌==◌}
use Rattle.roff_num.specs.Expressions.{value_at}
use Rattle.roff_num.specs.Rounding.{rounded}
use Rattle.roff_num.specs.Steps.{followed}
use Rattle.roff_num.specs.Widths.{byte_width}
use Rattle.roff_num.specs.declared.num.NumFault.{NumFault}
use Rattle.roff_num.specs.declared.num.Scale.TheVariants.{Columns}
use Rattle.input_source.specs.Bytes.{tab, is_silent}
use Rattle.input_escapes.specs.Characters.{character}
use Rattle.input_escapes.specs.declared.escapes.Escape.{Escape}
use Rattle.input_escapes.specs.declared.escapes.Escape.TheVariants.{Prints, Blank, LeftOut as IsLeftOut, Text as BeginsText}
use Rattle.input_escapes.specs.declared.escapes.NameUse.{NameUse}
use Rattle.input_escapes.specs.declared.escapes.NameUse.TheVariants.{Character, LeftOut as LeftOutName}
use Rattle.input_escapes.specs.declared.escapes.TextUse.TheVariants.{LeftOut as LeftOutText}
use Rattle.input_escapes.specs.declared.measures.Measured.{Measured}
use Rattle.input_escapes.specs.declared.open_escape.Remark.{Remark}
use Rattle.input_escapes.specs.declared.open_escape.Remark.TheVariants.{LeftOut, UnknownCharacter, BadNumber, BackwardMotion}

-- the columns of something, and what is said of it
abbrev pub columns_of : ℕ → Measured
columns_of columns = record { columns = columns; remark = None }

-- nothing that has columns, and of which this is said
abbrev pub remarked : Remark → Measured
remarked remark = record { columns = 0; remark = Some remark }

-- a width above this reads as this
abbrev pub most_width : ℕ
most_width = 2147483647

-- a width in basic units with so many columns more
abbrev pub wider : ℕ → ℕ → ℕ
wider width columns = min (width + 24 * columns) most_width

-- the columns of a byte: tabs and bytes that print nothing have none
abbrev pub byte_columns : ℕ → ℕ
byte_columns b = if b == tab || is_silent b then 0 else byte_width b

-- the columns of an escape without a name, by the byte behind its backslash and what it is
abbrev pub escape_measures : ℕ → Escape → Measured
escape_measures b (Prints byte) = columns_of (byte_width byte)
escape_measures b Blank = columns_of 1
escape_measures b IsLeftOut = remarked (LeftOut b)
escape_measures b (BeginsText (LeftOutText byte)) = remarked (LeftOut byte)
escape_measures b (_) = columns_of 0

-- the columns of a character, by its text, if one has the name
abbrev pub character_measures : Option (List ℕ) → Option (List ℕ) → Measured
character_measures name (Some text) = columns_of (length text)
character_measures name None = remarked (UnknownCharacter name)

-- the columns of what the name behind an escape asks for, where it isn't read in the escape's place
abbrev pub name_measures : NameUse → Option (List ℕ) → Measured
name_measures Character (Some name) = character_measures (Some name) (character name)
name_measures Character None = character_measures None None
name_measures (LeftOutName b) name = remarked (LeftOut b)
name_measures (_) name = columns_of 0

-- a motion of this length in basic units: one below 0 is none, and is told
abbrev pub motion_over : ℤ → Measured
motion_over (pos n) = columns_of (n / 24)
motion_over (negsuc n) = remarked BackwardMotion

-- a motion by its length, if that is a number
abbrev pub motion_by : Result ℤ NumFault → Measured
motion_by (Ok length) = motion_over length
motion_by (Err fault) = remarked BadNumber

-- The motion that a text asks for at this place of the input line, in basic units: it counts columns where it has no scale
-- letter, and is rounded to them. `|` measures from the place.
abbrev pub motion_of : ℤ → List ℕ → Measured
motion_of place text = motion_by (followed (value_at text 0 Columns (Some place)) (λ r. Ok (rounded 24 r.0.0)))
