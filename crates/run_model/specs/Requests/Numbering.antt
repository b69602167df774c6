-- Setting, formatting and removing number registers (manual, section 8).
use Rattle.std.specs.Prelude.{ℕ, ℤ, pos, List, [], ◌∷◌, length, map, take, filter, Option, Some, None, Result, Ok, Err, if◌then◌else◌, ◌==◌}
use Rattle.roff_num.specs.Formats.{format_of}
use Rattle.roff_num.specs.Ranges.{number}
use Rattle.roff_num.specs.declared.format.Format.{Format}
use Rattle.roff_num.specs.declared.num.Num.{Num}
use Rattle.roff_num.specs.declared.num.NumFault.{NumFault}
use Rattle.roff_num.specs.declared.num.Scale.TheVariants.{Units}
use Rattle.input_model.specs.Arguments.{has_byte}
use Rattle.run_model.specs.Numbers.{value_in, value_beside}
use Rattle.run_model.specs.Registers.{Known, SetTo, FormatAs, Remove, is_page, value_in_force}
use Rattle.run_model.specs.Requests.Effects.{Response, Ignored, Obeyed, changing, bad_number, bad_format, page_numbered}

-- a name that an argument gives: its first two bytes
abbrev pub name_given : List ℕ → List ℕ
name_given text = take 2 text

-- the increment: 0 where none is given
abbrev pub increment_given : List (List ℕ) → Result ℤ NumFault
increment_given [] = Ok (pos 0)
increment_given (text ∷ others) = value_in Units text

-- the page's number, where a register is set to it that is the page number's
abbrev pub number_of_page : List ℕ → Num → Option Num
number_of_page name value = if is_page name then Some value else None

-- a register is set to a value and an increment, if both are numbers
abbrev pub set_to : List ℕ → Result ℤ NumFault → Result ℤ NumFault → Response
set_to name (Err fault) increment = bad_number
set_to name (Ok value) (Err fault) = bad_number
set_to name (Ok value) (Ok increment) =
    Obeyed [] (SetTo name (number value) (number increment) ∷ []) [] (page_numbered (number_of_page name (number value)))

-- an argument that gives no name is none, and nothing happens
abbrev pub if_named : List ℕ → Response → Response
if_named text done = if length text == 0 then Ignored [] else done

-- `nr`: a sign in front adds to the value in force, or takes from it
abbrev pub set_register : Known → List (List ℕ) → Response
set_register known [] = Ignored []
set_register known (name ∷ []) = Ignored []
set_register known (name ∷ value ∷ others) =
    if_named name (set_to (name_given name)
    (value_beside (value_in_force known (name_given name)).0 Units value) (increment_given others))

-- a register is given a format, if it is one
abbrev pub format_as : List ℕ → Option Format → Response
format_as name None = bad_format
format_as name (Some format) = changing (FormatAs name format)

-- `af`: how a register is written
abbrev pub assign_format : List (List ℕ) → Response
assign_format [] = Ignored []
assign_format (name ∷ []) = Ignored []
assign_format (name ∷ format ∷ others) = if_named name (format_as (name_given name) (format_of format))

-- the names that arguments give
abbrev pub names_given : List (List ℕ) → List (List ℕ)
names_given as_given = map name_given (filter has_byte as_given)

-- `rr`: registers go
abbrev pub remove_registers : List (List ℕ) → Response
remove_registers as_given = changing (Remove (names_given as_given))
