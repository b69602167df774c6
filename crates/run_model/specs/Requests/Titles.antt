-- Titles, and the character in them that stands for the page number (manual, section 14).
use Rattle.std.specs.Prelude.{ℕ, List, [], ◌∷◌, Option, Some, None}
use Rattle.run_model.specs.PageEvents.{Title, Read}
use Rattle.run_model.specs.Registers.{CharacterIs}
use Rattle.run_model.specs.Requests.Effects.{Response, changing, happens}

-- the first byte of the first argument, if there is one
abbrev pub first_byte : List (List ℕ) → Option ℕ
first_byte [] = None
first_byte ([] ∷ others) = None
first_byte ((b ∷ bytes) ∷ others) = Some b

-- `pc`: this character stands for the page number; without one none does
abbrev pub page_character : List (List ℕ) → Response
page_character as_given = changing (CharacterIs (first_byte as_given))

-- `tl`: the title that was read is placed
abbrev pub place_title : Response
place_title = happens [] (Title Read ∷ [])
