-- The code's table of characters has the definition's rows.
use Rattle.std.proofs.Common.{◌≡◌, ℕ, Bool, true, false, cond, List, [], ◌∷◌, map, Option, Some, bytes_eq, option_map, refl, ap, ◌∙◌, find}
use Rattle.input_escapes.specs.Characters.{Character, character, characters}
use Rattle.input_escapes.specs.Characters.Coded.{bytes_of, character_of}
use Rattle.input_escapes.specs.declared.characters.TheConstants.{ROWS}
use Rattle.input_escapes.specs.declared.characters.Row.{Row}

-- row by row, by computing
table : map character_of ROWS ≡ characters
table = refl

-- the text of a row that was found
abbrev pub text_in : Option Row → Option (List ℕ)
text_in found = option_map (λ (row : Row). bytes_of row.text) found

-- the text of a name among some rows
abbrev text_among : List ℕ → List Character → Option (List ℕ)
text_among name rows = option_map (λ (row : Character). row.text) (find (λ (row : Character). bytes_eq name row.name) rows)

-- a row that is tested, or the rest
text_in-cond : (test : Bool) (row : Row) (rest : Option Row) (found : Option Character)
    → text_in rest ≡ option_map (λ (row : Character). row.text) found
    → text_in (cond test (Some row) rest) ≡ option_map (λ (row : Character). row.text) (cond test (Some (character_of row)) found)
text_in-cond true row rest found same = refl
text_in-cond false row rest found same = same

-- the text of a name is found among the code's rows
text_in-rows : (name : List ℕ) (rows : List Row)
    → text_in (find (λ (row : Row). bytes_eq name row.name) rows) ≡ text_among name (map character_of rows)
text_in-rows name [] = refl
text_in-rows name (row ∷ others) = text_in-cond (bytes_eq name row.name) row _ _ (text_in-rows name others)

-- so it is found in the code's table
pub character_found : (name : List ℕ) → text_in (find (λ (row : Row). bytes_eq name row.name) ROWS) ≡ character name
character_found name = text_in-rows name ROWS ∙ ap (text_among name) table
