-- Names (manual, section 7.1): here of 1 to 12 bytes.
use Rattle.std.specs.Prelude.{◌≡◌, ℕ, ◌+◌, ◌*◌, ◌<◌, ◌&&◌, List, [], ◌∷◌, length, nat_le, Option, Some, None, if◌then◌else◌}

-- the name of these bytes, if it is one
abbrev pub name_of : List ℕ → Option (List ℕ)
name_of bytes = if nat_le 1 (length bytes) && nat_le (length bytes) 12 then Some bytes else None

-- a number is the code of a name: of one or two bytes its own, of more 0
abbrev pub IsCode : ℕ → List ℕ → Type 0
IsCode code [] = code ≡ 0
IsCode code (first ∷ []) = (code ≡ first + 65536) × (first < 256)
IsCode code (first ∷ second ∷ []) = (code ≡ first + 256 * second + 131072) × (first < 256) × (second < 256)
IsCode code (first ∷ second ∷ third ∷ others) = code ≡ 0
