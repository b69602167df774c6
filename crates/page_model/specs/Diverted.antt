-- A printed text as a diversion keeps it (manual, section 7.3).
use Rattle.std.specs.Prelude.{ℕ, List, [], ◌∷◌, ◌++◌, codes, if◌then◌else◌, ◌==◌}

-- a byte as reading gives it back: a blank that isn't spread, a backslash that begins no escape, or itself
abbrev pub escaped_byte : ℕ → List ℕ
escaped_byte b = if b == 32 then codes "\\ " else if b == 92 then codes "\\e" else b ∷ []

-- the same of a text
abbrev pub escaped : List ℕ → List ℕ
escaped [] = []
escaped (b ∷ text) = escaped_byte b ++ escaped text

-- a printed text as a line of the input, which begins no control line
abbrev pub diverted : List ℕ → List ℕ
diverted text = codes "\\&" ++ (escaped text ++ 10 ∷ [])
