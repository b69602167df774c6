-- Lists and their parts.
use Rattle.std.specs.Prelude.{◌≡◌, ℕ, ◌≤◌, List, [], ◌∷◌, ◌++◌}
use Rattle.std.specs.List.{slice_range}

-- one list is a beginning of another
pub record IsBeginning (xs ys : List ℕ) : Type 0 where
  pub rest : List ℕ
  pub split : ys ≡ xs ++ rest

-- of parts that lie one behind another from a place on, by where each ends: where the last of them ends, or that place if there is none
abbrev pub last_end : ℕ → List ℕ → ℕ
last_end from [] = from
last_end from (end ∷ ends) = last_end end ends

-- the parts of a list that end there, the first of which begins at a place
abbrev pub parts_ending : {A : Type 0} → List A → ℕ → List ℕ → List (List A)
parts_ending items from [] = []
parts_ending items from (end ∷ ends) = slice_range items from end ∷ parts_ending items end ends

-- from that place on no end is before the one in front of it, and they are within so many items
abbrev pub EndInOrder : ℕ → ℕ → List ℕ → Type 0
EndInOrder len from [] = from ≤ len
EndInOrder len from (end ∷ ends) = (from ≤ end) × EndInOrder len end ends
