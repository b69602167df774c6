-- Lists that lie in one list, one after another, by where each ends.
use Rattle.std.specs.Prelude.{◌≡◌, ℕ, ◌≤◌, ◌<◌, List, [], ◌∷◌, length, take}

-- from that place on each end is further on than the one before it, and they are within so many items
abbrev pub EndWithin : ℕ → ℕ → List ℕ → Type 0
EndWithin len from [] = from ≤ len
EndWithin len from (end ∷ ends) = (from < end) × EndWithin len end ends

-- these are the first items of a list
abbrev pub IsFront : {A : Type 0} → List A → List A → Type 0
IsFront front all = take (length front) all ≡ front
