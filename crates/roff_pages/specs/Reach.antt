-- How far a happening's boxes reach, and which traps they meet.
use Rattle.std.specs.Prelude.{◌≡◌, ℕ, ◌+◌, ◌<◌, ◌≤◌, List, [], ◌∷◌, length, Option, Some, None}
use Rattle.page_model.specs.Lines.{Finished}
use Rattle.page_model.specs.Layout.{Box, Lined, Empty, Layout}
use Rattle.page_model.specs.Happenings.{Happening, Places}
use Rattle.page_model.specs.Stops.{target}
use Rattle.page_model.specs.Puts.{appended}

-- the places before and behind a happening
abbrev pub place_before : Happening → Layout → ℕ
place_before x L = (target x L).place

abbrev pub place_behind : Happening → Layout → ℕ
place_behind x L = place_before x L + length (appended x L)

-- a trap that is passed lies where the boxes end
abbrev pub IsMetAtEnd : ℕ → ℕ → Option ℕ → Type 0
IsMetAtEnd from to None = Unit {0}
IsMetAtEnd from to (Some n) = from < n → n ≤ to → n ≡ to

-- the texts among boxes
abbrev pub texts : List Box → List (List ℕ)
texts [] = []
texts (Lined text ∷ boxes) = text ∷ texts boxes
texts (Empty ∷ boxes) = texts boxes

-- nothing of what follows a line is cut: all of its blank lines fit before the next stop
abbrev pub FitsBefore : ℕ → ℕ → Option ℕ → Type 0
FitsBefore place after None = Unit {0}
FitsBefore place after (Some stop) = place + 1 + after ≤ stop

abbrev pub IsUncut : Finished → Layout → Type 0
IsUncut line L = FitsBefore (target (Places line) L).place line.after (target (Places line) L).stop
