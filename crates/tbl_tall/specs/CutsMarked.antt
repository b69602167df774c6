-- Cells of which something is cut on a line, as flags tell behind which columns they end (Lesk, "Tbl": Format, the key letter `z`).
use Rattle.std.specs.Prelude.{◌≡◌, ℕ, zero, suc, ◌-◌, ◌&&◌, ◌||◌, Bool, false, List, [], ◌∷◌, get_or, map, nat_lt}
use Rattle.tbl_lines.specs.CellsLeft.{Left}

-- whether the flag of cells that end behind so many columns is set
abbrev pub flag_at : List Bool → ℕ → Bool
flag_at flags end = nat_lt 0 end && get_or flags (end - 1) false

-- something is cut of a cell, if its flag is set; and the first ones of some cells are told so
abbrev pub marked : List Bool → Left → Left
marked flags l = record l { is_cut = l.is_cut || flag_at flags l.key.end }

abbrev pub marked_at : List Bool → ℕ → List Left → List Left
marked_at flags zero lefts = lefts
marked_at flags (suc at) [] = []
marked_at flags (suc at) (l ∷ lefts) = marked flags l ∷ marked_at flags at lefts

-- cells but for what was cut of them; and cells that are alike then
abbrev pub bare : Left → Left
bare l = record l { is_cut = false }

abbrev pub AreAlike : List Left → List Left → Type 0
AreAlike xs ys = map bare xs ≡ map bare ys
