-- The columns of the cells of a row that go on, one by one (Lesk, "Tbl": Formatting).
use Rattle.std.specs.Prelude.{ℕ, suc, nat_lt, ◌-◌, List, [], ◌∷◌, ◌++◌, replicate, Option, None, Some, if◌then◌else◌}
use Rattle.tbl_line_cells.specs.declared.cells.CellLeft.{CellLeft}

-- the number of a cell, if it goes on
abbrev pub owner_of : ℕ → CellLeft → Option ℕ
owner_of at c = if nat_lt 0 c.rows then Some at else None

-- for each column the number of its cell, if that goes on: from a cell with a number on, which begins behind so many columns
abbrev pub owners : ℕ → ℕ → List CellLeft → List (Option ℕ)
owners at from [] = []
owners at from (c ∷ cells) = replicate (c.key.end - from) (owner_of at c) ++ owners (suc at) c.key.end cells
