-- A line of rules through which no cell goes, and what stands beside it, by both descriptions of a picture (Lesk, "Tbl": Formatting).
use Rattle.std.specs.Prelude.{◌≡◌, ◌<◌, ℕ, suc, false, List}
use Rattle.std.specs.List.{AllByRecursion}
use Rattle.tbl_options.specs.declared.options.Boxing.{Boxing}
use Rattle.tbl_lines.specs.CellsLeft.{Left, goes_on}
use Rattle.tbl_lines.specs.LinesLeft.{Beside, shown_bars}
use Rattle.tbl_lines.specs.PictureLines.{Neighbour, shown_at_edge, shown_behind}

-- no cell goes on from the row above
abbrev pub NoneGoOn : List Left → Type 0
NoneGoOn cells = AllByRecursion (λ c. goes_on c ≡ false) cells

-- a line beside shows as many bars by both, in a table of so many columns: at its edges, and behind each column but the last
pub record ShownAlike (boxing : Boxing) (count : ℕ) (beside : Beside) (neighbour : Neighbour) : Type 0 where
  pub left : shown_bars boxing count beside 0 ≡ shown_at_edge boxing neighbour 0
  pub right : shown_bars boxing count beside count ≡ shown_at_edge boxing neighbour count
  pub inner : (column : ℕ) → suc column < count → shown_bars boxing count beside (suc column) ≡ shown_behind boxing neighbour column
