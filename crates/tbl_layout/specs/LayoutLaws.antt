-- What holds of where columns and bars stand, by no more than their places and widths (Lesk, "Tbl": Options, Format).
use Rattle.std.specs.Prelude.{◌≡◌, ℕ, ◌+◌, ◌<◌, ◌≤◌, true, false, List, [], ◌∷◌, map, ⊤}
use Rattle.tbl_format.specs.declared.format.Asked.{Asked}
use Rattle.tbl_options.specs.declared.options.Boxing.{Boxing}
use Rattle.tbl_layout.specs.Columns.{Laid, bar_place, gaps, laid_by, total, width_of_all}
use Rattle.tbl_layout.specs.Widths.{edge_bars, inner_bars, least_separation, left_edge, right_edge, separation}
use Rattle.tbl_layout.specs.declared.bars.Bars.{Bars}
use Rattle.tbl_layout.specs.declared.columns.Column.{Column}

-- with `expand` a picture that isn't wider than the line is as wide as the line, if it has a separation; any other is as wide as its
-- columns, their separations and its edges
pub record IsAsWide (bars : Bars) (line_length : ℕ) (asked : List Asked) (columns : List Column) : Type 0 where
  pub expanded : 0 < total (gaps bars asked) → width_of_all bars columns asked ≤ line_length
      → (laid_by bars true line_length asked columns).width ≡ line_length
  pub wider : line_length ≤ width_of_all bars columns asked
      → (laid_by bars true line_length asked columns).width ≡ width_of_all bars columns asked
  pub without_gap : total (gaps bars asked) ≡ 0
      → (laid_by bars true line_length asked columns).width ≡ width_of_all bars columns asked
  pub not_expanded : (laid_by bars false line_length asked columns).width ≡ width_of_all bars columns asked

-- each next column begins behind the one before it, by its separation at least
abbrev pub AreApart : Bars → List Asked → List Column → Type 0
AreApart bars [] columns = ⊤
AreApart bars (a ∷ asked) [] = ⊤
AreApart bars (a ∷ asked) (c ∷ []) = ⊤
AreApart bars (a ∷ asked) (c ∷ d ∷ columns) =
    (c.start + c.width + separation bars a ≤ d.start) × AreApart bars asked (d ∷ columns)

-- where the first column begins, and where the last one ends: at this place, where there is none
abbrev pub first_start : ℕ → List Column → ℕ
first_start place [] = place
first_start place (c ∷ columns) = c.start

abbrev pub last_end : ℕ → List Column → ℕ
last_end place [] = place
last_end place (c ∷ columns) = last_end (c.start + c.width) columns

-- laid columns are as wide as they were, and stand in order between the edges of the picture
pub record AreInOrder (bars : Bars) (asked : List Asked) (columns : List Column) (laid : Laid) : Type 0 where
  pub widths : map (λ c. c.width) laid.columns ≡ map (λ c. c.width) columns
  pub first : first_start (left_edge bars) laid.columns ≡ left_edge bars
  pub apart : AreApart bars asked laid.columns
  pub last : last_end (left_edge bars) laid.columns + right_edge bars asked ≡ laid.width

-- each next column begins behind the one before it, and behind as many places as that has bars behind it in a picture that is boxed so
abbrev pub AreBehind : Boxing → List Column → Type 0
AreBehind boxing [] = ⊤
AreBehind boxing (c ∷ []) = ⊤
AreBehind boxing (c ∷ d ∷ columns) = (c.start + c.width + inner_bars boxing c.bars ≤ d.start) × AreBehind boxing (d ∷ columns)

-- how many bars the last of some columns has behind it
abbrev pub last_behind : List Column → ℕ
last_behind [] = 0
last_behind (c ∷ []) = c.bars
last_behind (c ∷ d ∷ columns) = last_behind (d ∷ columns)

-- columns stand in order in a picture that is so wide, and the bars of its edges in front of them and behind them
pub record StandInOrder (bars : Bars) (width : ℕ) (columns : List Column) : Type 0 where
  pub left : edge_bars bars.boxing bars.front ≤ first_start (edge_bars bars.boxing bars.front) columns
  pub between : AreBehind bars.boxing columns
  pub right : last_end 0 columns + edge_bars bars.boxing (last_behind columns) ≤ width

-- so many bars between two columns have a blank at each side
pub record HaveBlanks (count : ℕ) (c d : Column) : Type 0 where
  pub in_front : c.start + c.width + 1 ≤ bar_place count c d
  pub behind : bar_place count c d + count + 1 ≤ d.start

-- bars between two columns that are apart: there is room for each count of them that is asked for, and one bar stands at one of the two
-- places of two
pub record HaveRoom (bars : Bars) (a : Asked) (c d : Column) : Type 0 where
  pub blanks : (count : ℕ) → 0 < count → c.start + c.width + least_separation count ≤ d.start → HaveBlanks count c d
  pub asked : c.start + c.width + separation bars a ≤ d.start → (count : ℕ) → 0 < count → count ≤ inner_bars bars.boxing a.bars
      → HaveBlanks count c d
  pub not_in_front : bar_place 2 c d ≤ bar_place 1 c d
  pub not_behind : bar_place 1 c d ≤ bar_place 2 c d + 1
