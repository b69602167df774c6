-- The lines of rules between two rows, as they are kept: how many bars stand above them and below (Lesk, "Tbl": Formatting).
use Rattle.std.specs.Prelude.{◌≡◌, ℕ, zero, suc, nat_lt, ◌+◌, ◌-◌, ◌≤◌, ◌<◌, ◌^◌, max, Bool, true, false, not, ◌==◌, List, drop, get_or, length, map, take, vec_capacity, Option, None, Some, is_some, if◌then◌else◌}
use Rattle.tbl_format.specs.Format.{FormatRow}
use Rattle.tbl_format.specs.RowsServed.{row_at}
use Rattle.tbl_format.specs.declared.format.FormatKey.{FormatKey}
use Rattle.tbl_layout.specs.declared.bars.Bars.{Bars}
use Rattle.tbl_layout.specs.declared.data_lines.RuleSign.{RuleSign}
use Rattle.tbl_layout.specs.declared.data_lines.RuleSign.TheVariants.{Single}
use Rattle.tbl_options.specs.declared.options.Boxing.{Boxing}
use Rattle.tbl_lines.specs.LinesLeft.{Beside, OfRules, Over, is_free, bars_met, is_within, over_at, rules_boundary, shown_bars}
use Rattle.tbl_lines.specs.PictureLines.{OfKeys, RuleLine, Whole}
use Rattle.tbl_tall.specs.declared.band.Band.{Band}
use Rattle.tbl_line_cells.specs.declared.cells.CellLeft.{CellLeft}

-- how many rules over the whole picture there are, and behind them rows of rule keys: the first among the rows of all formats, and how
-- many; how many of these lines were given; the cell of each column that goes through them, if one does; and bars at each boundary: of the
-- line above, and of the row below
pub record KeptBand : Type 0 where
  pub wholes : ℕ
  pub first : ℕ
  pub count : ℕ
  pub at : ℕ
  pub through : List (Option ℕ)
  pub above : List ℕ
  pub below : List ℕ

abbrev pub kept_band : Band → KeptBand
kept_band b = record {
  wholes = b.wholes;
  first = b.first;
  count = b.count;
  at = b.at;
  through = b.through.items;
  above = b.above.items;
  below = b.below.items;
}

-- room is reserved for as many columns
pub record BandHasRoom (b : Band) (columns : ℕ) : Type 0 where
  pub through : columns ≤ vec_capacity b.through
  pub above : columns + 1 ≤ vec_capacity b.above
  pub below : columns + 1 ≤ vec_capacity b.below
  pub counts : columns + 1 ≤ vec_capacity b.counts

-- one of so many rules over the whole picture, or of the rows of rule keys behind them: which sign a rule has is no matter here
abbrev pub line_among : List FormatRow → ℕ → ℕ → ℕ → RuleLine
line_among formats wholes first at = if nat_lt at wholes then Whole Single else OfKeys (row_at formats (first + (at - wholes)))

abbrev pub band_line : List FormatRow → KeptBand → ℕ → RuleLine
band_line formats b at = line_among formats b.wholes b.first at

-- the one that comes next, told how a rule over the whole picture is drawn, if it is one
abbrev pub line_given : List FormatRow → KeptBand → Option RuleSign → RuleLine
line_given formats b None = OfKeys (row_at formats (b.first + (b.at - b.wholes)))
line_given formats b (Some sign) = Whole sign

-- so many of them from one on, behind which a line stands, as they are seen from above
abbrev pub lines_among : List FormatRow → ℕ → ℕ → List Over → ℕ → ℕ → Beside → Beside
lines_among formats wholes first all at zero below = below
lines_among formats wholes first all at (suc left) below =
    OfRules (line_among formats wholes first at) all (lines_among formats wholes first all (suc at) left below)

abbrev pub lines_behind : List FormatRow → KeptBand → List Over → ℕ → Beside → Beside
lines_behind formats b all at below = lines_among formats b.wholes b.first all at (b.wholes + b.count - at) below

-- the rows of rule keys that are left to give, and how many rules over the whole picture
abbrev pub keys_left : List FormatRow → KeptBand → List FormatRow
keys_left formats b = take (b.count - (b.at - b.wholes)) (drop (b.first + (b.at - b.wholes)) formats)

abbrev pub wholes_left : KeptBand → ℕ
wholes_left b = b.wholes - b.at

-- a cell goes through a column, or none, and a boundary stands within one
abbrev pub is_open : List (Option ℕ) → ℕ → Bool
is_open through column = not (is_some (get_or through column None))

abbrev pub same_number : Option ℕ → Option ℕ → Bool
same_number None next = false
same_number (Some cell) None = false
same_number (Some cell) (Some next) = cell == next

abbrev pub is_cut : List (Option ℕ) → ℕ → Bool
is_cut through zero = false
is_cut through (suc column) = same_number (get_or through column None) (get_or through (suc column) None)

-- the cells that go through the lines are these
pub record GoThrough (through : List (Option ℕ)) (all : List Over) : Type 0 where
  pub free : (column : ℕ) → is_open through column ≡ is_free (over_at all column)
  pub within : (boundary : ℕ) → is_cut through boundary ≡ is_within (over_at all boundary)

-- the bars are those that a line shows, in a table of so many columns
pub record ShowBars (boxing : Boxing) (columns : ℕ) (bars : List ℕ) (line : Beside) : Type 0 where
  pub boundaries : length bars ≡ columns + 1
  pub shown : (boundary : ℕ) → boundary ≤ columns → get_or bars boundary 0 ≡ shown_bars boxing columns line boundary

-- what is kept of the lines fits together
pub record BandFits (formats : List FormatRow) (b : KeptBand) : Type 0 where
  pub some : 0 < length b.through
  pub few : length b.through < 2 ^ 32
  pub boundaries : length b.above ≡ length b.through + 1
  pub boundaries_below : length b.below ≡ length b.through + 1
  pub given : b.at ≤ b.wholes + b.count
  pub rows : b.first + b.count ≤ length formats
  pub places : b.first + b.count < 2 ^ 64
  pub small : b.wholes + b.count < 2 ^ 62

-- how many bars the lines from one on show at a boundary, above a line
abbrev pub rest_shown : List FormatRow → Boxing → ℕ → KeptBand → List Over → Beside → ℕ → ℕ → ℕ
rest_shown formats boxing columns b all below at boundary = shown_bars boxing columns (lines_behind formats b all at below) boundary

-- these lines stand below a line and above another one, in a table of so many columns, with cells that go through them so. The bars above
-- are those of the line above; where the line given last doesn't rule a boundary, also those below are among them
pub record BandStands (formats : List FormatRow) (bars : Bars) (columns : ℕ) (b : KeptBand) (all : List Over) (above below : Beside) : Type 0 where
  pub fits : BandFits formats b
  pub as_many : length b.through ≡ columns
  pub through : GoThrough b.through all
  pub below_shown : ShowBars bars.boxing columns b.below below
  pub met : (boundary : ℕ) → boundary ≤ columns
      → max (get_or b.above boundary 0) (rest_shown formats bars.boxing columns b all below b.at boundary)
      ≡ max (shown_bars bars.boxing columns above boundary) (rest_shown formats bars.boxing columns b all below b.at boundary)
  pub held : (boundary : ℕ) → boundary ≤ columns → 0 < b.at → b.at < b.wholes + b.count
      → rules_boundary columns (band_line formats b (b.at - 1)) all boundary ≡ false
      → rest_shown formats bars.boxing columns b all below b.at boundary ≤ get_or b.above boundary 0

-- how many bars a line of rules shows that was given, with those below it where it isn't ruled
abbrev pub passed_bars : Bars → ℕ → RuleLine → List Over → Beside → Beside → ℕ → ℕ
passed_bars bars columns line all above below boundary =
    if rules_boundary columns line all boundary then 0 else bars_met (record bars { has_any = true }) columns line all above below boundary

-- two lines of rules rule the same places, and have the same bars
pub data AlikeLines : RuleLine → RuleLine → Type 0 where
  Wholes : {sign other : RuleSign} → AlikeLines (Whole sign) (Whole other)
  Keys : {format : FormatRow} → AlikeLines (OfKeys format) (OfKeys format)

-- cells go through the same columns, and stand within the same boundaries
pub record AlikeOvers (all other : List Over) : Type 0 where
  pub free : (column : ℕ) → is_free (over_at all column) ≡ is_free (over_at other column)
  pub within : (boundary : ℕ) → is_within (over_at all boundary) ≡ is_within (over_at other boundary)

-- two lines show the same bars
abbrev pub ShowSame : Boxing → ℕ → Beside → Beside → Type 0
ShowSame boxing columns line other = (boundary : ℕ) → boundary ≤ columns
    → shown_bars boxing columns line boundary ≡ shown_bars boxing columns other boundary
