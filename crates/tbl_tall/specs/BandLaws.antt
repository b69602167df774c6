-- A line of rules that comes next, by the elements of the picture, and among the lines that are kept (Lesk, "Tbl": Formatting).
use Rattle.std.specs.List.{AllByRecursion}
use Rattle.std.specs.Prelude.{◌≡◌, ℕ, ◌+◌, ◌-◌, ◌<◌, List, [], ◌∷◌, drop, length, take}
use Rattle.tbl_format.specs.Cells.{AreCells}
use Rattle.tbl_format.specs.Format.{FormatRow, columns_of_keys}
use Rattle.tbl_layout.specs.Entries.{Command, Element, Row, Rule}
use Rattle.tbl_lines.specs.CellsLeft.{Left}
use Rattle.tbl_lines.specs.LinesLeft.{Over, shown_bars}
use Rattle.tbl_lines.specs.PictureLines.{OfKeys, RuleLine, Sheet, Whole}
use Rattle.tbl_lines.specs.RulePlaces.{HasPlaces}
use Rattle.tbl_tall.specs.Bands.{AlikeLines, KeptBand, band_line, lines_behind}
use Rattle.tbl_tall.specs.TallRows.{below_rule, keys_in_front, row_below, wholes_in_front}

-- a line of rules comes next: it is one of those that are kept, those behind it are the others, and the line below it shows the same bars as
-- they do
pub record ComesNext (formats : List FormatRow) (s : Sheet) (b : KeptBand) (all : List Over) (cells : List Left) (line : RuleLine)
    (elements rest : List Element) : Type 0 where
  pub more : b.at < b.wholes + b.count
  pub alike : AlikeLines line (band_line formats b b.at)
  pub wholes : b.wholes - (b.at + 1) ≡ wholes_in_front rest
  pub keys : take (b.count - (b.at + 1 - b.wholes)) (drop (b.first + (b.at + 1 - b.wholes)) formats) ≡ keys_in_front rest
  pub below : (boundary : ℕ) → shown_bars s.bars.boxing (length s.columns) (below_rule s line cells rest) boundary
      ≡ shown_bars s.bars.boxing (length s.columns) (lines_behind formats b all (b.at + 1) (row_below (length s.columns) cells elements)) boundary

-- the bars that a line of rules has itself: of rules over the whole picture none, and of a row of keys, each of one column, they have places
abbrev pub HasLinePlaces : Sheet → RuleLine → Type 0
HasLinePlaces s (Whole sign) = Unit {0}
HasLinePlaces s (OfKeys format) = HasPlaces s.bars.front s.columns format × AreCells 0 format.keys × (columns_of_keys format.keys ≡ length format.keys)

-- of elements of a picture, the row that comes first has places for its bars, and so have the rows of rule keys in front of it
abbrev pub NextPlaces : Sheet → List Element → Type 0
NextPlaces s [] = Unit {0}
NextPlaces s (Row rules format fields ∷ elements) =
    AllByRecursion (λ (f : FormatRow). HasLinePlaces s (OfKeys f)) rules × HasPlaces s.bars.front s.columns format
NextPlaces s (Rule sign ∷ elements) = NextPlaces s elements
NextPlaces s (Command bytes ∷ elements) = NextPlaces s elements
