-- The row that comes next, with the lines of rules in front of it, as it is kept (Lesk, "Tbl": Format).
use Rattle.std.specs.Prelude.{◌≡◌, ℕ, zero, suc, ◌≤◌, ◌<◌, ◌==◌, Bool, true, List, [], ◌∷◌, get_or, length, map, vec_capacity, Option, None, Some, if◌then◌else◌}
use Rattle.std.specs.List.{AllByRecursion}
use Rattle.tbl_format.specs.Format.{FormatRow}
use Rattle.tbl_format.specs.FormatRows.{AreWithin}
use Rattle.tbl_format.specs.RowsServed.{row_at, no_keys}
use Rattle.tbl_format.specs.declared.format.FormatKey.{FormatKey}
use Rattle.tbl_kept.specs.Rows.{Command as CommandKept, KeptElement, KeptRows, Row as RowKept, Rule as RuleKept}
use Rattle.tbl_layout.specs.Entries.{Command, Element, Row, Rule}
use Rattle.tbl_layout.specs.declared.data_lines.RuleSign.{RuleSign}
use Rattle.tbl_layout.specs.Widths.{edge_bars, inner_bars}
use Rattle.tbl_lines.specs.CellsLeft.{Left, all_keys, bars_at_end}
use Rattle.tbl_lines.specs.LinesLeft.{Beside, Nothing, OfRow, overs, shown_bars}
use Rattle.tbl_lines.specs.PictureLeft.{behind_keys, below_of, through_rule, through_rules}
use Rattle.tbl_lines.specs.PictureLines.{OfKeys, RuleLine, Sheet, Whole}
use Rattle.tbl_lines.specs.RulePlaces.{HavePlaces, bars_behind}
use Rattle.tbl_tall.specs.Bands.{BandStands, BandHasRoom, KeptBand, ShowBars, kept_band, keys_left, wholes_left}
use Rattle.tbl_line_cells.specs.KeptCells.{AllLeft}
use Rattle.tbl_line_cells.specs.LinesDrawn.{KeptLine, LineHasRoom, kept_line}
use Rattle.tbl_line_cells.specs.declared.cells.CellLeft.{CellLeft}
use Rattle.tbl_tall.specs.declared.tall_row.TallRow.TheInside.{Inside}

-- how many bars it has behind its last cell, its cells and those of the row above, how many lines it has still, and whether none of them
-- was given, the lines of rules in front of it, the line that is laid, how many rows have ended, and for how many columns there is room
pub record KeptTall : Type 0 where
  pub last : ℕ
  pub cells : List CellLeft
  pub above : List CellLeft
  pub lines_left : ℕ
  pub is_first : Bool
  pub band : KeptBand
  pub line : KeptLine
  pub come : ℕ
  pub room : ℕ

-- of the elements of a picture, with the rules that its box adds: how many rules over it stand in front of the row that comes first, which
-- rows of rule keys do, and how many bars the row has behind its last cell; and its cells' keys
abbrev pub wholes_in_front : List Element → ℕ
wholes_in_front [] = 0
wholes_in_front (Row rules format fields ∷ elements) = 0
wholes_in_front (Rule sign ∷ elements) = suc (wholes_in_front elements)
wholes_in_front (Command bytes ∷ elements) = wholes_in_front elements

abbrev pub keys_in_front : List Element → List FormatRow
keys_in_front [] = []
keys_in_front (Row rules format fields ∷ elements) = rules
keys_in_front (Rule sign ∷ elements) = keys_in_front elements
keys_in_front (Command bytes ∷ elements) = keys_in_front elements

abbrev pub next_format : List Element → FormatRow
next_format [] = no_keys
next_format (Row rules format fields ∷ elements) = format
next_format (Rule sign ∷ elements) = next_format elements
next_format (Command bytes ∷ elements) = next_format elements

-- its first line, as the lines of rules in front of it have it below them: nothing, where no row comes
abbrev pub row_below : ℕ → List Left → List Element → Beside
row_below columns cells [] = Nothing
row_below columns cells (Row rules format fields ∷ elements) = OfRow (through_rules (length rules) cells) (bars_at_end columns format)
row_below columns cells (Rule sign ∷ elements) = row_below columns (map through_rule cells) elements
row_below columns cells (Command bytes ∷ elements) = row_below columns cells elements

-- how many lines it has
abbrev pub next_height : List ℕ → List Element → ℕ
next_height heights [] = 0
next_height heights (Row rules format fields ∷ elements) = get_or heights 0 0
next_height heights (Rule sign ∷ elements) = next_height heights elements
next_height heights (Command bytes ∷ elements) = next_height heights elements

-- the cells that are left have the bars and the columns of these keys
pub record HaveKeys (cells : List Left) (keys : List FormatKey) : Type 0 where
  pub bars : map (λ (c : Left). c.key.bars) cells ≡ map (λ (k : FormatKey). k.bars) keys
  pub ends : map (λ (c : Left). c.key.end) cells ≡ map (λ (k : FormatKey). k.end) keys

-- the most bars that any row has at a boundary of a picture that is boxed so: at the left edge, and behind a column
abbrev pub places_at : Sheet → ℕ → ℕ
places_at s zero = edge_bars s.bars.boxing s.bars.front
places_at s (suc column) =
    let most = bars_behind s.columns column in
    if suc column == length s.columns then edge_bars s.bars.boxing most else inner_bars s.bars.boxing most

-- a line shows no more bars than have places
abbrev pub BarsFit : Sheet → Beside → Type 0
BarsFit s line = (boundary : ℕ) → boundary ≤ length s.columns
    → shown_bars s.bars.boxing (length s.columns) line boundary ≤ places_at s boundary

-- the row that comes first of elements of a picture, with these heights, comes next: its cells are left so, behind a line above
pub record Comes (bytes : List ℕ) (formats : List FormatRow) (s : Sheet) (t : KeptTall) (heights : List ℕ) (cells : List Left) (above : Beside)
    (elements : List Element) : Type 0 where
  pub left : AllLeft bytes t.cells cells
  pub keys : HaveKeys cells (all_keys (length s.columns) (next_format elements))
  pub band : BandStands formats s.bars (length s.columns) t.band (overs 0 cells s.columns) above (row_below (length s.columns) cells elements)
  pub wholes : wholes_left t.band ≡ wholes_in_front elements
  pub rules : keys_left formats t.band ≡ keys_in_front elements
  pub height : t.lines_left ≡ next_height heights elements
  pub last : t.last ≡ bars_at_end (length s.columns) (next_format elements)
  pub fit : BarsFit s above
  pub within : AreWithin (length s.columns) (next_format elements).keys
  pub some : 0 < length s.columns
  pub room : length s.columns ≤ t.room

-- the first of some elements is a line of rules, behind which others come
pub data RuleComes : List Element → RuleLine → List Element → Type 0 where
  WholeComes : {sign : _} {elements : List Element} → RuleComes (Rule sign ∷ elements) (Whole sign) elements
  KeysCome : {format row : FormatRow} {rules : List FormatRow} {fields : _} {elements : List Element}
      → RuleComes (Row (format ∷ rules) row fields ∷ elements) (OfKeys format) (Row rules row fields ∷ elements)

-- the line below such a line, in front of a row whose cells are left so in front of it
abbrev pub below_rule : Sheet → RuleLine → List Left → List Element → Beside
below_rule s (Whole sign) cells elements = below_of s (map through_rule cells) elements
below_rule s (OfKeys format) cells [] = Nothing
below_rule s (OfKeys format) cells (Row rules row fields ∷ elements) =
    behind_keys s cells rules (OfRow (through_rules (length rules) (map through_rule cells)) (bars_at_end (length s.columns) row))
below_rule s (OfKeys format) cells (Rule sign ∷ elements) = Nothing
below_rule s (OfKeys format) cells (Command bytes ∷ elements) = Nothing

-- whether it is one over the whole picture, with its sign, is told
abbrev pub SignIs : Option RuleSign → RuleLine → Type 0
SignIs (Some sign) (Whole other) = sign ≡ other
SignIs (Some sign) (OfKeys format) = ⊥
SignIs None (Whole sign) = ⊥
SignIs None (OfKeys format) = Unit {0}

-- a line of rules comes, for which there are places
pub record RuleIsNext (bytes : List ℕ) (formats : List FormatRow) (t : KeptTall) : Type 0 where
  pub s : Sheet
  pub heights : List ℕ
  pub cells : List Left
  pub above : Beside
  pub elements : List Element
  pub line : RuleLine
  pub rest : List Element
  pub comes : Comes bytes formats s t heights cells above elements
  pub rule : RuleComes elements line rest
  pub places : HavePlaces formats s

-- a row whose cells are left so, with so many bars behind the last, and has so many lines still; in front of its first line the bars of
-- that are kept
pub record RowStands (bytes : List ℕ) (s : Sheet) (t : KeptTall) (format : FormatRow) (cells : List Left) (lines : ℕ) : Type 0 where
  pub left : AllLeft bytes t.cells cells
  pub keys : HaveKeys cells (all_keys (length s.columns) format)
  pub height : t.lines_left ≡ lines
  pub last : t.last ≡ bars_at_end (length s.columns) format
  pub within : AreWithin (length s.columns) format.keys
  pub some : 0 < length s.columns
  pub room : length s.columns ≤ t.room
  pub first : t.is_first ≡ true
      → ShowBars s.bars.boxing (length s.columns) t.band.below (OfRow cells (bars_at_end (length s.columns) format))

-- a line of it comes
pub record LineIsNext (bytes : List ℕ) (t : KeptTall) : Type 0 where
  pub s : Sheet
  pub format : FormatRow
  pub cells : List Left
  pub more : ℕ
  pub stands : RowStands bytes s t format cells (suc more)

-- behind a row: what is left of its cells, and the line above, whose bars are kept
pub record RowEnded (bytes : List ℕ) (s : Sheet) (t : KeptTall) (cells : List Left) (above : Beside) : Type 0 where
  pub left : AllLeft bytes t.cells cells
  pub shown : ShowBars s.bars.boxing (length s.columns) t.band.above above
  pub fit : BarsFit s above

-- a row of the formats serves a row, whose cells have no more columns than there are, behind that many in front of it
pub record RowLies (formats : List FormatRow) (columns keys rules : ℕ) : Type 0 where
  pub serves : keys < length formats
  pub in_front : rules ≤ keys
  pub cells : AreWithin columns (row_at formats keys).keys

abbrev pub ElementLies : List FormatRow → ℕ → KeptElement → Type 0
ElementLies formats columns (RowKept keys rules height entries) = RowLies formats columns keys rules
ElementLies formats columns (RuleKept sign) = Unit {0}
ElementLies formats columns (CommandKept from to) = Unit {0}

abbrev pub RowsLie : List FormatRow → KeptRows → Type 0
RowsLie formats k = AllByRecursion (ElementLies formats (length k.columns)) k.elements

abbrev pub kept_by : Inside → KeptTall
kept_by a = record {
  last = a.last_bars;
  cells = a.cells.items;
  above = a.above.items;
  lines_left = a.lines_left;
  is_first = a.is_first;
  band = kept_band a.band;
  line = kept_line a.line;
  come = a.come;
  room = a.room;
}

-- room is reserved for as many columns, and no cell has come over more rows than have ended, nor one of the row above over as many
pub record IsSound (a : Inside) : Type 0 where
  pub few : a.room < 4294967296
  pub cells : a.room ≤ vec_capacity a.cells
  pub above : a.room ≤ vec_capacity a.above
  pub band : BandHasRoom a.band a.room
  pub line : LineHasRoom a.room a.line
  pub come : AllByRecursion (λ (c : CellLeft). c.rows ≤ a.come) a.cells.items
  pub come_above : AllByRecursion (λ (c : CellLeft). c.rows < a.come) a.above.items
