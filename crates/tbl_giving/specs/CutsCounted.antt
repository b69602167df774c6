-- In how many entries of a picture something is cut from a line of it on (Lesk, "Tbl": Format, the key letter `z`).
use Rattle.std.specs.Prelude.{◌≡◌, ℕ, zero, suc, ◌+◌, ◌-◌, ◌<◌, ◌≤◌, ◌^◌, ◌++◌, Bool, true, List, [], ◌∷◌, drop, length, Option, None, Some}
use Rattle.std.specs.List.{AllByRecursion}
use Rattle.tbl_format.specs.Format.{FormatRow}
use Rattle.tbl_format.specs.RowsServed.{row_at}
use Rattle.tbl_kept.specs.RowsLaying.{element_at}
use Rattle.tbl_kept.specs.Rows.{Command as CommandKept, KeptElement, KeptRows, Row as RowKept, RowsLaid, Rule as RuleKept, elements_of, rows_in_front}
use Rattle.tbl_layout.specs.Entries.{Command, Content, Element, Row, Rule}
use Rattle.tbl_layout.specs.declared.data_lines.RuleSign.{RuleSign}
use Rattle.tbl_layout.specs.declared.data_lines.RuleSign.TheVariants.{Single}
use Rattle.tbl_layout.specs.declared.entry.Entry.{Entry}
use Rattle.tbl_lines.specs.CellsLeft.{Left, bars_at_end}
use Rattle.tbl_lines.specs.CutEntries.{behind_row, cut_entries, cut_from, cut_in_row}
use Rattle.tbl_lines.specs.LinesLeft.{Beside}
use Rattle.tbl_lines.specs.PictureLeft.{behind_lines}
use Rattle.tbl_lines.specs.PictureLines.{OfKeys, Sheet, boxed_from, frame_rules}
use Rattle.tbl_lines.specs.RowsWalked.{AreNarrow}
use Rattle.tbl_lines.specs.RulePlaces.{HavePlaces}
use Rattle.tbl_tall.specs.BandLaws.{HasLinePlaces, NextPlaces}
use Rattle.tbl_tall.specs.CutsMarked.{AreAlike}
use Rattle.tbl_tall.specs.LinesOver.{heights_kept}
use Rattle.tbl_tall.specs.TallRows.{Comes, KeptTall, RowStands, RowsLie}

-- a row comes next, and in so many entries something is cut from there on that lost nothing before
pub record CutsCome (bytes : List ℕ) (formats : List FormatRow) (s : Sheet) (t : KeptTall) (heights : List ℕ) (elements : List Element)
    (count : ℕ) : Type 0 where
  pub cells : List Left
  pub above : Beside
  pub comes : Comes bytes formats s t heights cells above elements
  pub many : cut_from s heights cells above elements ≡ count

-- of those so many were counted, and these elements come behind that
pub record CutsGo (counted : ℕ) (bytes : List ℕ) (formats : List FormatRow) (s : Sheet) (t : KeptTall) (heights : List ℕ) (elements : List Element)
    (count : ℕ) : Type 0 where
  pub more : ℕ
  pub all : count ≡ counted + more
  pub come : CutsCome bytes formats s t heights elements more

-- of the lines that a row with these cells had some were given, and so many entries counted on them; one is still to give
pub record LinesCounted (counted : ℕ) (bytes : List ℕ) (s : Sheet) (t : KeptTall) (format : FormatRow) (cells : List Left) (lines : ℕ) : Type 0 where
  pub own : List Left
  pub more : ℕ
  pub stands : RowStands bytes s t format own (suc more)
  pub many : cut_in_row s (bars_at_end (length s.columns) format) lines cells
      ≡ counted + cut_in_row s (bars_at_end (length s.columns) format) (suc more) own
  pub behind : behind_row s (bars_at_end (length s.columns) format) lines cells
      ≡ behind_row s (bars_at_end (length s.columns) format) (suc more) own
  pub alike : AreAlike (behind_lines (lines - 1) cells) (behind_lines more own)

-- lines of rules in front of a row that are no elements of the table: the one that a box adds, and rows of rule keys
abbrev pub FrontOf : List Element → List Element → Type 0
FrontOf [] row = ⊥
FrontOf (Row rules format fields ∷ elements) row = row ≡ Row [] format fields ∷ elements
FrontOf (Rule sign ∷ elements) row = (sign ≡ Single) × FrontOf elements row
FrontOf (Command bytes ∷ elements) row = ⊥

-- how the first of them is drawn, where so many rules over the whole picture are left
abbrev pub sign_by : ℕ → Option RuleSign
sign_by zero = None
sign_by (suc wholes) = Some Single

-- each row has a line; and each row of rule keys in front of one has places for its bars
abbrev pub IsHigh : KeptElement → Type 0
IsHigh (RowKept keys rules height entries) = 0 < height
IsHigh (RuleKept sign) = Unit {0}
IsHigh (CommandKept from to) = Unit {0}

abbrev pub RulesPlaced : List FormatRow → Sheet → KeptElement → Type 0
RulesPlaced formats s (RowKept keys rules height entries) =
    AllByRecursion (λ (f : FormatRow). HasLinePlaces s (OfKeys f)) (rows_in_front formats keys rules)
RulesPlaced formats s (RuleKept sign) = Unit {0}
RulesPlaced formats s (CommandKept from to) = Unit {0}

-- the rows of a table are laid out for a picture, with room for it
pub record CanCount (bytes : List ℕ) (formats : List FormatRow) (s : Sheet) (rows : KeptRows) (room : ℕ) : Type 0 where
  pub laid : RowsLaid bytes formats s.bars.boxing.is_inside rows
  pub lie : RowsLie formats rows
  pub high : AllByRecursion IsHigh rows.elements
  pub ruled : AllByRecursion (RulesPlaced formats s) rows.elements
  pub places : HavePlaces formats s
  pub columns : s.columns ≡ rows.columns
  pub narrow : AreNarrow s.columns
  pub wide : s.width < 4294967296
  pub some : 0 < length rows.columns
  pub few : length rows.columns ≤ room
  pub small : cut_entries s (elements_of bytes formats rows.elements) < 2 ^ 64

-- in front of an element, behind a row or not, so many entries are still to count
pub record ElementsCount (bytes : List ℕ) (formats : List FormatRow) (s : Sheet) (rows : KeptRows) (t : KeptTall) (at count : ℕ) : Type 0 where
  pub is_below : Bool
  pub come : CutsCome bytes formats s t (heights_kept (drop at rows.elements))
      (boxed_from s.bars.boxing is_below (elements_of bytes formats (drop at rows.elements))) count

-- of those so many were counted in front of an element
pub record ElementGoes (counted : ℕ) (bytes : List ℕ) (formats : List FormatRow) (s : Sheet) (rows : KeptRows) (t : KeptTall) (at count : ℕ)
    : Type 0 where
  pub more : ℕ
  pub all : count ≡ counted + more
  pub rest : ElementsCount bytes formats s rows t at more

-- some number of entries is, which is no great one
pub record SomeCount (bytes : List ℕ) (formats : List FormatRow) (s : Sheet) (rows : KeptRows) (t : KeptTall) (at : ℕ) : Type 0 where
  pub count : ℕ
  pub rest : ElementsCount bytes formats s rows t at count
  pub small : count < 2 ^ 64

-- a line of rules that a box adds comes, if it adds one; or such lines in front of a row
pub record FrameComes (bytes : List ℕ) (formats : List FormatRow) (s : Sheet) (t : KeptTall) : Type 0 where
  pub heights : List ℕ
  pub rest : List Element
  pub count : ℕ
  pub come : CutsCome bytes formats s t heights (frame_rules s.bars.boxing ++ rest) count
  pub places : NextPlaces s (frame_rules s.bars.boxing ++ rest)

pub record FrontComes (bytes : List ℕ) (formats : List FormatRow) (s : Sheet) (t : KeptTall) : Type 0 where
  pub heights : List ℕ
  pub elements : List Element
  pub row : List Element
  pub count : ℕ
  pub front : FrontOf elements row
  pub come : CutsCome bytes formats s t heights elements count
  pub places : NextPlaces s elements
  pub small : count < 2 ^ 64

-- of such lines some were given, and so many entries counted on them
pub record FrontGoes (counted : ℕ) (bytes : List ℕ) (formats : List FormatRow) (s : Sheet) (t : KeptTall) (heights : List ℕ) (row : List Element)
    (count : ℕ) : Type 0 where
  pub elements : List Element
  pub more : ℕ
  pub front : FrontOf elements row
  pub all : count ≡ counted + more
  pub come : CutsCome bytes formats s t heights elements more
  pub places : NextPlaces s elements

-- a row of the table comes, in front of which nothing more stands
abbrev pub RowOnly : List ℕ → List FormatRow → Sheet → KeptRows → KeptTall → ℕ → ℕ → List Content → ℕ → Type 0
RowOnly bytes formats s rows t at keys fields count =
    let rest = boxed_from s.bars.boxing true (elements_of bytes formats (drop (suc at) rows.elements)) in
    CutsCome bytes formats s t (heights_kept (drop at rows.elements)) (Row [] (row_at formats keys) fields ∷ rest) count

pub record RowComes (bytes : List ℕ) (formats : List FormatRow) (s : Sheet) (rows : KeptRows) (t : KeptTall) (at : ℕ) : Type 0 where
  pub keys : ℕ
  pub rules : ℕ
  pub height : ℕ
  pub entries : List Entry
  pub fields : List Content
  pub count : ℕ
  pub is : element_at rows.elements at ≡ RowKept keys rules height entries
  pub come : RowOnly bytes formats s rows t at keys fields count
  pub small : count < 2 ^ 64
