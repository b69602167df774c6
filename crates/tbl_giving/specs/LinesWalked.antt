-- A walk over the lines of a picture with cells of several rows: what is to come, and what a step does.
use Rattle.std.specs.Prelude.{◌≡◌, ℕ, suc, ◌+◌, ◌-◌, ◌*◌, ◌≤◌, ◌<◌, Bool, true, false, List, [], ◌∷◌, ◌++◌, drop, length, Option, if◌then◌else◌, ◌==◌}
use Rattle.std.specs.List.{AllByRecursion, slice_range}
use Rattle.tbl_format.specs.Format.{FormatRow}
use Rattle.tbl_format.specs.RowsServed.{row_at}
use Rattle.tbl_kept.specs.Rows.{Command, KeptElement, KeptRows, Row, RowsLaid, Rule, elements_of, fields_of, heights_of}
use Rattle.tbl_layout.specs.Entries.{Command as OneCommand, Element, Row as OneRow, Rule as OneRule}
use Rattle.tbl_layout.specs.declared.bars.Bars.{Bars}
use Rattle.tbl_layout.specs.declared.data_lines.RuleSign.{RuleSign}
use Rattle.tbl_layout.specs.declared.data_lines.RuleSign.TheVariants.{Single}
use Rattle.tbl_lines.specs.PictureLines.{RuleLine, Sheet, boxed, boxed_from, frame_rules, frame_sign}
use Rattle.tbl_lines.specs.RowsWalked.{AreNarrow}
use Rattle.tbl_lines.specs.RulePlaces.{HavePlaces}
use Rattle.tbl_options.specs.declared.options.Boxing.{Boxing}
use Rattle.tbl_pieces.specs.PieceQueue.{AddsFitting, KeptPieces}
use Rattle.tbl_giving.specs.PartsToCome.{ToCome, all_lines, behind_part, parts_in, with_parts}
use Rattle.tbl_picture.specs.Walks.{IsUnderWay, KeptWalk, WalkedRow, row_left}
use Rattle.tbl_giving.specs.declared.line_by_line.LineByLine.TheInside.{Inside}
use Rattle.tbl_giving.specs.declared.line_by_line.RuleAt.{RuleAt}
use Rattle.tbl_giving.specs.declared.line_by_line.RuleAt.TheVariants.{Element as OfElement, End as OfEnd, InFront, Top as OfTop}
use Rattle.tbl_giving.specs.declared.line_by_line.Place.{Place}
use Rattle.tbl_giving.specs.declared.line_by_line.Place.TheVariants.{AtElement, AtEnd, AtTop, OnRow, OnRule}
pub use Rattle.tbl_giving.specs.CutsCounted.{IsHigh, RulesPlaced}
use Rattle.tbl_tall.specs.Bands.{keys_left, wholes_left}
use Rattle.tbl_line_cells.specs.LinesDrawn.{Draws, laid_row}
use Rattle.tbl_tall.specs.TallRows.{Comes, KeptTall, RowStands, RowsLie, RuleComes, SignIs}
use Rattle.tbl_picture.specs.RulesWalked.{IsRowFirst}

-- how many elements were given, what comes next, the row that comes or is under way, the picture's bars, and how wide it is
pub record KeptLineByLine : Type 0 where
  pub element : ℕ
  pub place : Place
  pub tall : KeptTall
  pub bars : Bars
  pub width : ℕ

abbrev pub kept_by : Inside → KeptLineByLine
kept_by a = record { element = a.element; place = a.place; tall = a.tall; bars = a.bars; width = a.width }

abbrev pub sheet_by : KeptRows → KeptLineByLine → Sheet
sheet_by rows g = record { bars = g.bars; width = g.width; columns = rows.columns }

-- elements, with the rules that the box adds, where so many rules over the whole picture stand in front of the first row still, and these
-- rows of rule keys
abbrev pub boxed_now : Boxing → List ℕ → List FormatRow → ℕ → List FormatRow → List KeptElement → List Element
boxed_now boxing bytes formats wholes rules [] = frame_rules boxing
boxed_now boxing bytes formats wholes rules (Row keys others height entries ∷ elements) =
    (if wholes == 0 then [] else OneRule Single ∷ [])
    ++ OneRow rules (row_at formats keys) (fields_of bytes (row_at formats keys) entries) ∷ boxed_from boxing true (elements_of bytes formats elements)
boxed_now boxing bytes formats wholes rules (Rule sign ∷ elements) = OneRule sign ∷ boxed_now boxing bytes formats (wholes - 1) rules elements
boxed_now boxing bytes formats wholes rules (Command from to ∷ elements) =
    OneCommand (slice_range bytes from to) ∷ boxed_now boxing bytes formats wholes rules elements

-- and their rows' heights, where the first row has so many lines still
abbrev pub heights_now : ℕ → List KeptElement → List ℕ
heights_now lines [] = []
heights_now lines (Row keys rules height entries ∷ elements) = lines ∷ heights_of elements
heights_now lines (Rule sign ∷ elements) = heights_now lines elements
heights_now lines (Command from to ∷ elements) = heights_now lines elements

-- with the rule above everything
abbrev pub boxed_at_top : Boxing → List ℕ → List FormatRow → ℕ → List FormatRow → List KeptElement → List Element
boxed_at_top boxing bytes formats wholes rules elements =
    OneRule (frame_sign boxing.bars) ∷ boxed_now boxing bytes formats (wholes - 1) rules elements

-- by what comes next
abbrev pub boxed_on_rule : RuleAt → Boxing → List ℕ → List FormatRow → ℕ → List FormatRow → List KeptElement → List Element
boxed_on_rule OfTop boxing bytes formats wholes rules elements = boxed_at_top boxing bytes formats wholes rules elements
boxed_on_rule OfElement boxing bytes formats wholes rules elements = boxed_now boxing bytes formats wholes rules elements
boxed_on_rule InFront boxing bytes formats wholes rules elements = boxed_now boxing bytes formats wholes rules elements
boxed_on_rule OfEnd boxing bytes formats wholes rules elements = boxed_now boxing bytes formats wholes rules elements

abbrev pub boxed_by : Place → Boxing → List ℕ → List FormatRow → ℕ → List FormatRow → List KeptElement → List Element
boxed_by AtTop boxing bytes formats wholes rules elements = boxed_at_top boxing bytes formats wholes rules elements
boxed_by AtElement boxing bytes formats wholes rules elements = boxed_now boxing bytes formats wholes rules elements
boxed_by (OnRule at) boxing bytes formats wholes rules elements = boxed_on_rule at boxing bytes formats wholes rules elements
boxed_by OnRow boxing bytes formats wholes rules elements = boxed_now boxing bytes formats 0 [] elements
boxed_by AtEnd boxing bytes formats wholes rules elements = []

-- the elements that are to come, and the heights of their rows
abbrev pub elements_left : List ℕ → List FormatRow → KeptRows → KeptLineByLine → List Element
elements_left bytes formats rows g =
    boxed_by g.place g.bars.boxing bytes formats (wholes_left g.tall.band) (keys_left formats g.tall.band) (drop g.element rows.elements)

abbrev pub heights_left : KeptRows → KeptLineByLine → List ℕ
heights_left rows g = heights_now g.tall.lines_left (drop g.element rows.elements)

abbrev pub parts_left : List ℕ → List FormatRow → KeptRows → KeptLineByLine → ℕ
parts_left bytes formats rows g = parts_in (heights_left rows g) (elements_left bytes formats rows g)

-- what is to come, with the part that is under way
abbrev pub all_boxed : List ℕ → List FormatRow → KeptRows → KeptLineByLine → List Element
all_boxed bytes formats rows g = boxed g.bars.boxing (elements_of bytes formats rows.elements)

abbrev pub coming : List ℕ → List FormatRow → KeptRows → KeptLineByLine → ToCome
coming bytes formats rows g =
    with_parts (sheet_by rows g) (heights_of rows.elements) (all_boxed bytes formats rows g) (parts_left bytes formats rows g)

-- the line that is laid, as a row of one line: a line of rules may have bars
abbrev pub bars_by : Place → Bars → Bars
bars_by AtTop bars = bars
bars_by AtElement bars = bars
bars_by (OnRule at) bars = record bars { has_any = true }
bars_by OnRow bars = bars
bars_by AtEnd bars = bars

abbrev pub row_laid : List ℕ → KeptLineByLine → WalkedRow
row_laid bytes g = laid_row bytes (bars_by g.place g.bars) g.width g.tall.line

-- what comes first, in a picture that has no box or has one
abbrev pub place_first : Bool → Place
place_first true = AtElement
place_first false = AtTop

-- whether a line is under way
abbrev pub is_on_line : Place → Bool
is_on_line AtTop = false
is_on_line AtElement = false
is_on_line (OnRule at) = true
is_on_line OnRow = true
is_on_line AtEnd = false

abbrev pub lines_to_come_by : Bool → List ℕ → KeptRows → KeptLineByLine → KeptWalk → ToCome → List ℕ
lines_to_come_by false bytes rows g w x = all_lines (sheet_by rows g) x
lines_to_come_by true bytes rows g w x = row_left w.next (row_laid bytes g) w ++ all_lines (sheet_by rows g) (behind_part (sheet_by rows g) x)

-- the bytes that are to come
abbrev pub lines_to_come : List ℕ → List FormatRow → KeptRows → KeptLineByLine → KeptWalk → List ℕ
lines_to_come bytes formats rows g w = lines_to_come_by (is_on_line g.place) bytes rows g w (coming bytes formats rows g)

-- the first element is a rule; is a row; or there is none
abbrev pub IsRuleFirst : List KeptElement → Type 0
IsRuleFirst [] = ⊥
IsRuleFirst (Row keys rules height entries ∷ elements) = ⊥
IsRuleFirst (Rule sign ∷ elements) = Unit {0}
IsRuleFirst (Command from to ∷ elements) = ⊥

abbrev pub IsRowOf : List FormatRow → FormatRow → List KeptElement → Type 0
IsRowOf formats format [] = ⊥
IsRowOf formats format (Row keys rules height entries ∷ elements) = format ≡ row_at formats keys
IsRowOf formats format (Rule sign ∷ elements) = ⊥
IsRowOf formats format (Command from to ∷ elements) = ⊥

-- where a line of rules stands, such elements come
abbrev pub StandsAtRule : RuleAt → List KeptElement → Type 0
StandsAtRule OfTop elements = Unit {0}
StandsAtRule OfElement elements = IsRuleFirst elements
StandsAtRule InFront elements = IsRowFirst elements
StandsAtRule OfEnd elements = elements ≡ []

-- a line is under way, which is this text as a whole
pub record LineUnderWay (bytes : List ℕ) (g : KeptLineByLine) (w : KeptWalk) : Type 0 where
  pub text : List ℕ
  pub draws : Draws bytes (bars_by g.place g.bars) g.width g.tall.line text
  pub few : length g.tall.line.entries ≤ w.room
  pub under : IsUnderWay w.next (row_laid bytes g) w

-- the row that comes is kept
abbrev pub ComesNext : List ℕ → List FormatRow → KeptRows → KeptLineByLine → ToCome → Type 0
ComesNext bytes formats rows g x = Comes bytes formats (sheet_by rows g) g.tall x.heights x.cells x.above x.elements

-- and its rows have their heights still
pub record StandsInFront (bytes : List ℕ) (formats : List FormatRow) (rows : KeptRows) (g : KeptLineByLine) (x : ToCome) : Type 0 where
  pub comes : ComesNext bytes formats rows g x
  pub whole : heights_left rows g ≡ heights_of (drop g.element rows.elements)

-- a line of rules comes
pub record RuleStands (at : RuleAt) (bytes : List ℕ) (formats : List FormatRow) (rows : KeptRows) (g : KeptLineByLine) (x : ToCome) : Type 0 where
  pub front : StandsInFront bytes formats rows g x
  pub line : RuleLine
  pub rest : List Element
  pub rule : RuleComes x.elements line rest
  pub stands : StandsAtRule at (drop g.element rows.elements)

-- a line of a row comes
pub record LineStands (bytes : List ℕ) (formats : List FormatRow) (rows : KeptRows) (g : KeptLineByLine) (x : ToCome) : Type 0 where
  pub format : FormatRow
  pub row : IsRowOf formats format (drop g.element rows.elements)
  pub more : ℕ
  pub stands : RowStands bytes (sheet_by rows g) g.tall format x.cells (suc more)

-- what comes next stands so; and is under way, if it is a line
abbrev pub StandsNext : Place → List ℕ → List FormatRow → KeptRows → KeptLineByLine → ToCome → Type 0
StandsNext AtTop bytes formats rows g x = StandsInFront bytes formats rows g x
StandsNext AtElement bytes formats rows g x = StandsInFront bytes formats rows g x
StandsNext (OnRule at) bytes formats rows g x = RuleStands at bytes formats rows g x
StandsNext OnRow bytes formats rows g x = LineStands bytes formats rows g x
StandsNext AtEnd bytes formats rows g x = Unit {0}

abbrev pub UnderWayIf : Bool → List ℕ → KeptLineByLine → KeptWalk → Type 0
UnderWayIf false bytes g w = Unit {0}
UnderWayIf true bytes g w = LineUnderWay bytes g w

-- the rows of a table are laid out for a picture, with room for it
pub record CanDraw (bytes : List ℕ) (formats : List FormatRow) (rows : KeptRows) (bars : Bars) (width columns_kept columns_walked : ℕ) : Type 0 where
  pub laid : RowsLaid bytes formats bars.boxing.is_inside rows
  pub lie : RowsLie formats rows
  pub high : AllByRecursion IsHigh rows.elements
  pub narrow : AreNarrow rows.columns
  pub wide : width < 4294967296
  pub places : HavePlaces formats (record { bars = bars; width = width; columns = rows.columns })
  pub ruled : AllByRecursion (RulesPlaced formats (record { bars = bars; width = width; columns = rows.columns })) rows.elements
  pub some : 0 < length rows.columns
  pub room : length rows.columns ≤ columns_kept
  pub few : length rows.columns ≤ columns_walked

-- so far the picture was given
pub record HasCome (bytes : List ℕ) (formats : List FormatRow) (rows : KeptRows) (g : KeptLineByLine) (room : ℕ) : Type 0 where
  pub drawn : CanDraw bytes formats rows g.bars g.width g.tall.room room
  pub element : g.element ≤ length rows.elements
  pub ended : g.tall.come ≤ g.element
  pub parts : parts_left bytes formats rows g ≤ parts_in (heights_of rows.elements) (all_boxed bytes formats rows g)
  pub elements : (coming bytes formats rows g).elements ≡ elements_left bytes formats rows g
  pub heights : (coming bytes formats rows g).heights ≡ heights_left rows g
  pub stands : StandsNext g.place bytes formats rows g (coming bytes formats rows g)

-- what the walk needs
pub record CanGo (bytes : List ℕ) (formats : List FormatRow) (rows : KeptRows) (g : KeptLineByLine) (w : KeptWalk) : Type 0 where
  pub come : HasCome bytes formats rows g w.room
  pub under : UnderWayIf (is_on_line g.place) bytes g w

-- the line that comes is laid, and begins
pub record LineBegins (bytes : List ℕ) (formats : List FormatRow) (rows : KeptRows) (old new : KeptLineByLine) (before after : KeptWalk) : Type 0 where
  pub can : CanGo bytes formats rows new after
  pub same : lines_to_come bytes formats rows new after ≡ all_lines (sheet_by rows old) (coming bytes formats rows old)
  pub place : new.place ≡ old.place
  pub room : after.room ≡ before.room
  pub own : new.tall.room ≡ old.tall.room

-- whether a line of rules that comes is one over the whole picture, with its sign, is told
abbrev pub SignTold : Option RuleSign → List ℕ → List FormatRow → KeptRows → KeptLineByLine → Type 0
SignTold whole bytes formats rows g = (line : RuleLine) (rest : List Element) → RuleComes (coming bytes formats rows g).elements line rest → SignIs whole line

-- the line of a row that came was given, and what comes next may be one that begins
pub record LineGone (bytes : List ℕ) (formats : List FormatRow) (rows : KeptRows) (old new : KeptLineByLine) (before after : KeptWalk) : Type 0 where
  pub can : CanGo bytes formats rows new after
  pub same : lines_to_come bytes formats rows new after ≡ all_lines (sheet_by rows old) (behind_part (sheet_by rows old) (coming bytes formats rows old))
  pub room : after.room ≡ before.room
  pub own : new.tall.room ≡ old.tall.room

-- the line of rules that came was given
pub record PartGone (bytes : List ℕ) (formats : List FormatRow) (rows : KeptRows) (old new : KeptLineByLine) (room : ℕ) : Type 0 where
  pub come : HasCome bytes formats rows new room
  pub coming : coming bytes formats rows new ≡ behind_part (sheet_by rows old) (coming bytes formats rows old)
  pub bars : new.bars ≡ old.bars
  pub width : new.width ≡ old.width
  pub off : is_on_line new.place ≡ false
  pub own : new.tall.room ≡ old.tall.room

-- a line that begins gives nothing yet
abbrev pub steps_of : Bool → List ℕ → ℕ
steps_of false bytes = suc (2 * length bytes)
steps_of true bytes = 2 * length bytes

abbrev pub steps_left : List ℕ → List FormatRow → KeptRows → KeptLineByLine → KeptWalk → ℕ
steps_left bytes formats rows g w = steps_of (is_on_line g.place) (lines_to_come bytes formats rows g w)

-- a step gives some pieces, or begins a line; where there is room for another step, fewer are left
pub record LineSteps (bytes frame : List ℕ) (formats : List FormatRow) (rows : KeptRows) (old new : KeptLineByLine) (before after : KeptWalk)
    (pieces others : KeptPieces) : Type 0 where
  pub added : List ℕ
  pub adds : AddsFitting bytes frame pieces others added
  pub same : lines_to_come bytes formats rows old before ≡ added ++ lines_to_come bytes formats rows new after
  pub can : CanGo bytes formats rows new after
  pub less : others.taken + 4 ≤ others.room → steps_left bytes formats rows new after < steps_left bytes formats rows old before
  pub room : after.room ≡ before.room
  pub own : new.tall.room ≡ old.tall.room

-- nothing is to come, and nothing changes
pub record LinesEnded (bytes : List ℕ) (formats : List FormatRow) (rows : KeptRows) (old new : KeptLineByLine) (before after : KeptWalk)
    (pieces others : KeptPieces) : Type 0 where
  pub none : lines_to_come bytes formats rows old before ≡ []
  pub same : new ≡ old
  pub walk : after ≡ before
  pub pieces_same : others ≡ pieces

abbrev pub LineStepsIf : Bool → List ℕ → List ℕ → List FormatRow → KeptRows → KeptLineByLine → KeptLineByLine → KeptWalk → KeptWalk
    → KeptPieces → KeptPieces → Type 0
LineStepsIf true bytes frame formats rows old new before after pieces others =
    LineSteps bytes frame formats rows old new before after pieces others
LineStepsIf false bytes frame formats rows old new before after pieces others =
    LinesEnded bytes formats rows old new before after pieces others
