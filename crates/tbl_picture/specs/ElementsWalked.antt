-- A walk over the elements of a table's picture, and the rules that its box adds: what is to come, and what a step does.
use Rattle.std.specs.Prelude.{◌≡◌, ℕ, suc, ◌+◌, ◌-◌, ◌*◌, ◌≤◌, ◌<◌, max, ◌&&◌, Bool, true, false, List, [], ◌∷◌, ◌++◌, drop, length, codes, replicate, if◌then◌else◌, ◌==◌}
use Rattle.input_source.specs.Bytes.{newline}
use Rattle.tbl_format.specs.Format.{FormatRow}
use Rattle.tbl_format.specs.RowsServed.{row_at}
use Rattle.tbl_options.specs.declared.options.Boxing.{Boxing}
use Rattle.tbl_kept.specs.Rows.{Command, IsPlainTable, KeptElement, KeptRows, Row, RowsLaid, Rule, elements_of, fields_of}
use Rattle.tbl_layout.specs.DataLines.{sign_byte}
use Rattle.tbl_layout.specs.Entries.{Element, Row as OneRow, Rule as OneRule}
use Rattle.tbl_layout.specs.KeptEntries.{all_entries}
use Rattle.tbl_layout.specs.Spans.{cells_of}
use Rattle.tbl_layout.specs.declared.bars.Bars.{Bars}
use Rattle.tbl_layout.specs.declared.columns.Column.{Column}
use Rattle.tbl_layout.specs.declared.data_lines.RuleSign.{RuleSign}
use Rattle.tbl_layout.specs.declared.data_lines.RuleSign.TheVariants.{Single}
use Rattle.tbl_layout.specs.declared.entry.Entry.{Entry}
pub use Rattle.tbl_lines.specs.PictureLines.{boxed_from}
use Rattle.tbl_lines.specs.PictureLines.{Neighbour, NoRow, OfRow, OfRules, Sheet, bar, frame_sign, lines_behind, rule_line}
use Rattle.tbl_pieces.specs.PieceQueue.{Adds, KeptPieces, bytes_left}
use Rattle.tbl_pieces.specs.Pieces.{AreWithin}
use Rattle.tbl_lines.specs.RowsWalked.{AreNarrow, front_count, most_steps, steps_of_columns, steps_of_lines}
use Rattle.tbl_lines.specs.RulePlaces.{HavePlaces}
use Rattle.tbl_picture.specs.RulesWalked.{IsRowThere, LastIs, LengthsAre, RuleBegins, RuleStands, ShownThrough, above_by, below_by, is_row, line_beside, line_walked, next_behind_rule, rows_at, rule_left, sheet_of}
use Rattle.tbl_picture.specs.declared.walk.rules.RuleBegun.{RuleBegun}
use Rattle.tbl_picture.specs.declared.walk.rules.RuleLine.{RuleLine as LineBegun}
use Rattle.tbl_picture.specs.declared.walk.rules.RuleLine.TheVariants.{OfKeys as KeysBegun, Whole as WholeBegun}
use Rattle.tbl_layout.specs.LayoutLaws.{first_start}
use Rattle.tbl_picture.specs.Walks.{IsUnderWay, KeptWalk, row_begun, row_left, row_steps, walked}
use Rattle.tbl_picture.specs.Nexts.{AtCell, AtElement, AtEnd, AtFront, AtLine, AtRule, AtRuleRow, AtTop, AtWord, Next}
use Rattle.tbl_picture.specs.declared.walk.beside.Beside.TheVariants.{Nothing as NoRowBeside, Row as RowBeside}

-- the lines from elements on, behind a line of the picture
abbrev pub lines_on : Sheet → Bool → Neighbour → List Element → List ℕ
lines_on s behind_row above elements = lines_behind s above (boxed_from s.bars.boxing behind_row elements)

-- the rule above all of them, and those lines
abbrev pub lines_below_top : Sheet → Neighbour → List Element → List ℕ
lines_below_top s above elements =
    lines_behind s above (OneRule (frame_sign s.bars.boxing.bars) ∷ boxed_from s.bars.boxing false elements)

-- those behind a rule that is the picture's last line, or not
abbrev pub lines_behind_rule : Bool → Sheet → List Element → List ℕ
lines_behind_rule true s elements = []
lines_behind_rule false s elements = lines_on s false NoRow elements

-- the first of some elements is a row: its lines from these rows of rule keys in front of it on, behind a line of the picture, and what
-- follows
abbrev pub lines_with_rules : List ℕ → List FormatRow → Sheet → Neighbour → List FormatRow → List KeptElement → List ℕ
lines_with_rules bytes formats s above rules [] = []
lines_with_rules bytes formats s above rules (Row keys others height entries ∷ elements) =
    lines_behind s above
    (OneRow rules (row_at formats keys) (fields_of bytes (row_at formats keys) entries) ∷ boxed_from s.bars.boxing true (elements_of bytes formats elements))
lines_with_rules bytes formats s above rules (Rule sign ∷ elements) = []
lines_with_rules bytes formats s above rules (Command from to ∷ elements) = []

-- what is to come behind a line of rules that is walked
abbrev pub behind_line : LineBegun → List ℕ → List FormatRow → Sheet → Neighbour → List KeptElement → List ℕ
behind_line (WholeBegun sign is_last) bytes formats s above elements = lines_behind_rule is_last s (elements_of bytes formats elements)
behind_line (KeysBegun row left) bytes formats s above elements =
    lines_with_rules bytes formats s (OfRules (row_at formats row) above) (rows_at formats (suc row) left) elements

abbrev pub behind_line_by : LineBegun → List ℕ → List FormatRow → KeptRows → KeptWalk → List KeptElement → List ℕ
behind_line_by line bytes formats rows w elements =
    behind_line line bytes formats (sheet_of rows w) (above_by line bytes formats rows w elements) elements

-- what is to come from a line of rules on
abbrev pub from_line_by : RuleBegun → List ℕ → List FormatRow → KeptRows → KeptWalk → List KeptElement → List ℕ
from_line_by rule bytes formats rows w elements =
    rule_line (sheet_of rows w) (line_walked formats rule.line) (above_by rule.line bytes formats rows w elements)
    (below_by rule.line rule.below.line bytes formats rows elements)
    ++ behind_line_by rule.line bytes formats rows w elements

-- what is to come of elements, the first of which is a row that is walked
abbrev pub row_to_come : List ℕ → List FormatRow → KeptRows → KeptWalk → List KeptElement → List ℕ
row_to_come bytes formats rows w [] = []
row_to_come bytes formats rows w (Row keys rules height entries ∷ elements) =
    row_left w.next (walked bytes formats w.bars w.picture_width rows.columns keys height entries) w
    ++ lines_on (sheet_of rows w) true (OfRow (height == 1) (row_at formats keys) (fields_of bytes (row_at formats keys) entries))
    (elements_of bytes formats elements)
row_to_come bytes formats rows w (Rule sign ∷ elements) = []
row_to_come bytes formats rows w (Command from to ∷ elements) = []

-- what is to come by what comes next
abbrev pub to_come_by : Next → List ℕ → List FormatRow → KeptRows → KeptWalk → List KeptElement → List ℕ
to_come_by AtTop bytes formats rows w elements =
    lines_below_top (sheet_of rows w) (line_beside bytes formats false rows.elements w.above) (elements_of bytes formats elements)
to_come_by AtElement bytes formats rows w elements =
    lines_on (sheet_of rows w) (is_row w.above) (line_beside bytes formats false rows.elements w.above) (elements_of bytes formats elements)
to_come_by (AtRuleRow rule) bytes formats rows w elements = from_line_by rule bytes formats rows w elements
to_come_by (AtRule rule) bytes formats rows w elements =
    rule_left bytes formats rows rule w elements ++ behind_line_by rule.line bytes formats rows w elements
to_come_by AtEnd bytes formats rows w elements = []
to_come_by AtLine bytes formats rows w elements = row_to_come bytes formats rows w elements
to_come_by (AtFront at) bytes formats rows w elements = row_to_come bytes formats rows w elements
to_come_by AtCell bytes formats rows w elements = row_to_come bytes formats rows w elements
to_come_by (AtWord word width place) bytes formats rows w elements = row_to_come bytes formats rows w elements

-- the bytes that are to come
abbrev pub still_to_come : List ℕ → List FormatRow → KeptRows → KeptWalk → List ℕ
still_to_come bytes formats rows w = to_come_by w.next bytes formats rows w (drop w.element rows.elements)

-- nothing of the picture is given, which has these bars and is so wide
abbrev pub first_next : Boxing → Next
first_next boxing = if boxing.bars == 0 then AtElement else AtTop

abbrev pub started : Bars → ℕ → KeptWalk → KeptWalk
started bars width w =
    record w { element = 0; line = 0; next = first_next bars.boxing; above = NoRowBeside; bars = bars; picture_width = width }

-- the first of the elements is a row that is walked
abbrev pub IsInRow : List ℕ → List FormatRow → KeptRows → KeptWalk → List KeptElement → Type 0
IsInRow bytes formats rows w [] = ⊥
IsInRow bytes formats rows w (Row keys rules height entries ∷ elements) =
    IsUnderWay w.next (walked bytes formats w.bars w.picture_width rows.columns keys height entries) w
IsInRow bytes formats rows w (Rule sign ∷ elements) = ⊥
IsInRow bytes formats rows w (Command from to ∷ elements) = ⊥

-- what stands in the first element has no more columns than these
abbrev pub FirstFits : ℕ → List FormatRow → List KeptElement → Type 0
FirstFits room formats [] = Unit {0}
FirstFits room formats (Row keys rules height entries ∷ elements) = length (all_entries (row_at formats keys) entries) ≤ room
FirstFits room formats (Rule sign ∷ elements) = Unit {0}
FirstFits room formats (Command from to ∷ elements) = Unit {0}

-- the first of some elements is this row
abbrev pub FirstIs : ℕ → ℕ → List Entry → List KeptElement → Type 0
FirstIs keys rules entries [] = ⊥
FirstIs keys rules entries (Row first_keys first_rules height first_entries ∷ elements) =
    (first_keys ≡ keys) × (first_rules ≡ rules) × (first_entries ≡ entries)
FirstIs keys rules entries (Rule sign ∷ elements) = ⊥
FirstIs keys rules entries (Command from to ∷ elements) = ⊥

-- a line of rules begins with its first column, where a row of rule keys comes next
abbrev pub IsKeysLine : LineBegun → Type 0
IsKeysLine (WholeBegun sign is_last) = ⊥
IsKeysLine (KeysBegun row left) = Unit {0}

pub record RuleRowStands (bytes : List ℕ) (formats : List FormatRow) (rows : KeptRows) (rule : RuleBegun) (w : KeptWalk) (elements : List KeptElement) : Type 0 where
  pub stands : RuleStands bytes formats rows rule w elements
  pub keys : IsKeysLine rule.line
  pub column : rule.column ≡ 0
  pub from : rule.from ≡ first_start rule.left rows.columns

-- it begins: `\\&`, and the bars of its left edge
abbrev pub keys_front : ℕ → List ℕ
keys_front left = codes "\\&" ++ replicate left bar

abbrev pub rule_row_begun : RuleBegun → KeptWalk → KeptWalk
rule_row_begun rule w = record w { place = rule.left; next = AtRule rule }

-- what the walk needs, by what comes next
abbrev pub StandsAt : Next → List ℕ → List FormatRow → KeptRows → KeptWalk → List KeptElement → Type 0
StandsAt AtTop bytes formats rows w elements = (w.bars.boxing.bars == 0) ≡ false
StandsAt AtElement bytes formats rows w elements = Unit {0}
StandsAt (AtRuleRow rule) bytes formats rows w elements = RuleRowStands bytes formats rows rule w elements
StandsAt (AtRule rule) bytes formats rows w elements = RuleStands bytes formats rows rule w elements
StandsAt AtEnd bytes formats rows w elements = Unit {0}
StandsAt AtLine bytes formats rows w elements = IsInRow bytes formats rows w elements
StandsAt (AtFront at) bytes formats rows w elements = IsInRow bytes formats rows w elements
StandsAt AtCell bytes formats rows w elements = IsInRow bytes formats rows w elements
StandsAt (AtWord word width place) bytes formats rows w elements = IsInRow bytes formats rows w elements

-- what the walk needs
pub record CanWalk (bytes : List ℕ) (formats : List FormatRow) (rows : KeptRows) (w : KeptWalk) : Type 0 where
  pub laid : RowsLaid bytes formats w.bars.boxing.is_inside rows
  pub plain : IsPlainTable rows
  pub narrow : AreNarrow rows.columns
  pub places : HavePlaces formats (sheet_of rows w)
  pub room : length rows.columns ≤ w.room
  pub element : w.element ≤ length rows.elements
  pub above : IsRowThere rows.elements w.above
  pub next : StandsAt w.next bytes formats rows w (drop w.element rows.elements)

-- the most steps of a line of rules over so many columns, of the lines of a row, and of those of elements: of each row's, with the rows of
-- rule keys in front of it and a rule behind it
abbrev pub rule_steps : List Column → ℕ
rule_steps columns = max 1 (length columns) + 2

abbrev pub steps_of_row : List ℕ → FormatRow → List Column → List Entry → ℕ → ℕ
steps_of_row bytes format columns entries height =
    steps_of_lines (front_count (cells_of format.keys columns) + steps_of_columns (most_steps bytes) (all_entries format entries)) height

abbrev pub steps_of : List ℕ → List FormatRow → List Column → List KeptElement → ℕ
steps_of bytes formats columns [] = 0
steps_of bytes formats columns (Row keys rules height entries ∷ elements) =
    suc (rules * suc (rule_steps columns) + steps_of_row bytes (row_at formats keys) columns entries height)
    + (rule_steps columns + steps_of bytes formats columns elements)
steps_of bytes formats columns (Rule sign ∷ elements) = suc (rule_steps columns + steps_of bytes formats columns elements)
steps_of bytes formats columns (Command from to ∷ elements) = suc (steps_of bytes formats columns elements)

-- with the rule behind all of them
abbrev pub steps_on : List ℕ → List FormatRow → KeptRows → List KeptElement → ℕ
steps_on bytes formats rows elements = steps_of bytes formats rows.columns elements + rule_steps rows.columns

-- of a rule behind the row that stands above
abbrev pub steps_behind : Bool → List Column → ℕ
steps_behind false columns = 0
steps_behind true columns = rule_steps columns

-- those behind a rule that is the last line, or not
abbrev pub steps_behind_rule : Bool → List ℕ → List FormatRow → KeptRows → List KeptElement → ℕ
steps_behind_rule true bytes formats rows elements = 0
steps_behind_rule false bytes formats rows elements = steps_on bytes formats rows elements

-- of elements, the first of which is a row that is walked
abbrev pub steps_in_row : List ℕ → List FormatRow → KeptRows → KeptWalk → List KeptElement → ℕ
steps_in_row bytes formats rows w [] = 0
steps_in_row bytes formats rows w (Row keys rules height entries ∷ elements) =
    row_steps w.next (walked bytes formats w.bars w.picture_width rows.columns keys height entries) w
    + (rule_steps rows.columns + steps_on bytes formats rows elements)
steps_in_row bytes formats rows w (Rule sign ∷ elements) = 0
steps_in_row bytes formats rows w (Command from to ∷ elements) = 0

-- of a row and what follows, before its first line
abbrev pub steps_before_row : List ℕ → List FormatRow → KeptRows → List KeptElement → ℕ
steps_before_row bytes formats rows [] = 0
steps_before_row bytes formats rows (Row keys rules height entries ∷ elements) =
    steps_of_row bytes (row_at formats keys) rows.columns entries height + (rule_steps rows.columns + steps_on bytes formats rows elements)
steps_before_row bytes formats rows (Rule sign ∷ elements) = 0
steps_before_row bytes formats rows (Command from to ∷ elements) = 0

-- those behind a line of rules
abbrev pub steps_behind_line : LineBegun → List ℕ → List FormatRow → KeptRows → List KeptElement → ℕ
steps_behind_line (WholeBegun sign is_last) bytes formats rows elements = steps_behind_rule is_last bytes formats rows elements
steps_behind_line (KeysBegun row left) bytes formats rows elements =
    left * suc (rule_steps rows.columns) + steps_before_row bytes formats rows elements

abbrev pub steps_by : Next → List ℕ → List FormatRow → KeptRows → KeptWalk → List KeptElement → ℕ
steps_by AtTop bytes formats rows w elements = rule_steps rows.columns + steps_on bytes formats rows elements
steps_by AtElement bytes formats rows w elements = steps_behind (is_row w.above) rows.columns + steps_on bytes formats rows elements
steps_by (AtRuleRow rule) bytes formats rows w elements = rule_steps rows.columns + steps_behind_line rule.line bytes formats rows elements
steps_by (AtRule rule) bytes formats rows w elements =
    suc (max 1 (length rows.columns)) - rule.column + steps_behind_line rule.line bytes formats rows elements
steps_by AtEnd bytes formats rows w elements = 0
steps_by AtLine bytes formats rows w elements = steps_in_row bytes formats rows w elements
steps_by (AtFront at) bytes formats rows w elements = steps_in_row bytes formats rows w elements
steps_by AtCell bytes formats rows w elements = steps_in_row bytes formats rows w elements
steps_by (AtWord word width place) bytes formats rows w elements = steps_in_row bytes formats rows w elements

-- the most steps that are left
abbrev pub steps_left : List ℕ → List FormatRow → KeptRows → KeptWalk → ℕ
steps_left bytes formats rows w = steps_by w.next bytes formats rows w (drop w.element rows.elements)

-- behind a step of a row the next element comes, if that was its last
abbrev pub gone_on : Bool → KeptWalk → KeptWalk
gone_on true w = record w { element = w.element + 1; next = AtElement; above = RowBeside w.element }
gone_on false w = w

-- a step of the walk gives some pieces: with what is to come they are what was to come
pub record Steps (bytes frame : List ℕ) (formats : List FormatRow) (rows : KeptRows) (old new : KeptWalk) (before after : KeptPieces) : Type 0 where
  pub some : 0 < length (still_to_come bytes formats rows old)
  pub can : CanWalk bytes formats rows new
  pub less : steps_left bytes formats rows new < steps_left bytes formats rows old
  pub same : bytes_left bytes frame after ++ still_to_come bytes formats rows new
      ≡ bytes_left bytes frame before ++ still_to_come bytes formats rows old
  pub within : AreWithin bytes frame after.pieces
  pub fits : before.taken + 4 ≤ before.room → after.taken ≤ after.room
  pub grown : length after.pieces + before.taken ≡ length before.pieces + after.taken
  pub pieces_room : after.room ≡ before.room
  pub room : new.room ≡ old.room

-- nothing is to come, and nothing changes
pub record HasEnded (bytes : List ℕ) (formats : List FormatRow) (rows : KeptRows) (old new : KeptWalk) (before after : KeptPieces) : Type 0 where
  pub none : still_to_come bytes formats rows old ≡ []
  pub walk : new ≡ old
  pub pieces : after ≡ before

abbrev pub StepsIf : Bool → List ℕ → List ℕ → List FormatRow → KeptRows → KeptWalk → KeptWalk → KeptPieces → KeptPieces → Type 0
StepsIf true bytes frame formats rows old new before after = Steps bytes frame formats rows old new before after
StepsIf false bytes frame formats rows old new before after = HasEnded bytes formats rows old new before after

-- a rule over a picture that has no bars and is so wide
abbrev pub plain_rule : ℕ → RuleSign → List ℕ
plain_rule width sign = codes "\\&" ++ (replicate width (sign_byte sign) ++ newline ∷ [])

-- a rule comes next, the picture's last line or not: it begins, or is given where the picture has no bars
pub data RuleAtElement (bytes frame : List ℕ) (formats : List FormatRow) (rows : KeptRows) (sign : RuleSign) (is_last : Bool)
    (old new : KeptWalk) (before after : KeptPieces) : Type 0 where
  RuleBegin : old.bars.has_any ≡ true → RuleBegins bytes frame formats rows sign is_last old new before after
      → RuleAtElement bytes frame formats rows sign is_last old new before after
  Given : old.bars.has_any ≡ false → new ≡ record old { above = NoRowBeside; next = next_behind_rule is_last }
      → Adds bytes frame 4 before after (plain_rule old.picture_width sign)
      → RuleAtElement bytes frame formats rows sign is_last old new before after

-- rows of rule keys come next, of which the first stands there among all rows of the formats, and so many follow it
pub record RulesCome (bytes : List ℕ) (formats : List FormatRow) (rows : KeptRows) (first left : ℕ) (old new : KeptWalk) : Type 0 where
  pub rule : RuleBegun
  pub line : rule.line ≡ KeysBegun first left
  pub walk : new ≡ record old { next = AtRuleRow rule }
  pub stands : RuleRowStands bytes formats rows rule (record old { next = AtRuleRow rule }) (drop old.element rows.elements)

-- the row of rule keys behind one, which so many follow, before its line begins
pub record RowBehind (formats : List FormatRow) (columns : List Column) (rule : RuleBegun) (row count : ℕ) (next : RuleBegun) : Type 0 where
  pub line : next.line ≡ KeysBegun (suc row) (count - 1)
  pub column : next.column ≡ 0
  pub from : next.from ≡ first_start rule.left columns
  pub above : next.above.line ≡ rule.above.line
  pub below : next.below.line ≡ rule.below.line
  pub shown_above : (boxing : Boxing) (line seen : Neighbour) → ShownThrough boxing rule.above.rules line seen
      → ShownThrough boxing next.above.rules line (OfRules (row_at formats row) seen)
  pub lengths_below : LengthsAre (rows_at formats (suc (suc row)) (count - 1)) next.below.rules
  pub last_below : LastIs formats (suc (suc row)) (count - 1) next.below.rules
  pub left : next.left ≡ rule.left
  pub right : next.right ≡ rule.right

-- a row comes next, with these rows of rule keys in front of it, and all that stands in it: it begins, or a rule does in front of it, or
-- rows of rule keys come
pub data RowAtElement (bytes frame : List ℕ) (formats : List FormatRow) (rows : KeptRows) (keys rules : ℕ) (entries : List Entry)
    (old new : KeptWalk) (before after : KeptPieces) : Type 0 where
  RuleRowsCome : 0 < rules → RulesCome bytes formats rows (keys - rules) (rules - 1) old new → after ≡ before
      → RowAtElement bytes frame formats rows keys rules entries old new before after
  BehindRow : rules ≡ 0 → (old.bars.boxing.is_inside && is_row old.above) ≡ true
      → RuleAtElement bytes frame formats rows Single false old new before after
      → RowAtElement bytes frame formats rows keys rules entries old new before after
  RowBegin : rules ≡ 0 → (old.bars.boxing.is_inside && is_row old.above) ≡ false
      → new ≡ row_begun (all_entries (row_at formats keys) entries) old → after ≡ before
      → RowAtElement bytes frame formats rows keys rules entries old new before after
