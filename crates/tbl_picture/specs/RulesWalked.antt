-- The lines of rules of a picture, as they are walked: a column after the other.
use Rattle.std.specs.Prelude.{◌≡◌, ℕ, zero, suc, ◌+◌, ◌-◌, ◌≤◌, ◌<◌, ◌^◌, max, nat_lt, Bool, true, false, ◌||◌, List, [], ◌∷◌, ◌++◌, drop, length, map, take, replicate, codes, Option, None, Some, IfSome, if◌then◌else◌, ◌==◌}
use Rattle.std.specs.List.{AllByRecursion}
use Rattle.input_source.specs.Bytes.{blank, newline}
use Rattle.tbl_format.specs.Format.{FormatRow}
use Rattle.tbl_format.specs.RowsServed.{row_at}
use Rattle.tbl_options.specs.declared.options.Boxing.{Boxing}
use Rattle.tbl_kept.specs.Rows.{Command, KeptElement, KeptRows, Row, Rule, elements_of, fields_of, rows_in_front}
use Rattle.tbl_layout.specs.Columns.{greatest}
use Rattle.tbl_layout.specs.KeptEntries.{all_entries}
use Rattle.tbl_layout.specs.LayoutLaws.{first_start}
use Rattle.tbl_layout.specs.Widths.{inner_bars}
use Rattle.tbl_layout.specs.declared.data_lines.RuleSign.{RuleSign}
use Rattle.tbl_lines.specs.PictureLines.{Mark, Neighbour, NoRow, OfKeys, OfRow, OfRules, RuleLine, Sheet, Whole, behind_rules, drawn, edge_byte, edge_mark, line_below, met_at_edge, met_behind, rule_to, shown_behind}
use Rattle.tbl_picture.specs.RuleMarks.{marks_from}
use Rattle.tbl_pieces.specs.PieceQueue.{Adds, KeptPieces}
use Rattle.tbl_lines.specs.RowsWalked.{AreNarrow}
use Rattle.tbl_picture.specs.Walks.{KeptWalk, row_begun}
use Rattle.tbl_picture.specs.Nexts.{AtElement, AtEnd, AtRule, AtRuleRow, Next}
use Rattle.tbl_picture.specs.declared.walk.beside.Beside.{Beside}
use Rattle.tbl_picture.specs.declared.walk.beside.Beside.TheVariants.{Nothing as NoRowBeside, Row as RowBeside}
use Rattle.tbl_picture.specs.declared.walk.beside.Lengths.{Lengths}
use Rattle.tbl_picture.specs.declared.walk.beside.RuleRows.{RuleRows}
use Rattle.tbl_picture.specs.declared.walk.rules.RuleBegun.{RuleBegun}
use Rattle.tbl_picture.specs.declared.walk.rules.RuleLine.TheVariants.{OfKeys as KeysBegun, Whole as WholeBegun}
use Rattle.tbl_picture.specs.declared.walk.rules.RuleLine.{RuleLine as LineBegun}

-- whether a line of a row stands there
abbrev pub is_row : Beside → Bool
is_row NoRowBeside = false
is_row (RowBeside at) = true

-- the first of some elements is a row
abbrev pub IsRowFirst : List KeptElement → Type 0
IsRowFirst [] = ⊥
IsRowFirst (Row keys rules height entries ∷ elements) = Unit {0}
IsRowFirst (Rule sign ∷ elements) = ⊥
IsRowFirst (Command from to ∷ elements) = ⊥

-- the element whose line stands there is a row
abbrev pub IsRowThere : List KeptElement → Beside → Type 0
IsRowThere elements NoRowBeside = Unit {0}
IsRowThere elements (RowBeside at) = IsRowFirst (drop at elements)

-- each row of some elements has one of these rows of the formats, and those in front of it
pub record RowServed (formats : List FormatRow) (keys rules : ℕ) : Type 0 where
  pub serves : keys < length formats
  pub in_front : rules ≤ keys

abbrev pub IsServed : List FormatRow → KeptElement → Type 0
IsServed formats (Row keys rules height entries) = RowServed formats keys rules
IsServed formats (Rule sign) = Unit {0}
IsServed formats (Command from to) = Unit {0}

abbrev pub AreServed : List FormatRow → List KeptElement → Type 0
AreServed formats elements = AllByRecursion (IsServed formats) elements

-- the line of the first of some elements that stands directly below a rule, or directly above it
abbrev pub line_of_first : List ℕ → List FormatRow → Bool → List KeptElement → Neighbour
line_of_first bytes formats is_below [] = NoRow
line_of_first bytes formats is_below (Row keys rules height entries ∷ elements) =
    OfRow (is_below || height == 1) (row_at formats keys) (fields_of bytes (row_at formats keys) entries)
line_of_first bytes formats is_below (Rule sign ∷ elements) = NoRow
line_of_first bytes formats is_below (Command from to ∷ elements) = NoRow

abbrev pub line_beside : List ℕ → List FormatRow → Bool → List KeptElement → Beside → Neighbour
line_beside bytes formats is_below elements NoRowBeside = NoRow
line_beside bytes formats is_below elements (RowBeside at) = line_of_first bytes formats is_below (drop at elements)

-- the rows of rule keys that stand directly in front of it
abbrev pub rules_of_first : List FormatRow → List KeptElement → List FormatRow
rules_of_first formats [] = []
rules_of_first formats (Row keys rules height entries ∷ elements) = rows_in_front formats keys rules
rules_of_first formats (Rule sign ∷ elements) = []
rules_of_first formats (Command from to ∷ elements) = []

abbrev pub rules_beside : List FormatRow → List KeptElement → Beside → List FormatRow
rules_beside formats elements NoRowBeside = []
rules_beside formats elements (RowBeside at) = rules_of_first formats (drop at elements)

-- and where they stand among all rows of the formats
abbrev pub rules_first : List KeptElement → RuleRows
rules_first [] = record { first = 0; count = 0 }
rules_first (Row keys rules height entries ∷ elements) = record { first = keys - rules; count = rules }
rules_first (Rule sign ∷ elements) = record { first = 0; count = 0 }
rules_first (Command from to ∷ elements) = record { first = 0; count = 0 }

-- rows of rule keys by their places among all rows of the formats
abbrev pub rows_at : List FormatRow → ℕ → ℕ → List FormatRow
rows_at formats first count = take count (drop first formats)

abbrev pub rows_of : List FormatRow → RuleRows → List FormatRow
rows_of formats rules = rows_at formats rules.first rules.count

-- how many keys the nearest of some rows has, and the longest
abbrev pub nearest : List FormatRow → ℕ
nearest [] = 0
nearest (format ∷ formats) = length format.keys

abbrev pub longest : List FormatRow → ℕ
longest formats = greatest (map (λ (f : FormatRow). length f.keys) formats)

-- the lengths of rows are known: of none, or of some
pub record AreLengths (formats : List FormatRow) (lengths : Lengths) : Type 0 where
  pub some : 0 < length formats
  pub nearest : lengths.nearest ≡ nearest formats
  pub longest : lengths.longest ≡ longest formats

abbrev pub LengthsAre : List FormatRow → Option Lengths → Type 0
LengthsAre formats None = formats ≡ []
LengthsAre formats (Some lengths) = AreLengths formats lengths

-- the last of some rows that is as long as the longest stands there among all
abbrev pub LastIs : List FormatRow → ℕ → ℕ → Option Lengths → Type 0
LastIs formats first count None = Unit {0}
LastIs formats first count (Some lengths) =
    (first ≤ lengths.last) × (lengths.last < first + count) × (length (row_at formats lengths.last).keys ≡ lengths.longest)

-- with those of a row behind the others, which has so many keys and stands there
abbrev pub with_keys : Lengths → (keys at : ℕ) → Lengths
with_keys lengths keys at =
    if nat_lt keys lengths.longest then lengths else record { nearest = lengths.nearest; longest = keys; last = at }

-- how many bars a line shows behind a column through rows of rule keys of such lengths
abbrev pub shown_through : Boxing → Option Lengths → ℕ → ℕ → ℕ
shown_through boxing None column shown = shown
shown_through boxing (Some lengths) column shown =
    if nat_lt column lengths.nearest then 0
    else if nat_lt column lengths.longest then inner_bars boxing 0
    else max (inner_bars boxing 0) shown

-- rows of rule keys that stand above, so many from one on among all rows of the formats: the last of them is the nearest
abbrev pub above_rules : List FormatRow → ℕ → ℕ → Neighbour → Neighbour
above_rules formats first zero line = line
above_rules formats first (suc count) line = OfRules (row_at formats (first + count)) (above_rules formats first count line)

-- the picture's bars, how wide it is, and its columns
abbrev pub sheet_of : KeptRows → KeptWalk → Sheet
sheet_of rows w = record { bars = w.bars; width = w.picture_width; columns = rows.columns }

-- how many rows of rule keys in front of the first of some elements are above one of them
abbrev pub rules_passed : List KeptElement → ℕ → ℕ
rules_passed [] row = 0
rules_passed (Row keys rules height entries ∷ elements) row = row - (keys - rules)
rules_passed (Rule sign ∷ elements) row = 0
rules_passed (Command from to ∷ elements) row = 0

-- a line of rules that is walked, in front of these elements; what stands above it, and below it
abbrev pub line_walked : List FormatRow → LineBegun → RuleLine
line_walked formats (WholeBegun sign is_last) = Whole sign
line_walked formats (KeysBegun row left) = OfKeys (row_at formats row)

abbrev pub above_of : LineBegun → List FormatRow → Neighbour → List KeptElement → Neighbour
above_of (WholeBegun sign is_last) formats line elements = line
above_of (KeysBegun row left) formats line elements = let passed = rules_passed elements row in above_rules formats (row - passed) passed line

abbrev pub above_by : LineBegun → List ℕ → List FormatRow → KeptRows → KeptWalk → List KeptElement → Neighbour
above_by line bytes formats rows w elements = above_of line formats (line_beside bytes formats false rows.elements w.above) elements

abbrev pub below_by : LineBegun → Beside → List ℕ → List FormatRow → KeptRows → List KeptElement → Neighbour
below_by (WholeBegun sign is_last) below bytes formats rows elements =
    behind_rules (rules_beside formats rows.elements below) (line_beside bytes formats true rows.elements below)
below_by (KeysBegun row left) below bytes formats rows elements =
    behind_rules (rows_at formats (suc row) left) (line_of_first bytes formats true elements)

-- what is left of a line of rules from a column on, and from a place on
abbrev pub ruled_left : Sheet → RuleLine → Neighbour → Neighbour → RuleBegun → ℕ → List ℕ
ruled_left s line above below rule place =
    drawn place
    (marks_from s.bars line above below rule.column rule.from (rule_to line (s.width - rule.right) s.columns) (drop rule.column s.columns)
    ++ edge_mark line (s.width - rule.right) rule.right ∷ [])
    ++ newline ∷ []

-- what is left of one that is walked
abbrev pub rule_left : List ℕ → List FormatRow → KeptRows → RuleBegun → KeptWalk → List KeptElement → List ℕ
rule_left bytes formats rows rule w elements =
    ruled_left (sheet_of rows w) (line_walked formats rule.line) (above_by rule.line bytes formats rows w elements)
    (below_by rule.line rule.below.line bytes formats rows elements) rule w.place

-- what a line of rules begins with: `\&`, and the bars of its left edge
abbrev pub rule_front : RuleLine → ℕ → List ℕ
rule_front line left = codes "\\&" ++ replicate left (edge_byte line)

-- a row of rule keys is among those in front of the first of some elements: so many follow it there
abbrev pub IsRuleOf : List FormatRow → ℕ → ℕ → List KeptElement → Type 0
IsRuleOf formats row left [] = ⊥
IsRuleOf formats row left (Row keys rules height entries ∷ elements) = (keys - rules ≤ row) × (row + suc left ≡ keys)
IsRuleOf formats row left (Rule sign ∷ elements) = ⊥
IsRuleOf formats row left (Command from to ∷ elements) = ⊥

-- what stands below a line of rules that is walked, in front of an element
abbrev pub IsBelow : LineBegun → Beside → ℕ → List FormatRow → List KeptElement → Type 0
IsBelow (WholeBegun sign is_last) below element formats elements = Unit {0}
IsBelow (KeysBegun row left) below element formats elements = (below ≡ RowBeside element) × IsRuleOf formats row left elements

abbrev pub StandsBelow : LineBegun → Beside → List FormatRow → KeptWalk → List KeptElement → Type 0
StandsBelow line below formats w elements = IsBelow line below w.element formats elements

-- where the rows of rule keys stand in front of what stands there
abbrev pub rules_first_beside : List KeptElement → Beside → RuleRows
rules_first_beside elements NoRowBeside = record { first = 0; count = 0 }
rules_first_beside elements (RowBeside at) = rules_first (drop at elements)

-- the rows of rule keys below a line of rules that is walked, by the first of them and how many there are
abbrev pub first_below : LineBegun → Beside → List KeptElement → RuleRows
first_below (WholeBegun sign is_last) below elements = rules_first_beside elements below
first_below (KeysBegun row left) below elements = record { first = suc row; count = left }

-- the lengths of the rows of rule keys above a line are right: by them it is known what is shown through them
pub record ShownThrough (boxing : Boxing) (lengths : Option Lengths) (line seen : Neighbour) : Type 0 where
  pub shown : (column : ℕ) → shown_behind boxing seen column ≡ shown_through boxing lengths column (shown_behind boxing line column)
  pub order : IfSome lengths (λ (l : Lengths). l.nearest ≤ l.longest)

-- a line of rules is one over the whole picture, or one of these rows
abbrev pub IsAmong : List FormatRow → LineBegun → Type 0
IsAmong formats (WholeBegun sign is_last) = Unit {0}
IsAmong formats (KeysBegun row left) = row < length formats

-- what the walk needs on a line of rules, whatever the table's bytes are: behind its last column nothing of it is left
pub record RuleLies (formats : List FormatRow) (rows : KeptRows) (rule : RuleBegun) (w : KeptWalk) (elements : List KeptElement) : Type 0 where
  pub above : IsRowThere rows.elements w.above
  pub below : IsRowThere rows.elements rule.below.line
  pub line : rule.above.line ≡ w.above
  pub stands : StandsBelow rule.line rule.below.line formats w elements
  pub column : rule.column ≤ max 1 (length rows.columns)
  pub narrow : AreNarrow rows.columns
  pub from : rule.column < length rows.columns → rule.from < 2 ^ 63
  pub ended : max 1 (length rows.columns) ≤ rule.column
      → rule_to (line_walked formats rule.line) (w.picture_width - rule.right) rows.columns ≤ rule.from
  pub lengths_below : LengthsAre (rows_of formats (first_below rule.line rule.below.line rows.elements)) rule.below.rules
  pub last_below : let r = first_below rule.line rule.below.line rows.elements in LastIs formats r.first r.count rule.below.rules

-- and by them
pub record RuleStands (bytes : List ℕ) (formats : List FormatRow) (rows : KeptRows) (rule : RuleBegun) (w : KeptWalk) (elements : List KeptElement) : Type 0 where
  pub lies : RuleLies formats rows rule w elements
  pub shown_above : ShownThrough w.bars.boxing rule.above.rules (line_beside bytes formats false rows.elements w.above)
      (above_by rule.line bytes formats rows w elements)
  pub left : rule.left ≡ met_at_edge w.bars (line_walked formats rule.line) (above_by rule.line bytes formats rows w elements)
      (below_by rule.line rule.below.line bytes formats rows elements) 0
  pub right : rule.right ≡ met_at_edge w.bars (line_walked formats rule.line) (above_by rule.line bytes formats rows w elements)
      (below_by rule.line rule.below.line bytes formats rows elements) (length rows.columns)

-- a rule over the whole picture begins, in front of an element
pub record RuleBegins (bytes frame : List ℕ) (formats : List FormatRow) (rows : KeptRows) (sign : RuleSign) (is_last : Bool) (old new : KeptWalk)
    (before after : KeptPieces) : Type 0 where
  pub rule : RuleBegun
  pub line : rule.line ≡ WholeBegun sign is_last
  pub first : rule.column ≡ 0
  pub from : rule.from ≡ rule.left
  pub walk : new ≡ record old { place = rule.left; next = AtRule rule }
  pub stands : RuleStands bytes formats rows rule new (drop old.element rows.elements)
  pub same : below_by rule.line rule.below.line bytes formats rows (drop old.element rows.elements)
      ≡ line_below (elements_of bytes formats (drop old.element rows.elements))
  pub adds : Adds bytes frame 4 before after (rule_front (Whole sign) rule.left)

-- a mark of one byte, so many times
abbrev pub bytes_at : ℕ → ℕ → ℕ → Mark
bytes_at at byte count = record { at = at; bytes = replicate count byte }

-- what is given of a mark behind a place, and the place behind it
abbrev pub mark_given : Mark → ℕ → List ℕ
mark_given m place = if length m.bytes == 0 then [] else replicate (m.at - place) blank ++ m.bytes

abbrev pub place_behind : Mark → ℕ → ℕ
place_behind m place = if length m.bytes == 0 then place else m.at + length m.bytes

-- how many bars meet a line that is walked behind the column that it has come to
abbrev pub met_there : List ℕ → List FormatRow → KeptRows → RuleBegun → KeptWalk → List KeptElement → ℕ
met_there bytes formats rows rule w elements =
    met_behind w.bars (line_walked formats rule.line) (above_by rule.line bytes formats rows w elements)
    (below_by rule.line rule.below.line bytes formats rows elements) rule.column

-- a line of rules behind a column, where the rule over the next one begins at a place; and the walk, at a place of the page
abbrev pub rule_behind : RuleBegun → ℕ → RuleBegun
rule_behind rule from = record rule { column = rule.column + 1; from = from }

abbrev pub come_behind : RuleBegun → ℕ → ℕ → KeptWalk → KeptWalk
come_behind rule from place w = record w { place = place; next = AtRule (rule_behind rule from) }

-- behind a rule over the whole picture, where it was the last line and where it wasn't
abbrev pub next_behind_rule : Bool → Next
next_behind_rule false = AtElement
next_behind_rule true = AtEnd

-- a step on a line of rules that comes behind a column
pub record RuleCrosses (bytes frame : List ℕ) (formats : List FormatRow) (rows : KeptRows) (rule : RuleBegun) (old new : KeptWalk) (before after : KeptPieces) : Type 0 where
  pub added : List ℕ
  pub adds : Adds bytes frame 4 before after added
  pub place : ℕ
  pub from : ℕ
  pub walk : new ≡ come_behind rule from place old
  pub joins : let elements = drop old.element rows.elements in
      rule_left bytes formats rows rule old elements ≡ added ++ rule_left bytes formats rows (rule_behind rule from) new elements
  pub lies : RuleLies formats rows (rule_behind rule from) old (drop old.element rows.elements)

-- behind a row of rule keys the next one comes, which so many follow
pub record RuleRowNext (bytes : List ℕ) (formats : List FormatRow) (rows : KeptRows) (rule : RuleBegun) (row left : ℕ) (old new : KeptWalk) : Type 0 where
  pub next : RuleBegun
  pub walk : new ≡ record old { next = AtRuleRow next }
  pub line : next.line ≡ KeysBegun (suc row) left
  pub column : next.column ≡ 0
  pub from : next.from ≡ first_start rule.left rows.columns
  pub same_left : next.left ≡ rule.left
  pub same_right : next.right ≡ rule.right
  pub stands : RuleStands bytes formats rows next old (drop old.element rows.elements)

-- the row that is the first of some elements begins
abbrev pub FirstBegins : List FormatRow → List KeptElement → KeptWalk → KeptWalk → Type 0
FirstBegins formats [] old new = ⊥
FirstBegins formats (Row keys rules height entries ∷ elements) old new = new ≡ row_begun (all_entries (row_at formats keys) entries) old
FirstBegins formats (Rule sign ∷ elements) old new = ⊥
FirstBegins formats (Command from to ∷ elements) old new = ⊥

-- behind a row of rule keys, where so many follow it, the next one comes or the row of the data
abbrev pub KeysEnded : List ℕ → List FormatRow → KeptRows → RuleBegun → (row left : ℕ) → KeptWalk → KeptWalk → Type 0
KeysEnded bytes formats rows rule row zero old new = FirstBegins formats (drop old.element rows.elements) old new
KeysEnded bytes formats rows rule row (suc left) old new = RuleRowNext bytes formats rows rule row left old new

-- behind a line of rules
abbrev pub LineEnded : LineBegun → List ℕ → List FormatRow → KeptRows → RuleBegun → KeptWalk → KeptWalk → Type 0
LineEnded (WholeBegun sign is_last) bytes formats rows rule old new =
    new ≡ record old { next = next_behind_rule is_last; above = NoRowBeside }
LineEnded (KeysBegun row left) bytes formats rows rule old new = KeysEnded bytes formats rows rule row left old new

-- a step that ends it, at a place of the page
pub record RuleEnds (bytes frame : List ℕ) (formats : List FormatRow) (rows : KeptRows) (rule : RuleBegun) (old new : KeptWalk) (before after : KeptPieces) : Type 0 where
  pub adds : Adds bytes frame 4 before after (rule_left bytes formats rows rule old (drop old.element rows.elements))
  pub all : rule.column ≡ max 1 (length rows.columns)
  pub place : ℕ
  pub walk : LineEnded rule.line bytes formats rows rule (record old { place = place }) new

-- a step on a line of rules
pub data RuleDoes (bytes frame : List ℕ) (formats : List FormatRow) (rows : KeptRows) (rule : RuleBegun) (old new : KeptWalk)
    (before after : KeptPieces) : Type 0 where
  Crosses : RuleCrosses bytes frame formats rows rule old new before after → RuleDoes bytes frame formats rows rule old new before after
  Ends : RuleEnds bytes frame formats rows rule old new before after → RuleDoes bytes frame formats rows rule old new before after
