-- The lines of a table's picture, as the formatter reads them (Lesk, "Tbl": Formatting).
use Rattle.std.specs.Prelude.{ℕ, zero, suc, nat_lt, ◌+◌, ◌-◌, max, Bool, true, false, ◌&&◌, List, [], ◌∷◌, ◌++◌, length, map, replicate, get_or, Option, None, Some, is_some, codes, if◌then◌else◌, ◌==◌}
use Rattle.input_source.specs.Bytes.{blank, newline}
use Rattle.tbl_format.specs.Cells.{cell_behind}
use Rattle.tbl_format.specs.Format.{FormatRow}
use Rattle.tbl_format.specs.declared.format.FormatKey.{FormatKey}
use Rattle.tbl_format.specs.declared.format.Key.{Key}
use Rattle.tbl_options.specs.declared.options.Boxing.{Boxing}
use Rattle.tbl_layout.specs.Columns.{bar_place, bars_begin, bars_end, greatest, place_in, place_of_rule, stands, widest_entry}
use Rattle.tbl_layout.specs.DataLines.{is_same_sign, sign_byte}
use Rattle.tbl_layout.specs.Entries.{Command, Content, Element, Repeated, Row, Rule, Ruled, Run, Short, blanks, columns_of, field_at, key_at, lines_of_field, up_to_last_glyph}
use Rattle.tbl_layout.specs.LayoutLaws.{first_start, last_end}
use Rattle.tbl_layout.specs.RuleKeys.{rule_sign}
use Rattle.tbl_layout.specs.Spans.{cells_of}
use Rattle.tbl_layout.specs.Widths.{edge_bars, inner_bars}
use Rattle.tbl_layout.specs.declared.bars.Bars.{Bars}
use Rattle.tbl_layout.specs.declared.columns.Column.{Column}
use Rattle.tbl_layout.specs.declared.data_lines.RuleSign.{RuleSign}
use Rattle.tbl_layout.specs.declared.data_lines.RuleSign.TheVariants.{Double, Single}
use Rattle.tbl_format.specs.FormatLaws.{bars_among}

-- a bar, and where a rule crosses one
abbrev pub bar : ℕ
bar = 124

abbrev pub crossing : ℕ
crossing = 43

-- a byte so many times: a blank is no glyph
abbrev pub repeated : ℕ → ℕ → Run
repeated b count = record { bytes = replicate count b; to_glyph = if b == blank then [] else replicate count b; columns = count }

-- whether a field is a rule over its column that is drawn with this sign
abbrev pub is_ruled : RuleSign → Content → Bool
is_ruled sign (Ruled other) = is_same_sign sign other
is_ruled sign field = false

abbrev pub bars_of : FormatRow → ℕ → ℕ
bars_of format cell = bars_among format.keys format.bars cell

-- how many bars stand in rows that it serves, at an edge of the picture, and in front of a cell that isn't the first
abbrev pub bars_at_edge : Boxing → FormatRow → ℕ → ℕ
bars_at_edge boxing format cell = edge_bars boxing (bars_of format cell)

abbrev pub bars_between : Boxing → FormatRow → ℕ → ℕ
bars_between boxing format cell = inner_bars boxing (bars_of format cell)

-- where a rule over a column ends that goes on with the next one: there, or where so many bars stand between them
abbrev pub joint : ℕ → Column → Column → ℕ
joint zero c d = d.start
joint (suc n) c d = bar_place (suc n) c d

-- where a rule over a column ends, behind which these columns come, and this field: a rule that is drawn alike goes on with it
abbrev pub rule_end : ℕ → RuleSign → Column → List Column → Content → ℕ
rule_end bars sign c [] next = c.start + c.width
rule_end bars sign c (d ∷ columns) next = if is_ruled sign next then joint bars c d else c.start + c.width

-- a cell of a row, or a bar: the column of the page at which its lines begin, what stands on each of them, and on all further ones
pub record Cell : Type 0 where
  pub at : ℕ
  pub lines : List (List Run)
  pub below : List Run

-- a cell of one run
abbrev pub one_run : ℕ → Run → Cell
one_run at run = record { at = at; lines = (run ∷ []) ∷ []; below = [] }

-- the cell that a field is under its key in its columns, which are one, behind which so many bars stand, those of these cells come, and
-- this field
abbrev pub cell_of : ℕ → Key → Column → List Column → Content → Content → Cell
cell_of bars key c columns next (Ruled sign) =
    one_run c.start (repeated (sign_byte sign) (rule_end bars sign c columns next - c.start))
cell_of bars key c columns next Short = one_run (c.start + place_of_rule c key) (repeated (sign_byte Single) (widest_entry c.needs))
cell_of bars key c columns next (Repeated b) = one_run c.start (repeated b c.width)
cell_of bars key c columns next field =
    record { at = c.start + place_in c key (stands key field); lines = lines_of_field key field; below = [] }

-- the cells of a row, from one on
abbrev pub cells_from : Boxing → ℕ → List Column → FormatRow → List Content → List Cell
cells_from boxing cell [] format fields = []
cells_from boxing cell (c ∷ columns) format fields =
    cell_of (bars_between boxing format (suc cell)) (key_at format cell) c columns (field_at fields (suc cell)) (field_at fields cell)
    ∷ cells_from boxing (suc cell) columns format fields

-- nothing that stands in a row
abbrev pub nothing_there : Cell
nothing_there = record { at = 0; lines = []; below = [] }

-- so many bars on each line of a row
abbrev pub bars_at : ℕ → ℕ → Cell
bars_at at zero = nothing_there
bars_at at (suc n) = record { at = at; lines = []; below = repeated bar (suc n) ∷ [] }

-- so many bars between two rules of a row: they cross them on the row's first line, and the second one goes on behind them up to a
-- place
abbrev pub crossed_at : ℕ → ℕ → RuleSign → ℕ → Cell
crossed_at at n sign end = record {
  at = at;
  lines = (repeated crossing n ∷ repeated (sign_byte sign) (end - (at + n)) ∷ []) ∷ [];
  below = repeated bar n ∷ [];
}

-- the sign of two fields that are the same rule
abbrev pub joined_sign : Content → Content → Option RuleSign
joined_sign (Ruled sign) next = if is_ruled sign next then Some sign else None
joined_sign field next = None

-- so many bars between two columns, which rules of this sign may cross
abbrev pub bars_by : Option RuleSign → ℕ → Column → Column → Cell
bars_by joined zero c d = nothing_there
bars_by None (suc n) c d = bars_at (bar_place (suc n) c d) (suc n)
bars_by (Some sign) (suc n) c d = crossed_at (bar_place (suc n) c d) (suc n) sign d.start

-- what stands between cells from one on, each but the first
abbrev pub all_between : Boxing → ℕ → List Column → FormatRow → List Content → List Cell
all_between boxing cell [] format fields = []
all_between boxing cell (c ∷ []) format fields = []
all_between boxing cell (c ∷ d ∷ columns) format fields =
    bars_by (joined_sign (field_at fields cell) (field_at fields (suc cell))) (bars_between boxing format (suc cell)) c d
    ∷ all_between boxing (suc cell) (d ∷ columns) format fields

-- what stands at the right edge of a picture that is so wide
abbrev pub right_bars : ℕ → ℕ → Cell
right_bars width n = bars_at (width - n) n

-- how a picture is boxed and which bars it has, how wide it is, and its columns
pub record Sheet : Type 0 where
  pub bars : Bars
  pub width : ℕ
  pub columns : List Column

-- a picture, for a row with these keys: the columns of each cell are one
abbrev pub in_cells : List FormatKey → Sheet → Sheet
in_cells keys s = record s { columns = cells_of keys s.columns }

-- what stands in front of each cell of a row, and behind the last: in a picture without bars nothing
abbrev pub fronts : Sheet → FormatRow → List Content → List Cell
fronts s format fields =
    let boxing = s.bars.boxing in
    if s.bars.has_any then
    bars_at 0 (bars_at_edge boxing format 0)
    ∷ all_between boxing 0 s.columns format fields ++ right_bars s.width (bars_at_edge boxing format (length s.columns)) ∷ []
    else []

-- cells, each behind what stands in front of it
abbrev pub with_fronts : List Cell → List Cell → List Cell
with_fronts [] cells = cells
with_fronts (f ∷ fronts) [] = f ∷ with_fronts fronts []
with_fronts (f ∷ fronts) (c ∷ cells) = f ∷ c ∷ with_fronts fronts cells

-- all that stands on the lines of a row
abbrev pub row_cells : Sheet → FormatRow → List Content → List Cell
row_cells s format fields =
    let row = in_cells format.keys s in with_fronts (fronts row format fields) (cells_from s.bars.boxing 0 row.columns format fields)

-- a row is as high as its highest cell, and one line at least
abbrev pub height : List Cell → ℕ
height cells = max 1 (greatest (map (λ c. length c.lines) cells))

-- a text that begins at a column of the page, behind what ends at a place: blanks stand between; and where it ends, if there is one. It
-- begins where the place is reached, if that is further on
abbrev pub at_column : ℕ → ℕ → List Run → List Run
at_column at place [] = []
at_column at place (run ∷ runs) = blanks (at - place) ∷ run ∷ runs

abbrev pub end_of : ℕ → ℕ → List Run → ℕ
end_of at place [] = place
end_of at place (run ∷ runs) = max at place + columns_of (run ∷ runs)

-- what stands on a line of some cells, from a place on
abbrev pub written : ℕ → ℕ → List Cell → List Run
written line place [] = []
written line place (c ∷ cells) =
    let text = get_or c.lines line c.below in at_column c.at place text ++ written line (end_of c.at place text) cells

-- a line of the picture: `\&`, what stands on it up to its last glyph, and a newline
abbrev pub line_of : ℕ → List Cell → List ℕ
line_of line cells = codes "\\&" ++ (up_to_last_glyph (written line 0 cells) ++ newline ∷ [])

-- so many lines of a row, from one on
abbrev pub lines_from : ℕ → ℕ → List Cell → List ℕ
lines_from line zero cells = []
lines_from line (suc count) cells = line_of line cells ++ lines_from (suc line) count cells

-- the line that stands directly above or below a line of rules: none of a row; one of a row of these keys with these fields, which is
-- its first or not; or that of a row of rule keys, behind which another line stands
pub data Neighbour : Type 0 where
  NoRow : Neighbour
  OfRow : (is_first : Bool) (format : FormatRow) (fields : List Content) → Neighbour
  OfRules : (format : FormatRow) (behind : Neighbour) → Neighbour

-- whether a row of rule keys rules the places of bars behind a column: it does behind each of its keys
abbrev pub rules_behind : FormatRow → ℕ → Bool
rules_behind format column = nat_lt column (length format.keys)

-- how many bars the first line of a row of these keys with these fields shows in front of a cell, or another line; none, where two same
-- rules cross them on the first; and none in front of the first cell, or of none
abbrev pub shown_in_front : Boxing → Bool → FormatRow → List Content → Option ℕ → ℕ
shown_in_front boxing is_first format fields None = 0
shown_in_front boxing is_first format fields (Some zero) = 0
shown_in_front boxing is_first format fields (Some (suc cell)) =
    if is_first && is_some (joined_sign (field_at fields cell) (field_at fields (suc cell))) then 0
    else bars_between boxing format (suc cell)

abbrev pub edge_of_cell : Boxing → FormatRow → Option ℕ → ℕ
edge_of_cell boxing format None = 0
edge_of_cell boxing format (Some cell) = bars_at_edge boxing format cell

-- how many bars a line shows at an edge, which is in front of a column or behind the last, and how many behind a column: a row shows
-- none inside a cell. That of rule keys shows those of the line behind it where it isn't ruled, and it rules no edge
abbrev pub shown_at_edge : Boxing → Neighbour → ℕ → ℕ
shown_at_edge boxing NoRow column = 0
shown_at_edge boxing (OfRow is_first format fields) column = edge_of_cell boxing format (cell_behind format.keys column)
shown_at_edge boxing (OfRules format behind) column = max (bars_at_edge boxing format column) (shown_at_edge boxing behind column)

abbrev pub shown_behind : Boxing → Neighbour → ℕ → ℕ
shown_behind boxing NoRow column = 0
shown_behind boxing (OfRow is_first format fields) column =
    shown_in_front boxing is_first format fields (cell_behind format.keys (suc column))
shown_behind boxing (OfRules format behind) column =
    if rules_behind format column then 0 else max (bars_between boxing format (suc column)) (shown_behind boxing behind column)

-- a line of rules: one over the whole picture, or those of a row of rule keys over their columns
pub data RuleLine : Type 0 where
  Whole : (sign : RuleSign) → RuleLine
  OfKeys : (format : FormatRow) → RuleLine

-- how it is drawn over a column, if it rules that
abbrev pub sign_over : RuleLine → ℕ → Option RuleSign
sign_over (Whole sign) column = Some sign
sign_over (OfKeys format) column = rule_sign (key_at format column)

-- how many bars it has itself, where it isn't ruled: at an edge, and behind a column
abbrev pub own_at_edge : Boxing → RuleLine → ℕ → ℕ
own_at_edge boxing (Whole sign) column = 0
own_at_edge boxing (OfKeys format) column = bars_at_edge boxing format column

abbrev pub own_behind : Boxing → RuleLine → ℕ → ℕ
own_behind boxing (Whole sign) column = 0
own_behind boxing (OfKeys format) column = if rules_behind format column then 0 else bars_between boxing format (suc column)

-- how many bars meet there, in a picture that may have bars: those of the line above it, of the one below it, and its own; of two lines
-- with bars there, the more bars have the places of the fewer
abbrev pub met_at_edge : Bars → RuleLine → Neighbour → Neighbour → ℕ → ℕ
met_at_edge bars line above below column =
    let boxing = bars.boxing in
    if bars.has_any then max (own_at_edge boxing line column) (max (shown_at_edge boxing above column) (shown_at_edge boxing below column)) else 0

abbrev pub met_behind : Bars → RuleLine → Neighbour → Neighbour → ℕ → ℕ
met_behind bars line above below column =
    let boxing = bars.boxing in
    if bars.has_any then max (own_behind boxing line column) (max (shown_behind boxing above column) (shown_behind boxing below column)) else 0

-- bytes from a column of the page on
pub record Mark : Type 0 where
  pub at : ℕ
  pub bytes : List ℕ

-- marks, each behind what ends at a place: blanks stand between
abbrev pub drawn : ℕ → List Mark → List ℕ
drawn place [] = []
drawn place (m ∷ marks) =
    if length m.bytes == 0 then drawn place marks
    else replicate (m.at - place) blank ++ (m.bytes ++ drawn (m.at + length m.bytes) marks)

-- what an edge shows: a rule over the whole picture crosses the bars there
abbrev pub edge_byte : RuleLine → ℕ
edge_byte (Whole sign) = crossing
edge_byte (OfKeys format) = bar

abbrev pub edge_mark : RuleLine → ℕ → ℕ → Mark
edge_mark line at count = record { at = at; bytes = replicate count (edge_byte line) }

-- where a line begins to rule its first column: behind so many bars of its edge, or with the column
abbrev pub rule_from : RuleLine → ℕ → List Column → ℕ
rule_from (Whole sign) left columns = left
rule_from (OfKeys format) left columns = first_start left columns

-- where it ends to rule its last one: in front of the bars of its edge, or with the column
abbrev pub rule_to : RuleLine → ℕ → List Column → ℕ
rule_to (Whole sign) right columns = right
rule_to (OfKeys format) right columns = last_end 0 columns

-- a rule from a place up to another, if there is one
abbrev pub last_mark : Option RuleSign → ℕ → ℕ → Mark
last_mark None from to = record { at = from; bytes = [] }
last_mark (Some sign) from to = record { at = from; bytes = replicate (to - from) (sign_byte sign) }

-- a rule from a place up to where the places of bars end between two columns, which so many bars cross
abbrev pub ruled_places : RuleSign → ℕ → ℕ → Column → Column → Mark
ruled_places sign from count c d = let at = bar_place count c d in record {
  at = from;
  bytes = replicate (at - from) (sign_byte sign) ++ (replicate count crossing ++ replicate (bars_end c d - (at + count)) (sign_byte sign));
}

-- what stands behind a column up to the end of the places of bars there, where so many bars meet: the rule over the column; or else, at
-- these places alone, one in front of the next column; or else the bars
abbrev pub places_mark : Option RuleSign → Option RuleSign → ℕ → Column → Column → Mark
places_mark (Some sign) next count c d = ruled_places sign (c.start + c.width) count c d
places_mark None (Some sign) count c d = ruled_places sign (bars_begin c d) count c d
places_mark None None count c d = record { at = bar_place count c d; bytes = replicate count bar }

-- how the places of bars in front of a column are ruled where the column in front of it isn't: by a rule over the whole picture, and by
-- no rule key, which rules the places behind its column
abbrev pub sign_in_front : RuleLine → ℕ → Option RuleSign
sign_in_front (Whole sign) column = sign_over (Whole sign) column
sign_in_front (OfKeys format) column = None

-- what stands on a line of rules from a column on, part by part: over the column, from a place up to its end; behind it up to the end
-- of the places of bars; and from there on over the next column. Over the last column it ends at another place
abbrev pub parts_from : Bars → RuleLine → Neighbour → Neighbour → ℕ → ℕ → ℕ → List Column → List Mark
parts_from bars line above below column from to [] = last_mark (sign_over line column) from to ∷ []
parts_from bars line above below column from to (c ∷ []) = last_mark (sign_over line column) from to ∷ []
parts_from bars line above below column from to (c ∷ d ∷ columns) =
    last_mark (sign_over line column) from (c.start + c.width)
    ∷ places_mark (sign_over line column) (sign_in_front line (suc column)) (met_behind bars line above below column) c d
    ∷ parts_from bars line above below (suc column) (bars_end c d) to (d ∷ columns)

-- all that it draws
abbrev pub rule_marks : Sheet → RuleLine → Neighbour → Neighbour → List Mark
rule_marks s line above below =
    let left = met_at_edge s.bars line above below 0 in
    let right = met_at_edge s.bars line above below (length s.columns) in
    edge_mark line 0 left
    ∷ parts_from s.bars line above below 0 (rule_from line left s.columns) (rule_to line (s.width - right) s.columns) s.columns
    ++ edge_mark line (s.width - right) right ∷ []

abbrev pub rule_line : Sheet → RuleLine → Neighbour → Neighbour → List ℕ
rule_line s line above below = codes "\\&" ++ (drawn 0 (rule_marks s line above below) ++ newline ∷ [])

-- rows of rule keys, and a line behind them
abbrev pub behind_rules : List FormatRow → Neighbour → Neighbour
behind_rules [] line = line
behind_rules (format ∷ formats) line = OfRules format (behind_rules formats line)

-- the lines of rows of rule keys, between one line and another
abbrev pub rule_lines : Sheet → Neighbour → List FormatRow → Neighbour → List ℕ
rule_lines s above [] below = []
rule_lines s above (format ∷ formats) below =
    rule_line s (OfKeys format) above (behind_rules formats below) ++ rule_lines s (OfRules format above) formats below

-- the line below: commands pass between the lines of the picture
abbrev pub line_below : List Element → Neighbour
line_below [] = NoRow
line_below (Row rules format fields ∷ elements) = behind_rules rules (OfRow true format fields)
line_below (Rule sign ∷ elements) = NoRow
line_below (Command bytes ∷ elements) = line_below elements

-- a rule in front of a row behind another row, between which none stands, also none of rule keys
abbrev pub rule_in_front : Bool → List FormatRow → List Element
rule_in_front true [] = Rule Single ∷ []
rule_in_front behind_row rules = []

abbrev pub ruled_between : Bool → List Element → List Element
ruled_between behind_row [] = []
ruled_between behind_row (Row rules format fields ∷ elements) =
    rule_in_front behind_row rules ++ Row rules format fields ∷ ruled_between true elements
ruled_between behind_row (Rule sign ∷ elements) = Rule sign ∷ ruled_between false elements
ruled_between behind_row (Command bytes ∷ elements) = Command bytes ∷ ruled_between behind_row elements

-- the rules that a box adds inside, and above and below: a double box has double ones
abbrev pub ruled_inside : Boxing → Bool → List Element → List Element
ruled_inside boxing behind_row elements = if boxing.is_inside then ruled_between behind_row elements else elements

abbrev pub frame_sign : ℕ → RuleSign
frame_sign bars = if nat_lt 1 bars then Double else Single

abbrev pub frame_rules : Boxing → List Element
frame_rules boxing = if boxing.bars == 0 then [] else Rule (frame_sign boxing.bars) ∷ []

-- elements, the first of them behind a row or not, with the rules that the box adds between and behind them
abbrev pub boxed_from : Boxing → Bool → List Element → List Element
boxed_from boxing behind_row elements = ruled_inside boxing behind_row elements ++ frame_rules boxing

-- what stands in a table, with the rules that its box adds
abbrev pub boxed : Boxing → List Element → List Element
boxed boxing elements = frame_rules boxing ++ (ruled_inside boxing false elements ++ frame_rules boxing)

-- the lines of a picture from elements on, with the commands between them, behind a line of it
abbrev pub lines_behind : Sheet → Neighbour → List Element → List ℕ
lines_behind s above [] = []
lines_behind s above (Row rules format fields ∷ elements) =
    let cells = row_cells s format fields in
    rule_lines s above rules (OfRow true format fields)
    ++ (lines_from 0 (height cells) cells ++ lines_behind s (OfRow (height cells == 1) format fields) elements)
lines_behind s above (Rule sign ∷ elements) =
    rule_line s (Whole sign) above (line_below elements) ++ lines_behind s NoRow elements
lines_behind s above (Command bytes ∷ elements) = bytes ++ newline ∷ lines_behind s above elements

-- the lines of a table's picture
abbrev pub picture_lines : Sheet → List Element → List ℕ
picture_lines s elements = lines_behind s NoRow (boxed s.bars.boxing elements)
