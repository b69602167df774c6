-- The lines of a table's picture, by what is left of the cells that stand on them (Lesk, "Tbl": Formatting).
use Rattle.std.specs.Prelude.{ℕ, zero, suc, nat_lt, ◌+◌, ◌-◌, max, min, Bool, true, false, not, ◌&&◌, ◌||◌, ◌==◌, List, [], ◌∷◌, ◌++◌, drop, get_or, length, map, replicate, take, Option, None, Some, is_some, if◌then◌else◌}
use Rattle.tbl_format.specs.Cells.{cell_behind}
use Rattle.tbl_layout.specs.Columns.{bar_place, bars_begin, bars_end, passes, place_in, place_of_rule, stands, widest_entry}
use Rattle.tbl_layout.specs.DataLines.{is_same_sign, sign_byte}
use Rattle.tbl_layout.specs.Entries.{Content, Repeated, Ruled, Run, Short, columns_of, line_within, lines_of_field}
use Rattle.tbl_layout.specs.LayoutLaws.{first_start, last_end}
use Rattle.tbl_layout.specs.Spans.{as_one, cells_of}
use Rattle.tbl_layout.specs.Widths.{edge_bars, inner_bars}
use Rattle.tbl_layout.specs.declared.bars.Bars.{Bars}
use Rattle.tbl_layout.specs.declared.columns.Column.{Column}
use Rattle.tbl_layout.specs.declared.data_lines.RuleSign.{RuleSign}
use Rattle.tbl_layout.specs.declared.data_lines.RuleSign.TheVariants.{Single}
use Rattle.tbl_options.specs.declared.options.Boxing.{Boxing}
use Rattle.tbl_lines.specs.CellsLeft.{Left, goes_on}
use Rattle.tbl_lines.specs.RowsLeft.{first_of}
use Rattle.tbl_lines.specs.PictureLines.{Cell, OfKeys, RuleLine, Sheet, Whole, bar, crossed_at, crossing, joint, line_of, nothing_there, one_run, repeated, sign_over, with_fronts}
use Rattle.tbl_format.specs.FormatLaws.{bars_among}

-- the rule that a cell shows on the line that comes, if it does; and the one that two cells beside each other both show
abbrev pub rule_of : Content → Option RuleSign
rule_of (Ruled sign) = Some sign
rule_of field = None

abbrev pub rule_here : Left → Option RuleSign
rule_here c = if c.lead == 0 then rule_of c.field else None

abbrev pub same_sign : Option RuleSign → Option RuleSign → Option RuleSign
same_sign None next = None
same_sign (Some sign) None = None
same_sign (Some sign) (Some next) = if is_same_sign sign next then Some sign else None

abbrev pub joined_here : Left → Left → Option RuleSign
joined_here c d = same_sign (rule_here c) (rule_here d)

-- what a cell shows on a line: where, and whether it is a text, whose cell has come over so many rows; and of which cell it is, if it runs
-- on beyond its columns
pub record Shown : Type 0 where
  pub at : ℕ
  pub runs : List Run
  pub is_text : Bool
  pub rows : ℕ
  pub runs_on : Option Left

abbrev pub drawn_at : ℕ → ℕ → ℕ → Shown
drawn_at at b count = record { at = at; runs = repeated b count ∷ []; is_text = false; rows = 0; runs_on = None }

-- whether what stands in a cell has no width and would pass an end of its columns: then it begins at their first place
abbrev pub runs_on : Left → Column → Bool
runs_on own c = own.key.has_no_width && (own.lead == 0 && passes c own.key.key (stands own.key.key own.field))

abbrev pub place_of_text : Left → Column → ℕ
place_of_text own c = if runs_on own c then 0 else place_in c own.key.key (stands own.key.key own.field)

abbrev pub if_here : Left → Shown → Shown
if_here c s = if c.lead == 0 then s else record s { runs = [] }

-- by its field, in its columns as one; a rule ends at a column of the page
abbrev pub shown_by : Content → Left → Column → ℕ → Shown
shown_by (Ruled sign) own c end = if_here own (drawn_at c.start (sign_byte sign) (end - c.start))
shown_by Short own c end = if_here own (drawn_at (c.start + place_of_rule c own.key.key) (sign_byte Single) (widest_entry c.needs))
shown_by (Repeated b) own c end = if_here own (drawn_at c.start b c.width)
shown_by field own c end = record {
  at = c.start + place_of_text own c;
  runs = if own.lead == 0 then get_or (lines_of_field own.key.key field) own.gone [] else [];
  is_text = true;
  rows = own.rows;
  runs_on = if runs_on own c then Some own else None;
}

abbrev pub shown : Left → Column → ℕ → Shown
shown own c end = shown_by own.field own c end

-- texts that begin at one column of the page stand in the order of the rows in which their cells began
abbrev pub is_behind : Shown → Shown → Bool
is_behind s other = s.is_text && other.is_text && s.at == other.at && nat_lt other.rows s.rows

abbrev pub put : Shown → List Shown → List Shown
put s [] = s ∷ []
put s (other ∷ others) = if is_behind s other then s ∷ other ∷ others else other ∷ put s others

abbrev pub in_order : List Shown → List Shown → List Shown
in_order done [] = done
in_order done (s ∷ others) = in_order (put s done) others

-- where the next bar or rule stands on a line, behind what is shown by some of its cells: at its end none does
abbrev pub is_there : List Run → Bool
is_there runs = nat_lt 0 (columns_of runs)

abbrev pub next_drawn : ℕ → List Cell → List Shown → ℕ
next_drawn end [] [] = end
next_drawn end (f ∷ fronts) [] = if is_there (first_of f) then f.at else end
next_drawn end [] (s ∷ cells) = if not s.is_text && is_there s.runs then s.at else next_drawn end [] cells
next_drawn end (f ∷ fronts) (s ∷ cells) =
    if is_there (first_of f) then f.at else if not s.is_text && is_there s.runs then s.at else next_drawn end fronts cells

-- what runs on ends in front of that, and of the column behind which its cell says
abbrev pub end_of_columns : Sheet → ℕ → ℕ
end_of_columns s column = get_or (map (λ c. c.start) s.columns) column s.width

abbrev pub room_by : Sheet → ℕ → ℕ → Left → ℕ
room_by s drawn at own = min drawn (end_of_columns s own.stop) - at

-- and of what passes its room as much is shown as fits
abbrev pub cut_to : ℕ → Left → Shown → Shown
cut_to room own c =
    if nat_lt room (columns_of c.runs) then record c { runs = line_within room own.key.key own.field own.gone } else c

abbrev pub if_runs_on : Option Left → Sheet → ℕ → Shown → Shown
if_runs_on None s drawn c = c
if_runs_on (Some own) s drawn c = cut_to (room_by s drawn c.at own) own c

abbrev pub all_cut : Sheet → List Cell → List Shown → List Shown
all_cut s fronts [] = []
all_cut s fronts (c ∷ cells) =
    if_runs_on c.runs_on s (next_drawn s.width (drop 1 fronts) cells) c ∷ all_cut s (drop 1 fronts) cells

-- the cells of which it was more
abbrev pub if_cut : Option Left → Sheet → ℕ → Shown → List Left
if_cut None s drawn c = []
if_cut (Some own) s drawn c = if nat_lt (room_by s drawn c.at own) (columns_of c.runs) then own ∷ [] else []

abbrev pub cut_cells : Sheet → List Cell → List Shown → List Left
cut_cells s fronts [] = []
cut_cells s fronts (c ∷ cells) =
    if_cut c.runs_on s (next_drawn s.width (drop 1 fronts) cells) c ++ cut_cells s (drop 1 fronts) cells

-- a line: what stands in front of each cell, and behind the last, and what the cells show
abbrev pub shown_cell : Shown → Cell
shown_cell s = record { at = s.at; lines = s.runs ∷ []; below = [] }

abbrev pub line_by : Sheet → List Cell → List Shown → List ℕ
line_by s fronts cells = line_of 0 (with_fronts fronts (map shown_cell (in_order [] (all_cut s fronts cells))))

-- The lines of a row.

-- where a rule over a cell ends: one that is drawn alike goes on with it, up to the bars between them
abbrev pub end_by : Option RuleSign → ℕ → Column → Column → ℕ
end_by None bars c d = c.start + c.width
end_by (Some sign) bars c d = joint bars c d

abbrev pub row_shown : Boxing → List Left → List Column → List Shown
row_shown boxing [] columns = []
row_shown boxing (own ∷ cells) [] = []
row_shown boxing (own ∷ []) (c ∷ columns) = shown own c (c.start + c.width) ∷ []
row_shown boxing (own ∷ next ∷ cells) (c ∷ []) = shown own c (c.start + c.width) ∷ []
row_shown boxing (own ∷ next ∷ cells) (c ∷ d ∷ columns) =
    shown own c (end_by (joined_here own next) (inner_bars boxing next.key.bars) c d) ∷ row_shown boxing (next ∷ cells) (d ∷ columns)

-- so many bars, which begin at a column of the page; and those between two cells, which the same rule of both crosses
abbrev pub bars_there : ℕ → ℕ → Cell
bars_there at zero = nothing_there
bars_there at (suc n) = one_run at (repeated bar (suc n))

abbrev pub crossed_or_not : Option RuleSign → ℕ → Column → Column → Cell
crossed_or_not joined zero c d = nothing_there
crossed_or_not None (suc n) c d = bars_there (bar_place (suc n) c d) (suc n)
crossed_or_not (Some sign) (suc n) c d = crossed_at (bar_place (suc n) c d) (suc n) sign d.start

abbrev pub between : Boxing → List Left → List Column → List Cell
between boxing [] columns = []
between boxing (own ∷ []) columns = []
between boxing (own ∷ next ∷ cells) [] = []
between boxing (own ∷ next ∷ cells) (c ∷ []) = []
between boxing (own ∷ next ∷ cells) (c ∷ d ∷ columns) =
    crossed_or_not (joined_here own next) (inner_bars boxing next.key.bars) c d ∷ between boxing (next ∷ cells) (d ∷ columns)

-- the bars in front of the first of some keys
abbrev pub first_bars : List Left → ℕ
first_bars [] = 0
first_bars (own ∷ cells) = own.key.bars

abbrev pub row_fronts : Sheet → ℕ → List Left → List Column → List Cell
row_fronts s last cells columns =
    let boxing = s.bars.boxing in
    let right = edge_bars boxing last in
    if s.bars.has_any
    then bars_there 0 (edge_bars boxing (first_bars cells)) ∷ between boxing cells columns ++ bars_there (s.width - right) right ∷ []
    else []

-- a line of a row whose cells are left so, with so many bars behind the last
abbrev pub row_line : Sheet → ℕ → List Left → List ℕ
row_line s last cells =
    let columns = cells_of (map (λ c. c.key) cells) s.columns in line_by s (row_fronts s last cells columns) (row_shown s.bars.boxing cells columns)

-- and the cells of which something is cut on it
abbrev pub row_cut : Sheet → ℕ → List Left → List Left
row_cut s last cells =
    let columns = cells_of (map (λ c. c.key) cells) s.columns in
    cut_cells s (row_fronts s last cells columns) (row_shown s.bars.boxing cells columns)

-- Lines of rules, through which cells of the row below go that go on from the row above.

-- what a line of rules meets over a column: no cell, or one, in its columns as one, which begins there or not
pub data Over : Type 0 where
  Free : Over
  Through : (is_first : Bool) (cell : Left) (column : Column) → Over

abbrev pub overs_from : Bool → Left → Column → ℕ → List Over
overs_from is_first own column zero = []
overs_from is_first own column (suc count) = Through is_first own column ∷ overs_from false own column count

abbrev pub overs_of : Left → List Column → List Over
overs_of own columns =
    if goes_on own then overs_from true own (as_one columns) (length columns) else replicate (length columns) Free

abbrev pub overs : ℕ → List Left → List Column → List Over
overs from [] columns = []
overs from (own ∷ cells) columns = let count = own.key.end - from in
    overs_of own (take count columns) ++ overs own.key.end cells (drop count columns)

abbrev pub over_at : List Over → ℕ → Over
over_at all column = get_or all column Free

abbrev pub is_free : Over → Bool
is_free Free = true
is_free (Through is_first cell column) = false

abbrev pub is_within : Over → Bool
is_within Free = false
is_within (Through is_first cell column) = not is_first

-- whether the line rules a column: a row of rule keys has a key for each that it rules
abbrev pub has_column : RuleLine → ℕ → Bool
has_column (Whole sign) column = true
has_column (OfKeys format) column = nat_lt column (length format.keys)

abbrev pub rules_column : RuleLine → List Over → ℕ → Bool
rules_column line all column = is_free (over_at all column) && has_column line column

-- boundaries are those in front of columns, of which a table has so many, and the one behind the last. Whether the line rules one: an edge,
-- which it does over the whole picture alone; and the places of bars between two columns
abbrev pub rules_edge : RuleLine → Over → Bool
rules_edge (Whole sign) over = is_free over
rules_edge (OfKeys format) over = false

abbrev pub rules_boundary : ℕ → RuleLine → List Over → ℕ → Bool
rules_boundary count line all zero = rules_edge line (over_at all 0)
rules_boundary count line all (suc column) =
    if suc column == count then rules_edge line (over_at all column)
    else rules_column line all column || rules_column line all (suc column)

-- how many bars a line has itself at a boundary
abbrev pub bars_by : Boxing → ℕ → ℕ → ℕ → ℕ
bars_by boxing count boundary bars = if boundary == 0 || boundary == count then edge_bars boxing bars else inner_bars boxing bars

abbrev pub own_bars : Boxing → ℕ → RuleLine → ℕ → ℕ
own_bars boxing count (Whole sign) boundary = 0
own_bars boxing count (OfKeys format) boundary = bars_by boxing count boundary (bars_among format.keys format.bars boundary)

-- the line above or below another one: none; one of a row whose cells are left so, with so many bars behind the last; or a line of rules,
-- behind which another line stands
pub data Beside : Type 0 where
  Nothing : Beside
  OfRow : (cells : List Left) (last : ℕ) → Beside
  OfRules : (line : RuleLine) (all : List Over) (behind : Beside) → Beside

-- how many bars a line of a row shows in front of a cell, or behind the last: none where the same rule of two cells crosses them
abbrev pub bars_in_front : Boxing → ℕ → List Left → ℕ → ℕ
bars_in_front boxing last cells zero = edge_bars boxing (first_bars cells)
bars_in_front boxing last [] (suc cell) = 0
bars_in_front boxing last (own ∷ []) (suc zero) = edge_bars boxing last
bars_in_front boxing last (own ∷ []) (suc (suc cell)) = 0
bars_in_front boxing last (own ∷ next ∷ cells) (suc zero) = if is_some (joined_here own next) then 0 else inner_bars boxing next.key.bars
bars_in_front boxing last (own ∷ next ∷ cells) (suc (suc cell)) = bars_in_front boxing last (next ∷ cells) (suc cell)

abbrev pub bars_at_cell : Boxing → ℕ → List Left → Option ℕ → ℕ
bars_at_cell boxing last cells None = 0
bars_at_cell boxing last cells (Some cell) = bars_in_front boxing last cells cell

-- how many bars a line shows at a boundary: a line of rules shows none where it is ruled, nor within a cell, and else its own and those of
-- the line behind it
abbrev pub shown_bars : Boxing → ℕ → Beside → ℕ → ℕ
shown_bars boxing count Nothing boundary = 0
shown_bars boxing count (OfRow cells last) boundary = bars_at_cell boxing last cells (cell_behind (map (λ c. c.key) cells) boundary)
shown_bars boxing count (OfRules line all behind) boundary =
    if rules_boundary count line all boundary || is_within (over_at all boundary) then 0
    else max (own_bars boxing count line boundary) (shown_bars boxing count behind boundary)

-- how many bars meet or stand at a boundary on a line of rules, between those above and below, in a picture that may have some
abbrev pub bars_met : Bars → ℕ → RuleLine → List Over → Beside → Beside → ℕ → ℕ
bars_met bars count line all above below boundary =
    let boxing = bars.boxing in
    let beside = max (shown_bars boxing count above boundary) (shown_bars boxing count below boundary) in
    if not bars.has_any || is_within (over_at all boundary) then 0
    else if rules_boundary count line all boundary then beside
    else max (own_bars boxing count line boundary) beside

-- a rule from a place up to another one, which so many bars cross at a third
abbrev pub ruled_over : RuleSign → ℕ → ℕ → ℕ → ℕ → Cell
ruled_over sign from at count end = record {
  at = from;
  lines = (repeated (sign_byte sign) (at - from) ∷ repeated crossing count ∷ repeated (sign_byte sign) (end - (at + count)) ∷ []) ∷ [];
  below = [];
}

-- an edge with so many bars: a rule over it crosses them
abbrev pub edge : Bool → ℕ → ℕ → Cell
edge is_ruled at zero = nothing_there
edge is_ruled at (suc n) = one_run at (repeated (if is_ruled then crossing else bar) (suc n))

-- how the line is drawn over a column
abbrev pub sign_at : RuleLine → Over → ℕ → Option RuleSign
sign_at line Free column = sign_over line column
sign_at line over column = None

-- what stands between two columns, where so many bars meet or stand: the rule over the first up to the end of the bars' places; where a cell
-- goes through there, that over the second from their beginning on; where cells go through both, the same rule of theirs; else the bars
abbrev pub if_ruled : Option RuleSign → ℕ → ℕ → Column → Column → ℕ → Cell
if_ruled None from count c d end = bars_there (bar_place count c d) count
if_ruled (Some sign) from count c d end = ruled_over sign from (bar_place count c d) count end

abbrev pub front_between : RuleLine → ℕ → Over → Over → ℕ → Column → Column → Cell
front_between line column Free next count c d = if_ruled (sign_over line column) (c.start + c.width) count c d (bars_end c d)
front_between line column (Through is_first own one) Free count c d =
    if_ruled (sign_over line (suc column)) (bars_begin c d) count c d (bars_end c d)
front_between line column (Through is_first own one) (Through next_first next two) count c d =
    if_ruled (joined_here own next) (c.start + c.width) count c d d.start

-- and all of that, from a column on: within a cell nothing stands
abbrev pub fronts_between : Sheet → RuleLine → List Over → Beside → Beside → ℕ → List Column → List Cell
fronts_between s line all above below column [] = []
fronts_between s line all above below column (c ∷ []) = []
fronts_between s line all above below column (c ∷ d ∷ columns) =
    let next = over_at all (suc column) in
    let count = bars_met s.bars (length s.columns) line all above below (suc column) in
    let others = fronts_between s line all above below (suc column) (d ∷ columns) in
    if is_within next then others else front_between line column (over_at all column) next count c d ∷ others

-- what stands over a column on a line of rules: its rule from a place up to another one, or the line of a cell that begins there
abbrev pub if_drawn : Option RuleSign → ℕ → ℕ → List Shown
if_drawn None from to = drawn_at from bar 0 ∷ []
if_drawn (Some sign) from to = drawn_at from (sign_byte sign) (to - from) ∷ []

abbrev pub over_shown : RuleLine → ℕ → Over → ℕ → ℕ → List Shown
over_shown line column Free from to = if_drawn (sign_over line column) from to
over_shown line column (Through is_first own one) from to = if is_first then shown own one (one.start + one.width) ∷ [] else []

-- over columns from one on, the first of which is ruled from a place on, and the last up to one
abbrev pub all_shown : RuleLine → List Over → ℕ → ℕ → ℕ → List Column → List Shown
all_shown line all column from to [] = []
all_shown line all column from to (c ∷ []) = over_shown line column (over_at all column) from to
all_shown line all column from to (c ∷ d ∷ columns) =
    over_shown line column (over_at all column) from (c.start + c.width)
    ++ all_shown line all (suc column) (bars_end c d) to (d ∷ columns)

-- what stands between the columns on a line of rules in front of a row of which these cells go on, with the edges of the picture, and what is
-- shown over them: at an edge that it rules it begins and ends with the picture's bars
abbrev pub rule_fronts : Sheet → RuleLine → List Left → Beside → Beside → List Cell
rule_fronts s line cells above below =
    let count = length s.columns in
    let all = overs 0 cells s.columns in
    let left = bars_met s.bars count line all above below 0 in
    let right = bars_met s.bars count line all above below count in
    edge (rules_edge line (over_at all 0)) 0 left
    ∷ fronts_between s line all above below 0 s.columns
    ++ edge (rules_edge line (over_at all (count - 1))) (s.width - right) right ∷ []

abbrev pub rule_shown : Sheet → RuleLine → List Left → Beside → Beside → List Shown
rule_shown s line cells above below =
    let count = length s.columns in
    let all = overs 0 cells s.columns in
    let left = bars_met s.bars count line all above below 0 in
    let right = bars_met s.bars count line all above below count in
    let from = if rules_edge line (over_at all 0) then left else first_start left s.columns in
    let to = if rules_edge line (over_at all (count - 1)) then s.width - right else last_end 0 s.columns in
    all_shown line all 0 from to s.columns

-- the line, and the cells of which something is cut on it
abbrev pub rule_line_left : Sheet → RuleLine → List Left → Beside → Beside → List ℕ
rule_line_left s line cells above below = line_by s (rule_fronts s line cells above below) (rule_shown s line cells above below)

abbrev pub rule_cut : Sheet → RuleLine → List Left → Beside → Beside → List Left
rule_cut s line cells above below = cut_cells s (rule_fronts s line cells above below) (rule_shown s line cells above below)
