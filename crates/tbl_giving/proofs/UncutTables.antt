-- Nothing is cut of a table under whose keys all has a width.
use Rattle.std.proofs.Common.{◌≡◌, ℕ, zero, suc, ◌+◌, ◌-◌, ◌==◌, ◌&&◌, min, not, Bool, true, false, List, [], ◌∷◌, ◌++◌, length, map, take, drop, replicate, get_or, refl, ap, ◌∙◌, arith, if◌then◌else◌, Option, None, Some}
use Rattle.std.specs.List.{AllByRecursion}
use Rattle.tbl_format.proofs.Elements.{each-append}
use Rattle.tbl_format.specs.Format.{FormatRow, columns_of_keys}
use Rattle.tbl_format.specs.declared.format.FormatKey.{FormatKey}
use Rattle.tbl_layout.specs.Columns.{bars_end}
use Rattle.tbl_layout.specs.Entries.{Above, Block, Command, Content, Element, Repeated, Row, Rule, Ruled, Short, Text, field_at}
use Rattle.tbl_layout.specs.Heights.{cell_above, heights}
use Rattle.tbl_layout.specs.LayoutLaws.{first_start, last_end}
use Rattle.tbl_layout.specs.Spans.{as_one, cells_of}
use Rattle.tbl_layout.specs.Widths.{inner_bars}
use Rattle.tbl_layout.specs.declared.columns.Column.{Column}
use Rattle.tbl_layout.specs.declared.data_lines.RuleSign.{RuleSign}
use Rattle.tbl_options.specs.declared.options.Boxing.{Boxing}
use Rattle.tbl_lines.specs.CellsLeft.{Left, all_keys, all_stopped, bars_at_end, begun, behind_line, cell_by, cells_from, cells_next, first_used, gone_on, goes_on, keys_behind, lines_over, nothing_left, rest_by, stop_below}
use Rattle.tbl_lines.specs.CutEntries.{all_with_cut, behind_key_lines, behind_row, cut_entries, cut_from, cut_in_keys, cut_in_row, first_cut, first_from, with_cut}
use Rattle.tbl_lines.specs.LinesLeft.{Beside, Free, Nothing, OfRow, OfRules, Over, Shown, Through, all_shown, bars_met, end_by, if_drawn, joined_here, over_at, over_shown, overs, overs_from, overs_of, row_cut, row_fronts, row_shown, rule_cut, rule_fronts, rules_edge, shown}
use Rattle.tbl_lines.specs.PictureLeft.{behind_keys, behind_lines, below_of, through_rule, through_rules}
use Rattle.tbl_lines.specs.PictureLines.{OfKeys, RuleLine, Sheet, Whole, boxed, frame_rules, frame_sign, rule_in_front, ruled_between, ruled_inside, sign_over}
use Rattle.tbl_lines.specs.RowsAlone.{AllHaveWidth, HaveWidth}
use Rattle.tbl_lines.proofs.CutLines.{NoneRunOn, cut_cells-none, shown-none}
use Rattle.tbl_lines.proofs.PlainKeys.{width-all}

-- what stands in cells has a width
abbrev IsWide : Left → Type 0
IsWide c = c.key.has_no_width ≡ false

abbrev AreWide : List Left → Type 0
AreWide cells = AllByRecursion IsWide cells

-- also in those that go through a line of rules
abbrev IsWideOver : Over → Type 0
IsWideOver Free = Unit {0}
IsWideOver (Through is_first own column) = IsWide own

-- on a line of a row
row-none : (boxing : Boxing) (cells : List Left) (columns : List Column) → AreWide cells → NoneRunOn (row_shown boxing cells columns)
row-none boxing [] columns wide = tt
row-none boxing (own ∷ cells) [] wide = tt
row-none boxing (own ∷ []) (c ∷ columns) wide = (shown-none own.field own c (c.start + c.width) wide.0, tt)
row-none boxing (own ∷ next ∷ cells) (c ∷ []) wide = (shown-none own.field own c (c.start + c.width) wide.0, tt)
row-none boxing (own ∷ next ∷ cells) (c ∷ d ∷ columns) wide = (
  shown-none own.field own c (end_by (joined_here own next) (inner_bars boxing next.key.bars) c d) wide.0,
  row-none boxing (next ∷ cells) (d ∷ columns) wide.1,
)

row-uncut : (s : Sheet) (last : ℕ) (cells : List Left) → AreWide cells → row_cut s last cells ≡ []
row-uncut s last cells wide =
    let columns = cells_of (map (λ c. c.key) cells) s.columns in
    cut_cells-none s (row_fronts s last cells columns) (row_shown s.bars.boxing cells columns) (row-none s.bars.boxing cells columns wide)

-- and of rules
through-wide : (is_first : Bool) (own : Left) (column : Column) (count : ℕ) → IsWide own
    → AllByRecursion IsWideOver (overs_from is_first own column count)
through-wide is_first own column zero wide = tt
through-wide is_first own column (suc count) wide = (wide, through-wide false own column count wide)

free-wide : (count : ℕ) → AllByRecursion IsWideOver (replicate count Free)
free-wide zero = tt
free-wide (suc count) = (tt, free-wide count)

over-by : (on : Bool) (own : Left) (columns : List Column) → IsWide own
    → AllByRecursion IsWideOver (if on then overs_from true own (as_one columns) (length columns) else replicate (length columns) Free)
over-by true own columns wide = through-wide true own (as_one columns) (length columns) wide
over-by false own columns wide = free-wide (length columns)

overs-wide : (from : ℕ) (cells : List Left) (columns : List Column) → AreWide cells → AllByRecursion IsWideOver (overs from cells columns)
overs-wide from [] columns wide = tt
overs-wide from (own ∷ cells) columns wide =
    let count = own.key.end - from in
    each-append IsWideOver (overs_of own (take count columns)) (overs own.key.end cells (drop count columns))
    (over-by (goes_on own) own (take count columns) wide.0) (overs-wide own.key.end cells (drop count columns) wide.1)

over-there : (all : List Over) (column : ℕ) → AllByRecursion IsWideOver all → IsWideOver (over_at all column)
over-there [] column wide = tt
over-there (o ∷ all) zero wide = wide.0
over-there (o ∷ all) (suc column) wide = over-there all column wide.1

drawn-none : (sign : Option RuleSign) (from to : ℕ) → NoneRunOn (if_drawn sign from to)
drawn-none None from to = (refl, tt)
drawn-none (Some sign) from to = (refl, tt)

first-none : (is_first : Bool) (own : Left) (one : Column) → IsWide own
    → NoneRunOn (if is_first then shown own one (one.start + one.width) ∷ [] else [])
first-none true own one wide = (shown-none own.field own one (one.start + one.width) wide, tt)
first-none false own one wide = tt

column-none : (line : RuleLine) (column : ℕ) (o : Over) (from to : ℕ) → IsWideOver o → NoneRunOn (over_shown line column o from to)
column-none line column Free from to wide = drawn-none (sign_over line column) from to
column-none line column (Through is_first own one) from to wide = first-none is_first own one wide

columns-none : (line : RuleLine) (all : List Over) (column from to : ℕ) (columns : List Column) → AllByRecursion IsWideOver all
    → NoneRunOn (all_shown line all column from to columns)
columns-none line all column from to [] wide = tt
columns-none line all column from to (c ∷ []) wide = column-none line column (over_at all column) from to (over-there all column wide)
columns-none line all column from to (c ∷ d ∷ columns) wide =
    each-append (λ (x : Shown). x.runs_on ≡ None) (over_shown line column (over_at all column) from (c.start + c.width))
    (all_shown line all (suc column) (bars_end c d) to (d ∷ columns))
    (column-none line column (over_at all column) from (c.start + c.width) (over-there all column wide))
    (columns-none line all (suc column) (bars_end c d) to (d ∷ columns) wide)

rule-uncut : (s : Sheet) (line : RuleLine) (cells : List Left) (above below : Beside) → AreWide cells → rule_cut s line cells above below ≡ []
rule-uncut s line cells above below wide =
    let count = length s.columns in
    let all = overs 0 cells s.columns in
    let left = bars_met s.bars count line all above below 0 in
    let right = bars_met s.bars count line all above below count in
    let from = if rules_edge line (over_at all 0) then left else first_start left s.columns in
    let to = if rules_edge line (over_at all (count - 1)) then s.width - right else last_end 0 s.columns in
    cut_cells-none s (rule_fronts s line cells above below) (all_shown line all 0 from to s.columns)
    (columns-none line all 0 from to s.columns (overs-wide 0 cells s.columns wide))

-- behind a line cells have their keys still
wide-map : (f : Left → Left) → ((c : Left) → (f c).key ≡ c.key) → (cells : List Left) → AreWide cells → AreWide (map f cells)
wide-map f same [] wide = tt
wide-map f same (c ∷ cells) wide = (ap (λ (k : FormatKey). k.has_no_width) (same c) ∙ wide.0, wide-map f same cells wide.1)

rest-key : (field : Content) (c : Left) → (rest_by field c).key ≡ c.key
rest-key (Text bytes) c = refl
rest-key (Block measure lines) c = refl
rest-key (Ruled sign) c = refl
rest-key Short c = refl
rest-key (Repeated b) c = refl
rest-key Above c = refl

line-by : (at_once : Bool) (c : Left) → (if at_once then rest_by c.field c else record c { lead = c.lead - 1 }).key ≡ c.key
line-by true c = rest-key c.field c
line-by false c = refl

line-key : (c : Left) → (behind_line c).key ≡ c.key
line-key c = line-by (c.lead == 0) c

rule-by : (goes : Bool) (c : Left) → (if goes then behind_line c else c).key ≡ c.key
rule-by true c = line-key c
rule-by false c = refl

rule-key : (c : Left) → (through_rule c).key ≡ c.key
rule-key c = rule-by (goes_on c) c

wide-cut : (cut cells : List Left) → AreWide cells → AreWide (all_with_cut cut cells)
wide-cut cut cells wide = wide-map (with_cut cut) (λ c. refl) cells wide

none-from : (end columns : ℕ) → first_from [] end columns ≡ 0
none-from end zero = refl
none-from end (suc columns) = omega (arith, none-from (suc end) columns)

none-first : (columns : ℕ) (cut : List Left) → cut ≡ [] → first_cut columns cut ≡ 0
none-first columns cut none = ap (first_cut columns) none ∙ none-from 1 columns

-- on the lines of a row
module _ (s : Sheet) where
  row-zero : (last lines : ℕ) (cells : List Left) → AreWide cells → cut_in_row s last lines cells ≡ 0
  row-zero last zero cells wide = refl
  row-zero last (suc lines) cells wide =
      let cut = row_cut s last cells in
      let behind = all_with_cut cut cells in
      omega (
        arith,
        none-first (length s.columns) cut (row-uncut s last cells wide),
        row-zero last lines (map behind_line behind) (wide-map behind_line line-key behind (wide-cut cut cells wide)),
      )

  row-wide : (last lines : ℕ) (cells : List Left) → AreWide cells → AreWide (behind_row s last lines cells)
  row-wide last zero cells wide = wide
  row-wide last (suc lines) cells wide =
      let cut = row_cut s last cells in
      let behind = all_with_cut cut cells in
      row-wide last lines (map behind_line behind) (wide-map behind_line line-key behind (wide-cut cut cells wide))

  -- and of rules in front of it
  keys-zero : (cells : List Left) (above : Beside) (formats : List FormatRow) (below : Beside) → AreWide cells
      → cut_in_keys s cells above formats below ≡ 0
  keys-zero cells above [] below wide = refl
  keys-zero cells above (format ∷ formats) below wide =
      let others = behind_keys s cells formats below in
      let cut = rule_cut s (OfKeys format) cells above others in
      let behind = all_with_cut cut cells in
      omega (
        arith,
        none-first (length s.columns) cut (rule-uncut s (OfKeys format) cells above others wide),
        keys-zero (map through_rule behind) (OfRules (OfKeys format) (overs 0 cells s.columns) above) formats below
            (wide-map through_rule rule-key behind (wide-cut cut cells wide)),
      )

  keys-wide : (cells : List Left) (above : Beside) (formats : List FormatRow) (below : Beside) → AreWide cells
      → AreWide (behind_key_lines s cells above formats below)
  keys-wide cells above [] below wide = wide
  keys-wide cells above (format ∷ formats) below wide =
      let cut = rule_cut s (OfKeys format) cells above (behind_keys s cells formats below) in
      let behind = all_with_cut cut cells in
      keys-wide (map through_rule behind) (OfRules (OfKeys format) (overs 0 cells s.columns) above) formats below
      (wide-map through_rule rule-key behind (wide-cut cut cells wide))

-- the cells of the row that comes next
on-wide : (k : FormatKey) (cells : List Left) → AreWide cells → AreWide (map (gone_on k) cells)
on-wide k [] wide = tt
on-wide k (c ∷ cells) wide = (wide.0, on-wide k cells wide.1)

there-wide : (cells : List Left) (at : ℕ) (new : Left) → AreWide cells → IsWide new → IsWide (get_or cells at new)
there-wide [] at new wide own = own
there-wide (c ∷ cells) zero new wide own = wide.0
there-wide (c ∷ cells) (suc at) new wide own = there-wide cells at new wide.1 own

cell-wide : (other : Option ℕ) (above : List Left) (new : Left) → AreWide above → IsWide new → IsWide (cell_by other above new)
cell-wide None above new wide own = own
cell-wide (Some at) above new wide own = there-wide (map (gone_on new.key) above) at new (on-wide new.key above wide) own

cells-wide : (keys : List FormatKey) (above : List Left) (heights : List ℕ) (elements : List Element) (format : FormatRow) (fields : List Content)
    (cell : ℕ) (own : List FormatKey) → AreWide above → HaveWidth own → AreWide (cells_from keys above heights elements format fields cell own)
cells-wide keys above heights elements format fields cell [] wide have = tt
cells-wide keys above heights elements format fields cell (k ∷ own) wide have =
    let more = lines_over format.keys cell 0 (drop 1 heights) elements in (
      cell-wide (cell_above keys format.keys fields cell) above (begun k (field_at fields cell) (get_or heights 0 0) more) wide have.0,
      cells-wide keys above heights elements format fields (suc cell) own wide have.1,
    )

stop-wide : (new : Bool) (c : Left) (stop : ℕ) → IsWide c → IsWide (if new then record c { stop = stop } else c)
stop-wide true c stop wide = wide
stop-wide false c stop wide = wide

stopped-wide : (columns : ℕ) (keys : List FormatKey) (elements : List Element) (cell : ℕ) (cells : List Left) → AreWide cells
    → AreWide (all_stopped columns keys elements cell cells)
stopped-wide columns keys elements cell [] wide = tt
stopped-wide columns keys elements cell (c ∷ cells) wide = (
  stop-wide (c.key.has_no_width && not (goes_on c)) c (min (first_used columns c.key.end cells) (stop_below columns keys cell elements)) wide.0,
  stopped-wide columns keys elements (suc cell) cells wide.1,
)

nothing-wide : (columns column : ℕ) → AreWide (map nothing_left (keys_behind columns 0 column))
nothing-wide zero column = tt
nothing-wide (suc columns) column = (refl, nothing-wide columns (suc column))

next-wide : (columns : ℕ) (keys : List FormatKey) (above : List Left) (heights : List ℕ) (elements : List Element) → AreWide above
    → AllHaveWidth elements → AreWide (cells_next columns keys above heights elements)
next-wide columns keys above heights [] wide have = nothing-wide columns 0
next-wide columns keys above heights (Row rules format fields ∷ elements) wide have =
    let own = columns_of_keys format.keys in
    stopped-wide columns format.keys elements 0 (cells_from keys above heights elements format fields 0 (all_keys columns format))
    (cells-wide keys above heights elements format fields 0 (all_keys columns format) wide
    (width-all format.keys (columns - own) format.bars own have.0))
next-wide columns keys above heights (Rule sign ∷ elements) wide have = next-wide columns keys above heights elements wide have
next-wide columns keys above heights (Command bytes ∷ elements) wide have = next-wide columns keys above heights elements wide have

-- on all lines
from-zero : (s : Sheet) (heights : List ℕ) (cells : List Left) (above : Beside) (elements : List Element) → AreWide cells → AllHaveWidth elements
    → cut_from s heights cells above elements ≡ 0
from-zero s heights cells above [] wide have = refl
from-zero s heights cells above (Row rules format fields ∷ elements) wide have =
    let count = length s.columns in
    let height = get_or heights 0 0 in
    let last = bars_at_end count format in
    let below = OfRow (through_rules (length rules) cells) last in
    let own = behind_key_lines s cells above rules below in
    let own-wide = keys-wide s cells above rules below wide in
    let behind = behind_row s last height own in
    let next = cells_next count format.keys behind (drop 1 heights) elements in
    omega (
      arith,
      keys-zero s cells above rules below wide,
      row-zero s last height own own-wide,
      from-zero s (drop 1 heights) next (OfRow (behind_lines (height - 1) own) last) elements
          (next-wide count format.keys behind (drop 1 heights) elements (row-wide s last height own own-wide) have.1) have.1,
    )
from-zero s heights cells above (Rule sign ∷ elements) wide have =
    let below = below_of s (map through_rule cells) elements in
    let cut = rule_cut s (Whole sign) cells above below in
    let behind = all_with_cut cut cells in
    omega (
      arith,
      none-first (length s.columns) cut (rule-uncut s (Whole sign) cells above below wide),
      from-zero s heights (map through_rule behind) (OfRules (Whole sign) (overs 0 cells s.columns) above) elements
          (wide-map through_rule rule-key behind (wide-cut cut cells wide)) have,
    )
from-zero s heights cells above (Command bytes ∷ elements) wide have = from-zero s heights cells above elements wide have

-- the rules of a box don't change that
append-have : (elements others : List Element) → AllHaveWidth elements → AllHaveWidth others → AllHaveWidth (elements ++ others)
append-have [] others have more = more
append-have (Row rules format fields ∷ elements) others have more = (have.0, append-have elements others have.1 more)
append-have (Rule sign ∷ elements) others have more = append-have elements others have more
append-have (Command bytes ∷ elements) others have more = append-have elements others have more

front-have : (behind_row : Bool) (rules : List FormatRow) (elements : List Element) → AllHaveWidth elements
    → AllHaveWidth (rule_in_front behind_row rules ++ elements)
front-have true [] elements have = have
front-have true (format ∷ rules) elements have = have
front-have false rules elements have = have

between-have : (behind_row : Bool) (elements : List Element) → AllHaveWidth elements → AllHaveWidth (ruled_between behind_row elements)
between-have behind_row [] have = tt
between-have behind_row (Row rules format fields ∷ elements) have =
    front-have behind_row rules (Row rules format fields ∷ ruled_between true elements) (have.0, between-have true elements have.1)
between-have behind_row (Rule sign ∷ elements) have = between-have false elements have
between-have behind_row (Command bytes ∷ elements) have = between-have behind_row elements have

inside-have : (is_inside : Bool) (elements : List Element) → AllHaveWidth elements
    → AllHaveWidth (if is_inside then ruled_between false elements else elements)
inside-have true elements have = between-have false elements have
inside-have false elements have = have

frame-have : (none : Bool) (sign : RuleSign) → AllHaveWidth (if none then [] else Rule sign ∷ [])
frame-have true sign = tt
frame-have false sign = tt

boxed-have : (boxing : Boxing) (elements : List Element) → AllHaveWidth elements → AllHaveWidth (boxed boxing elements)
boxed-have boxing elements have =
    let frame = frame-have (boxing.bars == 0) (frame_sign boxing.bars) in
    let inside = ruled_inside boxing false elements in
    append-have (frame_rules boxing) (inside ++ frame_rules boxing) frame
    (append-have inside (frame_rules boxing) (inside-have boxing.is_inside elements have) frame)

pub none-cut : (s : Sheet) (elements : List Element) → AllHaveWidth elements → cut_entries s elements ≡ 0
unfolding cut_entries
none-cut s elements have =
    let count = length s.columns in
    let all = boxed s.bars.boxing elements in
    let all-have = boxed-have s.bars.boxing elements have in
    let own = heights s.bars.boxing.is_inside count elements in
    from-zero s own (cells_next count [] [] own all) Nothing all (next-wide count [] [] own all tt all-have) all-have
