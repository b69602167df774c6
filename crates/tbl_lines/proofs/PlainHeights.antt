-- How high the rows of a table are in which no cell goes on with one above it: each as its highest cell.
use Rattle.std.proofs.Common.{◌≡◌, ℕ, zero, suc, ◌-◌, ◌≤◌, max, Bool, true, false, not, ◌==◌, List, [], ◌∷◌, ◌++◌, length, drop, get_or, refl, sym, ap, ◌∙◌, arith, if◌then◌else◌, Option, None, Some, is_some}
use Rattle.std.specs.List.{AllByRecursion}
use Rattle.tbl_format.proofs.Elements.{each-append}
use Rattle.tbl_format.specs.Cells.{same_cell}
use Rattle.tbl_format.specs.Format.{FormatRow}
use Rattle.tbl_format.specs.FormatRows.{AreWithin}
use Rattle.tbl_format.specs.declared.format.FormatKey.{FormatKey}
use Rattle.tbl_format.specs.declared.format.Key.{Key}
use Rattle.tbl_layout.specs.Columns.{greatest}
use Rattle.tbl_layout.specs.Entries.{Above, Block, Command, Content, Element, Repeated, Row, Rule, Ruled, Short, Text, field_at, key_at}
use Rattle.tbl_layout.specs.Heights.{cell_above, cell_below, ending_from, ends_in_front_of, heights_behind, if_above, is_above, left_of_cell, lefts_from, lines_in, rules_between, NoneAbove}
use Rattle.tbl_layout.specs.Spans.{cells_of}
use Rattle.tbl_layout.specs.declared.columns.Column.{Column}
use Rattle.tbl_layout.specs.declared.data_lines.RuleSign.{RuleSign}
use Rattle.tbl_options.specs.declared.options.Boxing.{Boxing}
use Rattle.tbl_lines.specs.PictureLines.{Cell, Sheet, all_between, bars_at, bars_at_edge, bars_between, bars_by, boxed, cell_of, cells_from, frame_rules, frame_sign, fronts, height, joined_sign, right_bars, row_cells, rule_in_front, ruled_between, ruled_inside, with_fronts}
use Rattle.tbl_lines.specs.RowsAlone.{AllHaveWidth, AllPlaced, AllWithin, HaveWidth}
use Rattle.tbl_lines.specs.RulePlaces.{HasPlaces}
use Rattle.tbl_lines.proofs.CellsLent.{length-cells_of}

-- what stands in front of cells makes no row higher
abbrev AreLow : List Cell → Type 0
AreLow cells = AllByRecursion (λ c. length c.lines ≤ 1) cells

fronts-low : (fs cells : List Cell) → AreLow fs → height (with_fronts fs cells) ≡ height cells
fronts-low [] cells low = refl
fronts-low (f ∷ fs) [] low = omega (arith, low.0, fronts-low fs [] low.1)
fronts-low (f ∷ fs) (c ∷ cells) low = omega (arith, low.0, fronts-low fs cells low.1)

bars-low : (at n : ℕ) → length (bars_at at n).lines ≤ 1
bars-low at zero = omega arith
bars-low at (suc n) = omega arith

by-low : (joined : Option RuleSign) (n : ℕ) (c d : Column) → length (bars_by joined n c d).lines ≤ 1
by-low joined zero c d = omega arith
by-low None (suc n) c d = omega arith
by-low (Some sign) (suc n) c d = omega arith

between-low : (boxing : Boxing) (cell : ℕ) (columns : List Column) (format : FormatRow) (fields : List Content)
    → AreLow (all_between boxing cell columns format fields)
between-low boxing cell [] format fields = tt
between-low boxing cell (c ∷ []) format fields = tt
between-low boxing cell (c ∷ d ∷ columns) format fields = (
  by-low (joined_sign (field_at fields cell) (field_at fields (suc cell))) (bars_between boxing format (suc cell)) c d,
  between-low boxing (suc cell) (d ∷ columns) format fields,
)

if-low : (t : Bool) (cells : List Cell) → AreLow cells → AreLow (if t then cells else [])
if-low true cells low = low
if-low false cells low = tt

all-low : (s : Sheet) (format : FormatRow) (fields : List Content) → AreLow (fronts s format fields)
all-low s format fields =
    let boxing = s.bars.boxing in
    let n = bars_at_edge boxing format (length s.columns) in
    if-low s.bars.has_any
    (bars_at 0 (bars_at_edge boxing format 0) ∷ all_between boxing 0 s.columns format fields ++ right_bars s.width n ∷ []) (
      bars-low 0 (bars_at_edge boxing format 0),
      each-append (λ (c : Cell). length c.lines ≤ 1) (all_between boxing 0 s.columns format fields) (right_bars s.width n ∷ [])
          (between-low boxing 0 s.columns format fields)
          (bars-low (s.width - n) n, tt),
    )

-- a cell has as many lines as its field
cell-lines : (bars : ℕ) (key : Key) (c : Column) (columns : List Column) (next f : Content)
    → lines_in key f ≡ length (cell_of bars key c columns next f).lines
cell-lines bars key c columns next (Text bytes) = refl
cell-lines bars key c columns next (Block measure lines) = refl
cell-lines bars key c columns next (Ruled sign) = refl
cell-lines bars key c columns next Short = refl
cell-lines bars key c columns next (Repeated b) = refl
cell-lines bars key c columns next Above = refl

-- a row of which no cell goes on
module _ (format : FormatRow) (fields : List Content) (none : (cell : ℕ) → is_above (field_at fields cell) ≡ false) where
  pub above-none : (above : List FormatKey) (cell : ℕ) → cell_above above format.keys fields cell ≡ None
  above-none above cell = ap (λ (t : Bool). if t then same_cell above format.keys cell else None) (none cell)

  if-none : (found : Option ℕ) → if_above fields found ≡ None
  if-none None = refl
  if-none (Some cell) = ap (λ (t : Bool). if t then Some cell else None) (none cell)

  pub below-none : (keys : List FormatKey) (cell : ℕ) → cell_below keys format.keys fields cell ≡ None
  below-none keys cell = if-none (same_cell format.keys keys cell)

ends-always : (elements : List Element) → AllByRecursion NoneAbove elements → (keys : List FormatKey) (cell : ℕ) → ends_in_front_of keys elements cell ≡ true
ends-always [] none keys cell = refl
ends-always (Row rules format fields ∷ elements) none keys cell =
    ap (λ (o : Option ℕ). not (is_some o)) (below-none format fields none.0 keys cell)
ends-always (Rule sign ∷ elements) none keys cell = ends-always elements none.1 keys cell
ends-always (Command bytes ∷ elements) none keys cell = ends-always elements none.1 keys cell

module _ (boxing : Boxing) (format : FormatRow) (fields : List Content) (none : (cell : ℕ) → is_above (field_at fields cell) ≡ false)
    (elements : List Element) (rest_none : AllByRecursion NoneAbove elements) (above : List FormatKey) (left : List ℕ) (between : ℕ) where
  abbrev lines : ℕ → ℕ
  lines cell = lines_in (key_at format cell) (field_at fields cell)

  ends-with : (cell : ℕ)
      → (if ends_in_front_of format.keys elements cell then left_of_cell (cell_above above format.keys fields cell) left between (lines cell) else 0)
      ≡ lines cell
  ends-with cell =
      ap (λ (t : Bool). if t then left_of_cell (cell_above above format.keys fields cell) left between (lines cell) else 0)
      (ends-always elements rest_none format.keys cell)
      ∙ ap (λ (o : Option ℕ). left_of_cell o left between (lines cell)) (above-none format fields none above cell)

  cells-high : (cell : ℕ) (columns : List Column)
      → max 1 (greatest (ending_from format.keys elements cell (lefts_from above left between format fields cell (length columns))))
      ≡ height (cells_from boxing cell columns format fields)
  cells-high cell [] = refl
  cells-high cell (c ∷ columns) =
      let bars = bars_between boxing format (suc cell) in
      let own = cell-lines bars (key_at format cell) c columns (field_at fields (suc cell)) (field_at fields cell) in
      omega (arith, ends-with cell, own, cells-high (suc cell) columns)

-- what is known of a row that is drawn by itself: no cell goes on, its cells have no more columns than the table, and a width, there are places for its bars
-- and those of the rows of rule keys in front of it, and it is so high
pub record IsAlone (s : Sheet) (high : ℕ) (rules : List FormatRow) (format : FormatRow) (fields : List Content) : Type 0 where
  pub none : (cell : ℕ) → is_above (field_at fields cell) ≡ false
  pub lie : AreWithin (length s.columns) format.keys
  pub plain : HaveWidth format.keys
  pub placed : AllByRecursion (HasPlaces s.bars.front s.columns) (format ∷ rules)
  pub is : high ≡ height (row_cells s format fields)

abbrev pub AllAlone : Sheet → List ℕ → List Element → Type 0
AllAlone s heights [] = Unit {0}
AllAlone s heights (Row rules format fields ∷ elements) = IsAlone s (get_or heights 0 0) rules format fields × AllAlone s (drop 1 heights) elements
AllAlone s heights (Rule sign ∷ elements) = AllAlone s heights elements
AllAlone s heights (Command bytes ∷ elements) = AllAlone s heights elements

-- so high are the rows of a table in which none goes on
pub heights-alone : (s : Sheet) (is_inside : Bool) (elements : List Element) → AllByRecursion NoneAbove elements → AllWithin (length s.columns) elements
    → AllHaveWidth elements → AllPlaced s.bars.front s.columns elements → (above : List FormatKey) (left : List ℕ) (rules : ℕ)
    → AllAlone s (heights_behind is_inside (length s.columns) above left rules elements) elements
heights-alone s is_inside [] none lie plain placed above left rules = tt
heights-alone s is_inside (Row own format fields ∷ elements) none lie plain placed above left rules =
    let boxing = s.bars.boxing in
    let columns = cells_of format.keys s.columns in
    let between = rules_between is_inside rules (length own) in
    let high : ℕ → ℕ = λ count. max 1 (greatest (ending_from format.keys elements 0 (lefts_from above left between format fields 0 count))) in (
      record {
        none = none.0;
        lie = lie.0;
        plain = plain.0;
        placed = placed.0;
        is = ap high (sym (length-cells_of format.keys s.columns lie.0))
            ∙ cells-high boxing format fields none.0 elements none.1 above left between 0 columns
            ∙ sym (fronts-low (fronts (record s { columns = columns }) format fields) (cells_from boxing 0 columns format fields)
            (all-low (record s { columns = columns }) format fields));
      },
      heights-alone s is_inside elements none.1 lie.1 plain.1 placed.1 format.keys _ 0,
    )
heights-alone s is_inside (Rule sign ∷ elements) none lie plain placed above left rules =
    heights-alone s is_inside elements none.1 lie plain placed above left (suc rules)
heights-alone s is_inside (Command bytes ∷ elements) none lie plain placed above left rules =
    heights-alone s is_inside elements none.1 lie plain placed above left rules

-- the rules of a box change nothing of that
frame-alone : (s : Sheet) (t : Bool) (sign : RuleSign) (heights : List ℕ) (elements : List Element) → AllAlone s heights elements
    → AllAlone s heights ((if t then [] else Rule sign ∷ []) ++ elements)
frame-alone s true sign heights elements alone = alone
frame-alone s false sign heights elements alone = alone

end-alone : (s : Sheet) (t : Bool) (sign : RuleSign) (heights : List ℕ) → AllAlone s heights (if t then [] else Rule sign ∷ [])
end-alone s true sign heights = tt
end-alone s false sign heights = tt

append-alone : (s : Sheet) (heights : List ℕ) (elements others : List Element) → AllAlone s heights elements
    → ((further : List ℕ) → AllAlone s further others) → AllAlone s heights (elements ++ others)
append-alone s heights [] others alone more = more heights
append-alone s heights (Row rules format fields ∷ elements) others alone more =
    (alone.0, append-alone s (drop 1 heights) elements others alone.1 more)
append-alone s heights (Rule sign ∷ elements) others alone more = append-alone s heights elements others alone more
append-alone s heights (Command bytes ∷ elements) others alone more = append-alone s heights elements others alone more

front-alone : (s : Sheet) (behind_row : Bool) (rules : List FormatRow) (heights : List ℕ) (elements : List Element) → AllAlone s heights elements
    → AllAlone s heights (rule_in_front behind_row rules ++ elements)
front-alone s true [] heights elements alone = alone
front-alone s true (row ∷ rules) heights elements alone = alone
front-alone s false [] heights elements alone = alone
front-alone s false (row ∷ rules) heights elements alone = alone

between-alone : (s : Sheet) (behind_row : Bool) (heights : List ℕ) (elements : List Element) → AllAlone s heights elements
    → AllAlone s heights (ruled_between behind_row elements)
between-alone s behind_row heights [] alone = tt
between-alone s behind_row heights (Row rules format fields ∷ elements) alone =
    front-alone s behind_row rules heights (Row rules format fields ∷ ruled_between true elements)
    (alone.0, between-alone s true (drop 1 heights) elements alone.1)
between-alone s behind_row heights (Rule sign ∷ elements) alone = between-alone s false heights elements alone
between-alone s behind_row heights (Command bytes ∷ elements) alone = between-alone s behind_row heights elements alone

inside-alone : (s : Sheet) (t : Bool) (heights : List ℕ) (elements : List Element) → AllAlone s heights elements
    → AllAlone s heights (if t then ruled_between false elements else elements)
inside-alone s true heights elements alone = between-alone s false heights elements alone
inside-alone s false heights elements alone = alone

pub boxed-alone : (s : Sheet) (boxing : Boxing) (heights : List ℕ) (elements : List Element) → AllAlone s heights elements
    → AllAlone s heights (boxed boxing elements)
boxed-alone s boxing heights elements alone =
    let frame = boxing.bars == 0 in
    let sign = frame_sign boxing.bars in
    frame-alone s frame sign heights (ruled_inside boxing false elements ++ frame_rules boxing)
    (append-alone s heights (ruled_inside boxing false elements) (frame_rules boxing) (inside-alone s boxing.is_inside heights elements alone)
    (end-alone s frame sign))
