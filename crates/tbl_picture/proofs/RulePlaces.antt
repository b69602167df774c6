-- How many bars meet a line of rules: no more than there are places for. So what stands on it part by part is what is walked.
use Rattle.std.proofs.Common.{◌≡◌, ℕ, zero, suc, ◌+◌, ◌-◌, ◌≤◌, max, Bool, true, false, List, [], ◌∷◌, ◌++◌, length, drop, take, codes, refl, ap, arith, if◌then◌else◌}
use Rattle.std.specs.List.{AllByRecursion}
use Rattle.input_source.specs.Bytes.{newline}
use Rattle.tbl_format.specs.Format.{FormatRow}
use Rattle.tbl_format.specs.RowsServed.{no_keys, row_at}
use Rattle.tbl_kept.specs.Rows.{Command, KeptElement, KeptRows, Row, Rule}
use Rattle.tbl_layout.specs.LayoutLaws.{StandInOrder, first_start, last_behind, last_end}
use Rattle.tbl_layout.specs.Widths.{edge_bars, inner_bars}
use Rattle.tbl_layout.specs.declared.columns.Column.{Column}
use Rattle.tbl_layout.specs.declared.data_lines.RuleSign.{RuleSign}
use Rattle.tbl_lines.specs.PictureLines.{Mark, Neighbour, OfKeys, RuleLine, Sheet, Whole, behind_rules, drawn, edge_mark, met_at_edge, met_behind, parts_from, rule_from, rule_line, rule_to, shown_at_edge, shown_behind}
use Rattle.tbl_format.specs.FormatLaws.{bars_among}
use Rattle.tbl_lines.proofs.RulesMet.{are-met, few-behind, few-left, few-right}
use Rattle.tbl_picture.specs.RuleMarks.{marks_from, rule_line_walked}
use Rattle.tbl_lines.specs.RulePlaces.{AreMet, HasPlaces, HavePlaces, IsLinePlaced, IsPlaced, bars_behind}
use Rattle.tbl_picture.specs.RulesWalked.{above_by, above_rules, below_by, line_beside, line_of_first, line_walked, rows_at, rules_beside, rules_of_first, rules_passed, sheet_of}
use Rattle.tbl_picture.specs.Walks.{KeptWalk}
use Rattle.tbl_picture.specs.declared.walk.beside.Beside.{Beside}
use Rattle.tbl_picture.specs.declared.walk.beside.Beside.TheVariants.{Nothing as NoRowBeside, Row as RowBeside}
use Rattle.tbl_picture.specs.declared.walk.rules.RuleLine.{RuleLine as LineBegun}
use Rattle.tbl_picture.specs.declared.walk.rules.RuleLine.TheVariants.{OfKeys as KeysBegun, Whole as WholeBegun}
use Rattle.tbl_picture.proofs.RuleParts.{behind-mark, parts-drawn}

-- a line of rules on which no more bars meet anywhere
module _ (s : Sheet) (line : RuleLine) (above below : Neighbour) (order : StandInOrder s.bars s.width s.columns)
    (few : (column : ℕ) → met_behind s.bars line above below column ≤ inner_bars s.bars.boxing (bars_behind s.columns column))
    (few_left : met_at_edge s.bars line above below 0 ≤ edge_bars s.bars.boxing s.bars.front)
    (few_right : (before : ℕ) → length s.columns ≡ suc before
    → met_at_edge s.bars line above below (length s.columns) ≤ edge_bars s.bars.boxing (last_behind s.columns)) where
  abbrev pub met-left : ℕ
  met-left = met_at_edge s.bars line above below 0

  abbrev pub met-right : ℕ
  met-right = met_at_edge s.bars line above below (length s.columns)

  abbrev pub line-end : ℕ
  line-end = rule_to line (s.width - met-right) s.columns

  abbrev pub line-from : ℕ
  line-from = rule_from line met-left s.columns

  -- where it ends
  ends-behind : (line : RuleLine) (columns : List Column) → ((before : ℕ) → length columns ≡ suc before → last_end 0 columns + met-right ≤ s.width)
      → last_end 0 columns ≤ rule_to line (s.width - met-right) columns
  ends-behind (Whole sign) [] within = omega arith
  ends-behind (Whole sign) (c ∷ columns) within = omega (arith, within (length columns) refl)
  ends-behind (OfKeys format) columns within = omega arith

  -- where it begins
  begins-in : (line : RuleLine) (columns : List Column) → met-left ≤ first_start met-left columns
      → rule_from line met-left columns ≤ first_start (rule_from line met-left columns) columns
  begins-in (Whole sign) columns within = within
  begins-in (OfKeys format) [] within = omega arith
  begins-in (OfKeys format) (c ∷ columns) within = omega arith

  first-far : (columns : List Column) (edge : ℕ) → met-left ≤ edge → edge ≤ first_start edge columns → met-left ≤ first_start met-left columns
  first-far [] edge within first = omega arith
  first-far (c ∷ columns) edge within first = omega (arith, within, first)

  drawn-same : (columns : List Column) (tail : List Mark) (place : ℕ) → AreMet (met_behind s.bars line above below) line-end 0 columns
      → line-from ≤ first_start line-from columns
      → drawn place (parts_from s.bars line above below 0 line-from line-end columns ++ tail) ≡ drawn place (marks_from s.bars line above below 0 line-from line-end columns ++ tail)
  drawn-same [] tail place are begins = refl
  drawn-same (c ∷ columns) tail place are begins =
      parts-drawn s.bars line above below line-end tail 0 line-from place c columns are (omega (arith, begins))

  pub line-same : rule_line s line above below ≡ rule_line_walked s line above below
  line-same =
      let tail = edge_mark line (s.width - met-right) met-right ∷ [] in
      let by : List Mark → List Mark = λ marks. marks ++ tail in
      let parts = parts_from s.bars line above below 0 line-from line-end s.columns in
      let marks = marks_from s.bars line above below 0 line-from line-end s.columns in
      let edge = edge_mark line 0 met-left in
      let within = ends-behind line s.columns (λ before all. omega (arith, few_right before all, order.right)) in
      let starts : (i : ℕ) → met_behind s.bars line above below (0 + i) ≤ inner_bars s.bars.boxing (bars_behind s.columns i) = λ i.
      let same : 0 + i ≡ i = omega arith in
      omega (arith, few i, ap (met_behind s.bars line above below) same) in
      let are = are-met (met_behind s.bars line above below) line-end 0 s.bars.boxing 0 s.columns order.between starts within in
      let begins = begins-in line s.columns (first-far s.columns (edge_bars s.bars.boxing s.bars.front) few_left order.left) in
      ap (λ (bytes : List ℕ). codes "\\&" ++ (bytes ++ newline ∷ []))
      (behind-mark edge (by parts) (by marks) (λ place. drawn-same s.columns tail place are begins) 0)

-- it has places for its bars, and so have its neighbours
pub placed-same : (s : Sheet) (line : RuleLine) (above below : Neighbour) → StandInOrder s.bars s.width s.columns
    → IsLinePlaced s.bars.front s.columns line → IsPlaced s.bars.front s.columns above → IsPlaced s.bars.front s.columns below
    → rule_line s line above below ≡ rule_line_walked s line above below
placed-same s line above below order own up down =
    line-same s line above below order (few-behind s.bars s.columns line above below own up down) (few-left s.bars s.columns line above below own up down)
    (few-right s.bars s.columns line above below own up down)

-- in a picture without bars none meet
pub unbarred-same : (s : Sheet) (sign : RuleSign) (above below : Neighbour) → StandInOrder s.bars s.width s.columns → s.bars.has_any ≡ false
    → rule_line s (Whole sign) above below ≡ rule_line_walked s (Whole sign) above below
unbarred-same s sign above below order none =
    let b = s.bars.boxing in
    let no-edge : (column : ℕ) → met_at_edge s.bars (Whole sign) above below column ≡ 0 = λ column.
    ap (λ (t : Bool). if t then max 0 (max (shown_at_edge b above column) (shown_at_edge b below column)) else 0) none in
    let no-bar : (column : ℕ) → met_behind s.bars (Whole sign) above below column ≡ 0 = λ column.
    ap (λ (t : Bool). if t then max 0 (max (shown_behind b above column) (shown_behind b below column)) else 0) none in
    line-same s (Whole sign) above below order (λ column. omega (arith, no-bar column)) (omega (arith, no-edge 0))
    (λ before all. omega (arith, no-edge (length s.columns)))

-- the rows of the formats have places for their bars
none-among : (cell : ℕ) → bars_among [] 0 cell ≡ 0
none-among zero = refl
none-among (suc cell) = refl

module _ (front : ℕ) (columns : List Column) where
  none-placed : HasPlaces front columns no_keys
  none-placed = record {
    left = omega (arith, none-among 0);
    behind = λ column cell is. omega (arith, none-among cell);
    right = λ column is. omega (arith, none-among (suc column));
  }

  pub row-placed : (formats : List FormatRow) (at : ℕ) → AllByRecursion (HasPlaces front columns) formats → HasPlaces front columns (row_at formats at)
  row-placed [] zero all = none-placed
  row-placed [] (suc at) all = none-placed
  row-placed (format ∷ formats) zero all = all.0
  row-placed (format ∷ formats) (suc at) all = row-placed formats at all.1

  drop-placed : (n : ℕ) (formats : List FormatRow) → AllByRecursion (HasPlaces front columns) formats
      → AllByRecursion (HasPlaces front columns) (drop n formats)
  drop-placed zero formats all = all
  drop-placed (suc n) [] all = tt
  drop-placed (suc n) (format ∷ formats) all = drop-placed n formats all.1

  take-placed : (n : ℕ) (formats : List FormatRow) → AllByRecursion (HasPlaces front columns) formats
      → AllByRecursion (HasPlaces front columns) (take n formats)
  take-placed zero formats all = tt
  take-placed (suc n) [] all = tt
  take-placed (suc n) (format ∷ formats) all = (all.0, take-placed n formats all.1)

  behind-placed : (rules : List FormatRow) (line : Neighbour) → AllByRecursion (HasPlaces front columns) rules → IsPlaced front columns line
      → IsPlaced front columns (behind_rules rules line)
  behind-placed [] line all placed = placed
  behind-placed (format ∷ rules) line all placed = (all.0, behind-placed rules line all.1 placed)

  module _ (bytes : List ℕ) (formats : List FormatRow) (all : AllByRecursion (HasPlaces front columns) formats) where
    above-placed : (first count : ℕ) (line : Neighbour) → IsPlaced front columns line → IsPlaced front columns (above_rules formats first count line)
    above-placed first zero line placed = placed
    above-placed first (suc count) line placed = (row-placed formats (first + count) all, above-placed first count line placed)

    first-placed : (is_below : Bool) (elements : List KeptElement) → IsPlaced front columns (line_of_first bytes formats is_below elements)
    first-placed is_below [] = tt
    first-placed is_below (Row keys rules height entries ∷ elements) = row-placed formats keys all
    first-placed is_below (Rule sign ∷ elements) = tt
    first-placed is_below (Command from to ∷ elements) = tt

    beside-placed : (is_below : Bool) (elements : List KeptElement) (beside : Beside)
        → IsPlaced front columns (line_beside bytes formats is_below elements beside)
    beside-placed is_below elements NoRowBeside = tt
    beside-placed is_below elements (RowBeside at) = first-placed is_below (drop at elements)

    rules-placed : (elements : List KeptElement) → AllByRecursion (HasPlaces front columns) (rules_of_first formats elements)
    rules-placed [] = tt
    rules-placed (Row keys rules height entries ∷ elements) = take-placed rules (drop (keys - rules) formats) (drop-placed (keys - rules) formats all)
    rules-placed (Rule sign ∷ elements) = tt
    rules-placed (Command from to ∷ elements) = tt

    rules-beside : (elements : List KeptElement) (beside : Beside) → AllByRecursion (HasPlaces front columns) (rules_beside formats elements beside)
    rules-beside elements NoRowBeside = tt
    rules-beside elements (RowBeside at) = rules-placed (drop at elements)

    line-placed : (line : LineBegun) → IsLinePlaced front columns (line_walked formats line)
    line-placed (WholeBegun sign is_last) = tt
    line-placed (KeysBegun row left) = row-placed formats row all

    above-by : (line : LineBegun) (rows : KeptRows) (w : KeptWalk) (elements : List KeptElement)
        → IsPlaced front columns (above_by line bytes formats rows w elements)
    above-by (WholeBegun sign is_last) rows w elements = beside-placed false rows.elements w.above
    above-by (KeysBegun row left) rows w elements =
        let passed = rules_passed elements row in
        above-placed (row - passed) passed (line_beside bytes formats false rows.elements w.above) (beside-placed false rows.elements w.above)

    below-by : (line : LineBegun) (below : Beside) (rows : KeptRows) (elements : List KeptElement)
        → IsPlaced front columns (below_by line below bytes formats rows elements)
    below-by (WholeBegun sign is_last) below rows elements =
        behind-placed (rules_beside formats rows.elements below) (line_beside bytes formats true rows.elements below)
        (rules-beside rows.elements below) (beside-placed true rows.elements below)
    below-by (KeysBegun row left) below rows elements =
        behind-placed (rows_at formats (suc row) left) (line_of_first bytes formats true elements)
        (take-placed left (drop (suc row) formats) (drop-placed (suc row) formats all)) (first-placed true elements)

-- what stands on a line of rules that is walked
pub walked-same : (bytes : List ℕ) (formats : List FormatRow) (rows : KeptRows) (w : KeptWalk) (elements : List KeptElement) (line : LineBegun)
    (beside : Beside) → HavePlaces formats (sheet_of rows w)
    → (let above = above_by line bytes formats rows w elements in
    let below = below_by line beside bytes formats rows elements in
    rule_line (sheet_of rows w) (line_walked formats line) above below ≡ rule_line_walked (sheet_of rows w) (line_walked formats line) above below)
walked-same bytes formats rows w elements line beside places =
    let front = w.bars.front in
    placed-same (sheet_of rows w) (line_walked formats line) (above_by line bytes formats rows w elements)
    (below_by line beside bytes formats rows elements) places.order (line-placed front rows.columns bytes formats places.rows line)
    (above-by front rows.columns bytes formats places.rows line rows w elements)
    (below-by front rows.columns bytes formats places.rows line beside rows elements)
