-- The lines of a table in which no cell goes on with one above it: those of its rows, each by itself, and the plain lines of rules.
use Rattle.std.proofs.Common.{◌≡◌, ℕ, zero, suc, ◌+◌, ◌-◌, ◌<◌, ◌≤◌, Bool, true, false, ◌==◌, List, [], ◌∷◌, ◌++◌, length, map, drop, get_or, Option, inl, inr, refl, sym, ap, subst, ◌∙◌, arith, if◌then◌else◌, is_some, unwrap_or, eq-eqb, ne_eqb}
use Rattle.std.proofs.lemmas.Bool.{cases_eq}
use Rattle.std.specs.List.{AllByRecursion}
use Rattle.input_source.specs.Bytes.{newline}
use Rattle.tbl_format.specs.Format.{FormatRow, columns_of_keys}
use Rattle.tbl_format.specs.FormatRows.{AreWithin}
use Rattle.tbl_format.specs.declared.format.FormatKey.{FormatKey}
use Rattle.tbl_layout.specs.Entries.{Command, Content, Element, Row, Rule}
use Rattle.tbl_layout.specs.Heights.{heights_behind, NoneAbove}
use Rattle.tbl_layout.specs.LayoutLaws.{StandInOrder}
use Rattle.tbl_layout.specs.declared.data_lines.RuleSign.{RuleSign}
use Rattle.tbl_lines.specs.CellsLeft.{Left, all_keys, all_stopped, bars_at_end, behind_line, cells_next, goes_on, keys_behind, lines_over, nothing_left}
use Rattle.tbl_lines.specs.LinesLeft.{Beside, Nothing, OfRow as OfCells, OfRules as OfRulesLeft, overs, rule_line_left}
use Rattle.tbl_lines.specs.PictureLeft.{behind_keys, behind_lines, below_of, key_lines, lines_left, row_lines, table_lines, through_rule, through_rules}
use Rattle.tbl_lines.specs.PictureLines.{Neighbour, NoRow, OfKeys, OfRow as OfFields, OfRules, RuleLine, Sheet, Whole, behind_rules, boxed, height, line_below, lines_behind, lines_from, picture_lines, row_cells, rule_line, rule_lines}
use Rattle.tbl_lines.specs.RowsAlone.{AllHaveWidth, AllPlaced, AllWithin, HaveWidth, alone_from}
use Rattle.tbl_lines.specs.RulePlaces.{HasPlaces, IsLinePlaced, IsPlaced}
use Rattle.tbl_lines.specs.RulesAlone.{NoneGoOn, ShownAlike}
use Rattle.tbl_lines.proofs.PlainHeights.{AllAlone, above-none, below-none, boxed-alone, heights-alone}
use Rattle.tbl_lines.proofs.CutLines.{all_stopped-none}
use Rattle.tbl_lines.proofs.PlainKeys.{cells-alone, row-alone, width-all}
use Rattle.tbl_lines.proofs.PlainRows.{behind-alone}
use Rattle.tbl_lines.proofs.PlainShown.{row-alike}
use Rattle.tbl_lines.proofs.RulesAlone.{rule-alone}
use Rattle.tbl_lines.proofs.RulesFree.{keys-alike, nothing-alike, whole-alike}

-- cells that don't go on stay as they are behind lines of rules
through-one : (t : Bool) (c : Left) → t ≡ false → (if t then behind_line c else c) ≡ c
through-one true c none = absurd cc
through-one false c none = refl

through-none : (cells : List Left) → NoneGoOn cells → map through_rule cells ≡ cells
through-none [] none = refl
through-none (c ∷ cells) none =
    ap (λ (first : Left). first ∷ map through_rule cells) (through-one (goes_on c) c none.0)
    ∙ ap (λ (rest : List Left). c ∷ rest) (through-none cells none.1)

through-all : (count : ℕ) (cells : List Left) → NoneGoOn cells → through_rules count cells ≡ cells
through-all zero cells none = refl
through-all (suc count) cells none = ap (through_rules count) (through-none cells none) ∙ through-all count cells none

-- those of a row don't
none-from : (line cell : ℕ) (keys : List FormatKey) (fields : List Content) → NoneGoOn (alone_from line cell keys fields)
none-from line cell [] fields = tt
none-from line cell (k ∷ keys) fields = (refl, none-from line (suc cell) keys fields)

behind-many : (count line : ℕ) (keys : List FormatKey) (fields : List Content)
    → behind_lines count (alone_from line 0 keys fields) ≡ alone_from (line + count) 0 keys fields
behind-many zero line keys fields = let same : line ≡ line + 0 = omega arith in ap (λ (n : ℕ). alone_from n 0 keys fields) same
behind-many (suc count) line keys fields =
    let same : suc line + count ≡ line + suc count = omega arith in
    ap (behind_lines count) (behind-alone line 0 keys fields) ∙ behind-many count (suc line) keys fields
    ∙ ap (λ (n : ℕ). alone_from n 0 keys fields) same

-- the last line of a row is its first, if it has one
first-line : (high : ℕ) → 1 ≤ high → (0 + (high - 1) == 0) ≡ (high == 1)
first-line high some = elim (cases_eq high 1) [
  | inl one ↦ eq-eqb (0 + (high - 1)) 0 (omega (arith, one)) ∙ sym (eq-eqb high 1 one)
  | inr other ↦ ne_eqb (0 + (high - 1)) 0 (λ none. other (omega (arith, none, some))) ∙ sym (ne_eqb high 1 other)
]

-- cells under keys with a width
width-alone : (cell : ℕ) (keys : List FormatKey) (fields : List Content) → HaveWidth keys
    → AllByRecursion (λ c. c.key.has_no_width ≡ false) (alone_from 0 cell keys fields)
width-alone cell [] fields plain = tt
width-alone cell (k ∷ keys) fields plain = (plain.0, width-alone (suc cell) keys fields plain.1)

-- the cells of the row that comes first of elements: where none comes, nothing stands in them
abbrev first_cells : ℕ → List Element → List Left
first_cells count [] = map nothing_left (keys_behind count 0 0)
first_cells count (Row rules format fields ∷ elements) = alone_from 0 0 (all_keys count format) fields
first_cells count (Rule sign ∷ elements) = first_cells count elements
first_cells count (Command bytes ∷ elements) = first_cells count elements

nothing-none : (keys : List FormatKey) → NoneGoOn (map nothing_left keys)
nothing-none [] = tt
nothing-none (k ∷ keys) = (refl, nothing-none keys)

first-none : (count : ℕ) (elements : List Element) → NoneGoOn (first_cells count elements)
first-none count [] = nothing-none (keys_behind count 0 0)
first-none count (Row rules format fields ∷ elements) = none-from 0 0 (all_keys count format) fields
first-none count (Rule sign ∷ elements) = first-none count elements
first-none count (Command bytes ∷ elements) = first-none count elements

module _ (s : Sheet) where
  abbrev count : ℕ
  count = length s.columns

  over-none : (elements : List Element) (rows : List ℕ) → AllAlone s rows elements → (keys : List FormatKey) (cell rules : ℕ) (heights : List ℕ)
      → lines_over keys cell rules heights elements ≡ 0
  over-none [] rows alone keys cell rules heights = refl
  over-none (Row own format fields ∷ elements) rows alone keys cell rules heights =
      ap (λ (o : Option ℕ). if is_some o
      then rules + length own + get_or heights 0 0 + lines_over format.keys (unwrap_or o 0) 0 (drop 1 heights) elements
      else 0)
      (below-none format fields alone.0.none keys cell)
  over-none (Rule sign ∷ elements) rows alone keys cell rules heights = over-none elements rows alone keys cell (suc rules) heights
  over-none (Command bytes ∷ elements) rows alone keys cell rules heights = over-none elements rows alone keys cell rules heights

  next-alone : (elements : List Element) (rows : List ℕ) → AllAlone s rows elements
      → (keys : List FormatKey) (above : List Left) (heights : List ℕ) → cells_next count keys above heights elements ≡ first_cells count elements
  next-alone [] rows alone keys above heights = refl
  next-alone (Row rules format fields ∷ elements) rows alone keys above heights =
      let own = all_keys count format in
      let width = width-all format.keys (count - columns_of_keys format.keys) format.bars (columns_of_keys format.keys) alone.0.plain in
      ap (λ (cells : List Left). all_stopped count format.keys elements 0 cells)
      (cells-alone keys above heights elements format fields (above-none format fields alone.0.none keys)
      (λ cell. over-none elements (drop 1 rows) alone.1 format.keys cell 0 (drop 1 heights)) 0 own)
      ∙ all_stopped-none count format.keys elements 0 (alone_from 0 0 own fields) (width-alone 0 own fields width)
  next-alone (Rule sign ∷ elements) rows alone keys above heights = next-alone elements rows alone keys above heights
  next-alone (Command bytes ∷ elements) rows alone keys above heights = next-alone elements rows alone keys above heights

  -- a line beside shows as many bars, and there are places for those of all its rows
  record IsBeside (beside : Beside) (seen : Neighbour) : Type 0 where
    alike : ShownAlike s.bars.boxing (length s.columns) beside seen
    placed : IsPlaced s.bars.front s.columns seen

  abbrev HavePlaces : List FormatRow → Type 0
  HavePlaces formats = AllByRecursion (HasPlaces s.bars.front s.columns) formats

  nothing-beside : IsBeside Nothing NoRow
  nothing-beside = record { alike = nothing-alike s.bars.boxing count; placed = tt }

  keys-beside : (format : FormatRow) (cells : List Left) (behind : Beside) (seen : Neighbour) → NoneGoOn cells
      → HasPlaces s.bars.front s.columns format → IsBeside behind seen → IsBeside (OfRulesLeft (OfKeys format) (overs 0 cells s.columns) behind) (OfRules format seen)
  keys-beside format cells behind seen none placed is = record {
    alike = keys-alike s.bars.boxing count format cells s.columns behind seen none is.alike;
    placed = (placed, is.placed);
  }

  whole-beside : (sign : RuleSign) (cells : List Left) (behind : Beside) → NoneGoOn cells
      → IsBeside (OfRulesLeft (Whole sign) (overs 0 cells s.columns) behind) NoRow
  whole-beside sign cells behind none = record { alike = whole-alike s.bars.boxing count sign cells s.columns behind none; placed = tt }

  module _ (some : 0 < length s.columns) (order : StandInOrder s.bars s.width s.columns) where
    row-beside : (format : FormatRow) (fields : List Content) (line : ℕ) (is_first : Bool) → AreWithin count format.keys
        → HasPlaces s.bars.front s.columns format → (line == 0) ≡ is_first
        → IsBeside (OfCells (alone_from line 0 (all_keys count format) fields) (bars_at_end count format)) (OfFields is_first format fields)
    row-beside format fields line is_first lie placed is = record { alike = row-alike s format fields lie some line is_first is; placed = placed }

    rule-beside : (line : RuleLine) (cells : List Left) (above below : Beside) (up down : Neighbour) → NoneGoOn cells
        → IsLinePlaced s.bars.front s.columns line → IsBeside above up → IsBeside below down
        → rule_line_left s line cells above below ≡ rule_line s line up down
    rule-beside line cells above below up down none placed over under =
        rule-alone s line cells above below up down none some over.alike under.alike order placed over.placed under.placed

    -- rows of rule keys in front of a row
    behind-beside : (cells : List Left) → NoneGoOn cells → (formats : List FormatRow) → HavePlaces formats → (below : Beside) (down : Neighbour)
        → IsBeside below down → IsBeside (behind_keys s cells formats below) (behind_rules formats down)
    behind-beside cells none [] placed below down is = is
    behind-beside cells none (format ∷ formats) placed below down is =
        keys-beside format cells (behind_keys s cells formats below) (behind_rules formats down) none placed.0
        (behind-beside cells none formats placed.1 below down is)

    key-lines : (cells : List Left) → NoneGoOn cells → (formats : List FormatRow) → HavePlaces formats → (above below : Beside) (up down : Neighbour)
        → IsBeside above up → IsBeside below down → key_lines s cells above formats below ≡ rule_lines s up formats down
    key-lines cells none [] placed above below up down over under = refl
    key-lines cells none (format ∷ formats) placed above below up down over under =
        let first = rule_line s (OfKeys format) up (behind_rules formats down) in
        let next = OfRulesLeft (OfKeys format) (overs 0 cells s.columns) above in
        ap (λ (line : List ℕ). line ++ key_lines s (map through_rule cells) next formats below)
        (rule-beside (OfKeys format) cells above (behind_keys s cells formats below) up (behind_rules formats down) none placed.0 over
        (behind-beside cells none formats placed.1 below down under))
        ∙ ap (λ (left : List Left). first ++ key_lines s left next formats below) (through-none cells none)
        ∙ ap (λ (rest : List ℕ). first ++ rest)
        (key-lines cells none formats placed.1 next below (OfRules format up) down (keys-beside format cells above up none placed.0 over) under)

    -- the line in front of elements
    below-beside : (elements : List Element) (rows : List ℕ) → AllAlone s rows elements
        → IsBeside (below_of s (first_cells count elements) elements) (line_below elements)
    below-beside [] rows alone = nothing-beside
    below-beside (Row rules format fields ∷ elements) rows alone =
        let last = bars_at_end count format in
        let cells = alone_from 0 0 (all_keys count format) fields in
        let none = none-from 0 0 (all_keys count format) fields in
        let row = alone.0 in
        subst (λ (own : List Left). IsBeside (behind_keys s cells rules (OfCells own last)) (behind_rules rules (OfFields true format fields)))
        (sym (through-all (length rules) cells none))
        (behind-beside cells none rules row.placed.1 (OfCells cells last) (OfFields true format fields)
        (row-beside format fields 0 true row.lie row.placed.0 refl))
    below-beside (Rule sign ∷ elements) rows alone =
        let cells = first_cells count elements in
        whole-beside sign cells (below_of s (map through_rule cells) elements) (first-none count elements)
    below-beside (Command bytes ∷ elements) rows alone = below-beside elements rows alone

    -- the last line of a row
    row-behind : (format : FormatRow) (fields : List Content) (high : ℕ) → AreWithin count format.keys → HasPlaces s.bars.front s.columns format
        → high ≡ height (row_cells s format fields)
        → IsBeside (OfCells (behind_lines (high - 1) (alone_from 0 0 (all_keys count format) fields)) (bars_at_end count format))
        (OfFields (height (row_cells s format fields) == 1) format fields)
    row-behind format fields high lie placed is =
        let keys = all_keys count format in
        let last = bars_at_end count format in
        let n = height (row_cells s format fields) in
        let first = n == 1 in
        let line = 0 + (n - 1) in
        let here : (line == 0) ≡ first = first-line n (omega arith) in
        subst (λ (h : ℕ). IsBeside (OfCells (behind_lines (h - 1) (alone_from 0 0 keys fields)) last) (OfFields first format fields)) (sym is)
        (subst (λ (own : List Left). IsBeside (OfCells own last) (OfFields first format fields)) (sym (behind-many (n - 1) 0 keys fields))
        (row-beside format fields line first lie placed here))

    -- all lines from elements on
    lines-alone : (elements : List Element) (heights : List ℕ) → AllAlone s heights elements → (above : Beside) (up : Neighbour) → IsBeside above up
        → lines_left s heights (first_cells count elements) above elements ≡ lines_behind s up elements
    lines-alone [] heights alone above up is = refl
    lines-alone (Row rules format fields ∷ elements) heights alone above up is =
        let keys = all_keys count format in
        let last = bars_at_end count format in
        let cells = alone_from 0 0 keys fields in
        let none = none-from 0 0 keys fields in
        let row = alone.0 in
        let high = get_or heights 0 0 in
        let n = height (row_cells s format fields) in
        let further = drop 1 heights in
        let behind = OfCells (behind_lines (high - 1) cells) last in
        let seen = OfFields (n == 1) format fields in
        let rest = lines_left s further (cells_next count format.keys (behind_lines high cells) further elements) behind elements in
        let front = rule_lines s up rules (OfFields true format fields) in
        let whole : List Left → List ℕ = λ own.
        key_lines s cells above rules (OfCells own last)
        ++ (row_lines s last high own
        ++ lines_left s further (cells_next count format.keys (behind_lines high own) further elements)
        (OfCells (behind_lines (high - 1) own) last) elements) in
        ap whole (through-all (length rules) cells none)
        ∙ ap (λ (lines : List ℕ). lines ++ (row_lines s last high cells ++ rest))
        (key-lines cells none rules row.placed.1 above (OfCells cells last) up (OfFields true format fields) is
        (row-beside format fields 0 true row.lie row.placed.0 refl))
        ∙ ap (λ (lines : List ℕ). front ++ (lines ++ rest)) (row-alone s format fields row.lie some row.plain high 0)
        ∙ ap (λ (h : ℕ). front ++ (lines_from 0 h (row_cells s format fields) ++ rest)) row.is
        ∙ ap (λ (own : List Left). front ++ (lines_from 0 n (row_cells s format fields) ++ lines_left s further own behind elements))
        (next-alone elements further alone.1 format.keys (behind_lines high cells) further)
        ∙ ap (λ (lines : List ℕ). front ++ (lines_from 0 n (row_cells s format fields) ++ lines))
        (lines-alone elements further alone.1 behind seen (row-behind format fields high row.lie row.placed.0 row.is))
    lines-alone (Rule sign ∷ elements) heights alone above up is =
        let cells = first_cells count elements in
        let none = first-none count elements in
        let next = OfRulesLeft (Whole sign) (overs 0 cells s.columns) above in
        let first = rule_line s (Whole sign) up (line_below elements) in
        let whole : List Left → List ℕ = λ left.
        rule_line_left s (Whole sign) cells above (below_of s left elements) ++ lines_left s heights left next elements in
        ap whole (through-none cells none)
        ∙ ap (λ (line : List ℕ). line ++ lines_left s heights cells next elements)
        (rule-beside (Whole sign) cells above (below_of s cells elements) up (line_below elements) none tt is (below-beside elements heights alone))
        ∙ ap (λ (rest : List ℕ). first ++ rest) (lines-alone elements heights alone next NoRow (whole-beside sign cells above none))
    lines-alone (Command bytes ∷ elements) heights alone above up is =
        ap (λ (rest : List ℕ). bytes ++ newline ∷ rest) (lines-alone elements heights alone above up is)

-- where no cell of a table goes on with one above it, its lines are the plain ones
pub plain-table : (s : Sheet) (elements : List Element) → AllByRecursion NoneAbove elements → 0 < length s.columns → AllWithin (length s.columns) elements
    → AllHaveWidth elements → StandInOrder s.bars s.width s.columns → AllPlaced s.bars.front s.columns elements
    → table_lines s elements ≡ picture_lines s elements
plain-table s elements none some lie plain order placed =
    let boxing = s.bars.boxing in
    let count = length s.columns in
    let rows = heights_behind boxing.is_inside count [] [] 0 elements in
    let all = boxed boxing elements in
    let alone = boxed-alone s boxing rows elements (heights-alone s boxing.is_inside elements none lie plain placed [] [] 0) in
    ap (λ (cells : List Left). lines_left s rows cells Nothing all) (next-alone s all rows alone [] [] rows)
    ∙ lines-alone s some order all rows alone Nothing NoRow (nothing-beside s)
