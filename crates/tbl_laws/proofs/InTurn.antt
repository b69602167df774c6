-- What cells show stands in the order of their columns, where there is a column of the page at least between these.
use Rattle.std.proofs.Common.{◌≡◌, ℕ, suc, ◌+◌, ◌-◌, ◌<◌, ◌≤◌, Bool, true, false, ◌&&◌, ◌==◌, nat_lt, List, [], ◌∷◌, ◌++◌, length, take, drop, map, Option, Some, None, refl, sym, ap, subst, ◌∙◌, arith, append_assoc, ne_eqb, if◌then◌else◌, append-nil}
use Rattle.std.specs.List.{AllByRecursion}
use Rattle.tbl_format.specs.Cells.{by_cells}
use Rattle.tbl_layout.specs.Columns.{bars_end, place_of_rule, stands, widest_entry}
use Rattle.tbl_layout.specs.DataLines.{sign_byte}
use Rattle.tbl_layout.specs.EntriesFit.{HasRoomFor}
use Rattle.tbl_layout.specs.Entries.{Above, Block, Content, Repeated, Ruled, Short, Text}
use Rattle.tbl_layout.specs.Spans.{as_one}
use Rattle.tbl_layout.specs.Widths.{inner_bars}
use Rattle.tbl_layout.specs.LayoutLaws.{last_end}
use Rattle.tbl_layout.specs.declared.bars.Bars.{Bars}
use Rattle.tbl_layout.specs.declared.columns.Column.{Column}
use Rattle.tbl_layout.specs.declared.data_lines.RuleSign.{RuleSign}
use Rattle.tbl_layout.specs.declared.data_lines.RuleSign.TheVariants.{Single}
use Rattle.tbl_options.specs.declared.options.Boxing.{Boxing}
use Rattle.tbl_lines.specs.CellsLeft.{Left}
use Rattle.tbl_lines.specs.LinesLeft.{Beside, Free, Over, Shown, Through, all_shown, bars_met, drawn_at, end_by, if_drawn, in_order, is_behind, is_within, joined_here, over_at, over_shown, overs, place_of_text, put, row_shown, rule_shown, rules_edge, shown, shown_by}
use Rattle.tbl_laws.specs.PiecesApart.{AreSpaced, CellsStand, Fits, InTurn, OverFits, OversStand, RowStands, RuleStands, columns_of_cells, over_end, shown_in_row}
use Rattle.tbl_lines.specs.PictureLines.{RuleLine, Sheet, sign_over}
use Rattle.tbl_laws.proofs.CellsFit.{place-by, place-fits, shift-rule-few}
use Rattle.tbl_lines.proofs.EntriesFit.{none-fits}
use Rattle.tbl_laws.proofs.RuleApart.{ending, from-between, rest_shown, shown-split}

-- each begins behind the one in front of it, the first behind some columns of the page
abbrev pub Ascend : ℕ → List Shown → Type 0
Ascend place [] = Unit {0}
Ascend place (s ∷ all) = (place ≤ s.at) × Ascend (s.at + 1) all

abbrev Before : ℕ → List Shown → Type 0
Before place all = AllByRecursion (λ s. s.at < place) all

before-further : (place further : ℕ) (all : List Shown) → place ≤ further → Before place all → Before further all
before-further place further [] le before = tt
before-further place further (s ∷ all) le before = (omega (arith, le, before.0), before-further place further all le before.1)

before-last : (s : Shown) (all : List Shown) → Before s.at all → Before (s.at + 1) (all ++ s ∷ [])
before-last s [] before = (omega arith, tt)
before-last s (other ∷ all) before = (omega (arith, before.0), before-last s all before.1)

-- so each is put behind all others
and-false : (t : Bool) → (t && false) ≡ false
and-false true = refl
and-false false = refl

not-behind : (s other : Shown) → other.at < s.at → is_behind s other ≡ false
not-behind s other before =
    let texts = s.is_text && other.is_text in
    let older = nat_lt other.rows s.rows in
    ap (λ (t : Bool). (texts && t) && older) (ne_eqb s.at other.at (λ is. omega (arith, is, before)))
    ∙ ap (λ (t : Bool). t && older) (and-false texts)

put-last : (s : Shown) (all : List Shown) → Before s.at all → put s all ≡ all ++ s ∷ []
put-last s [] before = refl
put-last s (other ∷ others) before =
    ap (λ (t : Bool). if t then s ∷ other ∷ others else other ∷ put s others) (not-behind s other before.0)
    ∙ ap (λ (rest : List Shown). other ∷ rest) (put-last s others before.1)

all-behind : (place : ℕ) (done all : List Shown) → Before place done → Ascend place all → in_order done all ≡ done ++ all
all-behind place done [] before ascend = sym (append-nil done)
all-behind place done (s ∷ all) before ascend =
    let here = before-further place s.at done ascend.0 before in
    ap (λ (first : List Shown). in_order first all) (put-last s done here)
    ∙ all-behind (s.at + 1) (done ++ s ∷ []) all (before-last s done here) ascend.1
    ∙ append_assoc done (s ∷ []) all

pub in-turn : (place : ℕ) (all : List Shown) → Ascend place all → InTurn all
in-turn place all ascend = all-behind place [] all tt ascend

-- where a cell shows something
pub record BeginsWithin (s : Shown) (from to : ℕ) : Type 0 where
  pub begins : from ≤ s.at
  pub ends : s.at ≤ to

here-begins : (t : Bool) (s : Shown) (from to : ℕ) → BeginsWithin s from to → BeginsWithin (if t then s else record s { runs = [] }) from to
here-begins true s from to within = within
here-begins false s from to within = record { begins = within.begins; ends = within.ends }

text-begins : (own : Left) (c : Column) (f : Content) → own.field ≡ f → HasRoomFor c (stands own.key.key f) → place_of_text own c ≤ c.width
text-begins own c f is room =
    let s = stands own.key.key f in omega (arith, place-fits c own.key.key s [] room (none-fits s), place-by f own c is room)

field-begins : (f : Content) (own : Left) (c : Column) (end : ℕ) → own.field ≡ f → HasRoomFor c (stands own.key.key f)
    → widest_entry c.needs ≤ c.width
    → BeginsWithin (shown_by f own c end) c.start (c.start + c.width)
field-begins (Text bytes) own c end is room widest = record { begins = omega arith; ends = omega (arith, text-begins own c (Text bytes) is room) }
field-begins (Block measure lines) own c end is room widest =
    record { begins = omega arith; ends = omega (arith, text-begins own c (Block measure lines) is room) }
field-begins (Ruled sign) own c end is room widest =
    here-begins (own.lead == 0) (drawn_at c.start (sign_byte sign) (end - c.start)) c.start (c.start + c.width)
    (record { begins = omega arith; ends = omega arith })
field-begins Short own c end is room widest =
    let count = widest_entry c.needs in
    here-begins (own.lead == 0) (drawn_at (c.start + place_of_rule c own.key.key) (sign_byte Single) count) c.start (c.start + c.width)
    (record { begins = omega arith; ends = omega (arith, shift-rule-few own.key.key (c.width - count)) })
field-begins (Repeated b) own c end is room widest =
    here-begins (own.lead == 0) (drawn_at c.start b c.width) c.start (c.start + c.width) (record { begins = omega arith; ends = omega arith })
field-begins Above own c end is room widest = record { begins = omega arith; ends = omega (arith, text-begins own c Above is room) }

pub cell-begins : (own : Left) (c : Column) (end : ℕ) → Fits own c → BeginsWithin (shown own c end) c.start (c.start + c.width)
cell-begins own c end fits = field-begins own.field own c end refl fits.entry fits.widest

-- in a row
pub row-ascends : (boxing : Boxing) (last width place : ℕ) (own : Left) (cells : List Left) (c : Column) (columns : List Column) → place ≤ c.start
    → CellsStand boxing last width (own ∷ cells) (c ∷ columns) → AreSpaced (c ∷ columns)
    → Ascend place (row_shown boxing (own ∷ cells) (c ∷ columns))
row-ascends boxing last width place own [] c columns before stand spaced =
    (omega (arith, before, (cell-begins own c (c.start + c.width) stand.0).begins), tt)
row-ascends boxing last width place own (next ∷ cells) c [] before stand spaced =
    (omega (arith, before, (cell-begins own c (c.start + c.width) stand.0).begins), tt)
row-ascends boxing last width place own (next ∷ cells) c (d ∷ columns) before stand spaced =
    let n = next.key.bars in
    let end = end_by (joined_here own next) (inner_bars boxing n) c d in
    let here = cell-begins own c end stand.0 in
    let s = shown own c end in (
      omega (arith, before, here.begins),
      row-ascends boxing last width (s.at + 1) next cells d columns (omega (arith, here.ends, spaced.0)) stand.2 spaced.1,
    )

-- on a line of rules
module _ (line : RuleLine) where
  -- what it shows over a column, and behind that
  rule-ascends : (sign : Option RuleSign) (place from to : ℕ) (others : List Shown) → place ≤ from → Ascend (from + 1) others
      → Ascend place (if_drawn sign from to ++ others)
  rule-ascends None place from to others before ascend = (before, ascend)
  rule-ascends (Some sign) place from to others before ascend = (before, ascend)

  over-ascends : (over : Over) (column place from to : ℕ) (c : Column) (others : List Shown) → is_within over ≡ false → OverFits over c
      → place ≤ from → from ≤ c.start → ((at : ℕ) → at ≤ over_end over c + 1 → Ascend at others)
      → Ascend place (over_shown line column over from to ++ others)
  over-ascends Free column place from to c others first fits before starts ascend =
      rule-ascends (sign_over line column) place from to others before (ascend (from + 1) (omega (arith, starts)))
  over-ascends (Through true own one) column place from to c others first fits before starts ascend =
      let end = one.start + one.width in
      let here = cell-begins own one end fits.0 in
      let s = shown own one end in (
        omega (arith, before, starts, fits.1 refl, here.begins),
        ascend (s.at + 1) (omega (arith, here.ends)),
      )
  over-ascends (Through false own one) column place from to c others first fits before starts ascend = absurd cc

  step-ascends : (over next : Over) (column at to : ℕ) (c d : Column) (others : List Shown)
      → over_end over c ≤ (if is_within next then over_end next d else c.start + c.width) → OverFits next d → c.start + c.width < d.start
      → at ≤ over_end over c + 1 → ((far : ℕ) → far ≤ over_end next d + 1 → Ascend far others)
      → Ascend at (over_shown line (suc column) next (bars_end c d) to ++ others)
  step-ascends over Free column at to c d others ends fits apart le ascend =
      over-ascends Free (suc column) at (bars_end c d) to d others refl fits (omega (arith, le, ends, apart)) (omega (arith, apart)) ascend
  step-ascends over (Through true own one) column at to c d others ends fits apart le ascend =
      over-ascends (Through true own one) (suc column) at (bars_end c d) to d others refl fits (omega (arith, le, ends, apart)) (omega (arith, apart))
      ascend
  step-ascends over (Through false own one) column at to c d others ends fits apart le ascend = ascend at (omega (arith, le, ends))

  module _ (all : List Over) (to : ℕ) where
    first-fits : (column : ℕ) (c : Column) (columns : List Column) → OversStand all column (c ∷ columns) → OverFits (over_at all column) c
    first-fits column c [] stand = stand.0
    first-fits column c (d ∷ columns) stand = stand.0

    behind-ascends : (column : ℕ) (c : Column) (columns : List Column) (at : ℕ) → at ≤ over_end (over_at all column) c + 1
        → OversStand all column (c ∷ columns) → AreSpaced (c ∷ columns) → Ascend at (rest_shown line all to column c columns)
    behind-ascends column c [] at le stand spaced = tt
    behind-ascends column c (d ∷ columns) at le stand spaced =
        subst (Ascend at) (sym (shown-split line all to (suc column) (bars_end c d) d columns))
        (step-ascends (over_at all column) (over_at all (suc column)) column at (ending line all to d columns) c d
        (rest_shown line all to (suc column) d columns) stand.1 (first-fits (suc column) d columns stand.2) spaced.0 le
        (λ far inside. behind-ascends (suc column) d columns far inside stand.2 spaced.1))

    pub all-ascends : (place from : ℕ) (c : Column) (columns : List Column) → place ≤ from → from ≤ c.start → is_within (over_at all 0) ≡ false
        → OversStand all 0 (c ∷ columns) → AreSpaced (c ∷ columns) → Ascend place (all_shown line all 0 from to (c ∷ columns))
    all-ascends place from c columns before starts first stand spaced =
        subst (Ascend place) (sym (shown-split line all to 0 from c columns))
        (over-ascends (over_at all 0) 0 place from (ending line all to c columns) c (rest_shown line all to 0 c columns) first
        (first-fits 0 c columns stand) before starts (λ at inside. behind-ascends 0 c columns at inside stand spaced))

-- of whole lines
pub row-in-turn : (s : Sheet) (last : ℕ) (cells : List Left) → RowStands s last cells → AreSpaced (columns_of_cells s cells)
    → InTurn (shown_in_row s cells)
row-in-turn s last [] stand spaced = refl
row-in-turn s last (own ∷ cells) stand spaced =
    let count = own.key.end - 0 in
    let c = as_one (take count s.columns) in
    let columns = map as_one (by_cells own.key.end (map (λ (k : Left). k.key) cells) (drop count s.columns)) in
    in-turn 0 (row_shown s.bars.boxing (own ∷ cells) (c ∷ columns))
    (row-ascends s.bars.boxing last s.width 0 own cells c columns (omega arith) stand.order spaced)

module _ (bars : Bars) (width : ℕ) (line : RuleLine) (cells : List Left) (above below : Beside) where
  rule-by : (columns : List Column) → RuleStands (record { bars = bars; width = width; columns = columns }) line cells above below
      → AreSpaced columns → InTurn (rule_shown (record { bars = bars; width = width; columns = columns }) line cells above below)
  rule-by [] stand spaced = refl
  rule-by (c ∷ columns) stand spaced =
      let count = length (c ∷ columns) in
      let all = overs 0 cells (c ∷ columns) in
      let left = bars_met bars count line all above below 0 in
      let right = bars_met bars count line all above below count in
      let from = if rules_edge line (over_at all 0) then left else c.start in
      let to = if rules_edge line (over_at all (count - 1)) then width - right else last_end 0 (c ∷ columns) in
      in-turn 0 (all_shown line all 0 from to (c ∷ columns))
      (all-ascends line all to 0 from c columns (omega arith) (from-between (rules_edge line (over_at all 0)) left c.start stand.left).1 stand.first
      stand.order spaced)

pub rule-in-turn : (s : Sheet) (line : RuleLine) (cells : List Left) (above below : Beside) → RuleStands s line cells above below
    → AreSpaced s.columns → InTurn (rule_shown s line cells above below)
rule-in-turn s line cells above below stand spaced = rule-by s.bars s.width line cells above below s.columns stand spaced
