-- The cells that run on along a line end one behind the other.
use Rattle.std.proofs.Common.{◌≡◌, ℕ, zero, suc, ◌+◌, ◌-◌, ◌<◌, ◌≤◌, ◌==◌, Bool, true, false, List, [], ◌∷◌, ◌++◌, drop, get_or, length, map, Option, None, Some, refl, sym, ap, subst, ◌∙◌, arith, if◌then◌else◌, eqb-true}
use Rattle.std.specs.List.{AllByRecursion}
use Rattle.tbl_format.specs.Cells.{AreCells}
use Rattle.tbl_format.specs.Format.{columns_of_keys}
use Rattle.tbl_format.specs.declared.format.FormatKey.{FormatKey}
use Rattle.tbl_layout.specs.Columns.{place_of_rule, widest_entry}
use Rattle.tbl_layout.specs.DataLines.{sign_byte}
use Rattle.tbl_layout.specs.Entries.{Above, Block, Content, Repeated, Ruled, Short, Text}
use Rattle.tbl_layout.specs.Spans.{as_one}
use Rattle.tbl_layout.specs.Widths.{inner_bars}
use Rattle.tbl_layout.specs.declared.columns.Column.{Column}
use Rattle.tbl_layout.specs.declared.data_lines.RuleSign.{RuleSign}
use Rattle.tbl_layout.specs.declared.data_lines.RuleSign.TheVariants.{Single}
use Rattle.tbl_lines.specs.CellsLeft.{Left, goes_on}
use Rattle.tbl_lines.specs.LinesLeft.{Free, Over, Shown, Through, all_shown, drawn_at, end_by, if_drawn, joined_here, over_at, over_shown, overs, row_shown, runs_on, shown, shown_by}
use Rattle.tbl_lines.specs.PictureLines.{RuleLine, sign_over}
use Rattle.tbl_options.specs.declared.options.Boxing.{Boxing}
use Rattle.tbl_line_cells.specs.KeptCells.{AllLeft}
use Rattle.tbl_line_cells.specs.LinesDrawn.{EndsBehind, RunInOrder, end_behind, keys_in}
use Rattle.tbl_line_cells.specs.RulesDrawn.{Cover, HasColumn, begin_behind, begin_from, end_at, over_of}
use Rattle.tbl_line_cells.specs.declared.cells.CellLeft.{CellLeft}
use Rattle.tbl_line_cells.proofs.CellsOver.{begin-of, begins-most, column-behind, column-within, first-column, over-cell, split}
use Rattle.tbl_line_cells.proofs.FrontsOf.{no_cell}
use Rattle.tbl_line_cells.proofs.RuleSteps.{shown-step}

-- what runs on, if something does, is this cell
abbrev OwnOrNone : Option Left → Left → Type 0
OwnOrNone None own = Unit {0}
OwnOrNone (Some x) own = x ≡ own

own-if : (b : Bool) (own : Left) → OwnOrNone (if b then Some own else None) own
own-if true own = refl
own-if false own = tt

own-here : (b : Bool) (x : Shown) (own : Left) → OwnOrNone x.runs_on own → OwnOrNone (if b then x else record x { runs = [] }).runs_on own
own-here true x own is = is
own-here false x own is = is

shown-own : (field : Content) (own : Left) (c : Column) (end : ℕ) → OwnOrNone (shown_by field own c end).runs_on own
shown-own (Text bytes) own c end = own-if (runs_on own c) own
shown-own (Block measure lines) own c end = own-if (runs_on own c) own
shown-own Above own c end = own-if (runs_on own c) own
shown-own (Ruled sign) own c end = own-here (own.lead == 0) (drawn_at c.start (sign_byte sign) (end - c.start)) own tt
shown-own Short own c end =
    own-here (own.lead == 0) (drawn_at (c.start + place_of_rule c own.key.key) (sign_byte Single) (widest_entry c.needs)) own tt
shown-own (Repeated b) own c end = own-here (own.lead == 0) (drawn_at c.start b c.width) own tt

lower-by : (o : Option Left) (count from more : ℕ) (done : List Shown) → from ≤ more → EndsBehind count more o
    → RunInOrder count (end_behind more o) done
    → (RunInOrder count more done → RunInOrder count from done)
    → EndsBehind count from o × RunInOrder count (end_behind from o) done
lower-by None count from more done order ends rest lower = (tt, lower rest)
lower-by (Some own) count from more done order ends rest lower = ((omega (arith, order, ends.0), ends.1), rest)

order-lower : (count from more : ℕ) (done : List Shown) → from ≤ more → RunInOrder count more done → RunInOrder count from done
order-lower count from more [] order all = tt
order-lower count from more (x ∷ done) order all =
    lower-by x.runs_on count from more done order all.0 all.1 (λ rest. order-lower count from more done order rest)

cons-by : (o : Option Left) (count from : ℕ) (own : Left) (done : List Shown) → OwnOrNone o own → from < own.key.end → own.key.end ≤ count
    → RunInOrder count own.key.end done → EndsBehind count from o × RunInOrder count (end_behind from o) done
cons-by None count from own done is more few rest = (tt, order-lower count from own.key.end done (omega (arith, more)) rest)
cons-by (Some x) count from own done is more few rest =
    let end : x.key.end ≡ own.key.end = ap (λ (y : Left). y.key.end) is in
    ((omega (arith, end, more), omega (arith, end, few)), subst (λ (n : ℕ). RunInOrder count n done) (sym end) rest)

order-cons : (count from : ℕ) (own : Left) (c : Column) (end : ℕ) (done : List Shown) → from < own.key.end → own.key.end ≤ count
    → RunInOrder count own.key.end done → RunInOrder count from (shown own c end ∷ done)
order-cons count from own c end done more few rest =
    cons-by (shown own c end).runs_on count from own done (shown-own own.field own c end) more few rest

-- along a line of a row
abbrev keys_left : List Left → List FormatKey
keys_left lefts = map (λ (c : Left). c.key) lefts

abbrev AllWithin : ℕ → List Left → Type 0
AllWithin count lefts = AllByRecursion (λ (c : Left). c.key.end ≤ count) lefts

order-row : (boxing : Boxing) (count from : ℕ) (lefts : List Left) (columns : List Column) → AreCells from (keys_left lefts)
    → AllWithin count lefts → RunInOrder count from (row_shown boxing lefts columns)
order-row boxing count from [] columns rise all = tt
order-row boxing count from (own ∷ lefts) [] rise all = tt
order-row boxing count from (own ∷ []) (c ∷ columns) rise all = order-cons count from own c (c.start + c.width) [] rise.0 all.0 tt
order-row boxing count from (own ∷ next ∷ lefts) (c ∷ []) rise all = order-cons count from own c (c.start + c.width) [] rise.0 all.0 tt
order-row boxing count from (own ∷ next ∷ lefts) (c ∷ d ∷ columns) rise all =
    order-cons count from own c (end_by (joined_here own next) (inner_bars boxing next.key.bars) c d)
    (row_shown boxing (next ∷ lefts) (d ∷ columns)) rise.0 all.0
    (order-row boxing count own.key.end (next ∷ lefts) (d ∷ columns) rise.1 all.1)

first-most : (own : Left) (lefts : List Left) (from : ℕ) → AreCells from (keys_left (own ∷ lefts)) → own.key.end ≤ columns_of_keys (keys_left (own ∷ lefts))
first-most own [] from rise = omega arith
first-most own (next ∷ lefts) from rise = omega (arith, first-most next lefts own.key.end rise.1, rise.1.0)

all-within : (count from : ℕ) (lefts : List Left) → AreCells from (keys_left lefts) → columns_of_keys (keys_left lefts) ≤ count → AllWithin count lefts
all-within count from [] rise few = tt
all-within count from (own ∷ []) rise few = (few, tt)
all-within count from (own ∷ next ∷ lefts) rise few =
    (omega (arith, first-most own (next ∷ lefts) from rise, few), all-within count own.key.end (next ∷ lefts) rise.1 few)

pub row-order : (boxing : Boxing) (count : ℕ) (lefts : List Left) (columns : List Column) → AreCells 0 (keys_left lefts)
    → columns_of_keys (keys_left lefts) ≤ count → RunInOrder count 0 (row_shown boxing lefts columns)
row-order boxing count lefts columns rise few = order-row boxing count 0 lefts columns rise (all-within count 0 lefts rise few)

-- and along a line of rules
order-drawn : (sign : Option RuleSign) (count from begin end : ℕ) (done : List Shown) → RunInOrder count from done
    → RunInOrder count from (if_drawn sign begin end ++ done)
order-drawn None count from begin end done rest = (tt, rest)
order-drawn (Some sign) count from begin end done rest = (tt, rest)

order-over : (line : RuleLine) (at : ℕ) (goes first : Bool) (own : Left) (one : Column) (count from begin end : ℕ) (done : List Shown)
    → (first ≡ true → from < own.key.end) → own.key.end ≤ count → from ≤ own.key.end
    → ((low : ℕ) → low ≤ own.key.end → RunInOrder count low done)
    → RunInOrder count from (over_shown line at (if goes then Through first own one else Free) begin end ++ done)
order-over line at false first own one count from begin end done more few low rest =
    order-drawn (sign_over line at) count from begin end done (rest from low)
order-over line at true true own one count from begin end done more few low rest =
    order-cons count from own one (one.start + one.width) done (more refl) few (rest own.key.end (omega arith))
order-over line at true false own one count from begin end done more few low rest = rest from low

length-keys : (cells : List CellLeft) → length (keys_in cells) ≡ length cells
length-keys [] = refl
length-keys (c ∷ cells) = ap suc (length-keys cells)

module _ (bytes : List ℕ) (cells : List CellLeft) (lefts : List Left) (all_columns : List Column) (left : AllLeft bytes cells lefts)
    (cover : Cover 0 (length all_columns) (keys_in cells)) (line : RuleLine) (to : ℕ) where
  abbrev keys : List FormatKey
  keys = keys_in cells

  abbrev count : ℕ
  count = length all_columns

  -- the columns from one on, which a cell has
  order-from : (columns : List Column) (cell at from begin : ℕ) → at + length columns ≡ count
      → (0 < length columns → HasColumn keys cell at) → (0 < length columns → from ≤ begin_from 0 (suc cell) keys)
      → (at ≡ begin_from 0 cell keys → from ≤ at) → RunInOrder count from (all_shown line (overs 0 lefts all_columns) at begin to columns)
  order-from [] cell at from begin many has low first = tt
  order-from (c ∷ columns) cell at from begin many has_column low first =
      let has = has_column (omega arith) in
      let met = over-cell bytes cells lefts all_columns cell at no_cell left cover has in
      let b = begin_from 0 cell keys in
      let e = begin_from 0 (suc cell) keys in
      let few_cells : cell < length cells = omega (arith, has.is_cell, length-keys cells) in
      let end : met.own.key.end ≡ e = ap (λ (k : FormatKey). k.end) (sym met.left.key) ∙ begin-of 0 cells cell no_cell few_cells in
      let next : suc at ≡ at + 1 = omega arith in
      let further : (low : ℕ) → low ≤ met.own.key.end
      → RunInOrder count low (all_shown line (overs 0 lefts all_columns) (suc at) (begin_behind (c ∷ columns)) to columns)
      = λ low most.
      split (RunInOrder count low (all_shown line (overs 0 lefts all_columns) (suc at) (begin_behind (c ∷ columns)) to columns)) (at + 1) e
      (omega (arith, has.to))
      (λ is.
      order-from columns (suc cell) (suc at) low (begin_behind (c ∷ columns)) (omega (arith, many))
      (λ some. subst (λ (n : ℕ). HasColumn keys (suc cell) n) (sym next)
      (column-behind count cell at keys cover has (omega (arith, many, some)) is))
      (λ some. omega (arith, most, end, is, (column-behind count cell at keys cover has (omega (arith, many, some)) is).to))
      (λ begins. omega (arith, most, end, is)))
      (λ less.
      order-from columns cell (suc at) low (begin_behind (c ∷ columns)) (omega (arith, many))
      (λ some. subst (λ (n : ℕ). HasColumn keys cell n) (sym next) (column-within cell at keys has (λ is. omega (arith, is, less))))
      (λ some. omega (arith, most, end))
      (λ begins. absurd (omega (arith, begins, has.from)))) in
      subst (λ (ss : List Shown). RunInOrder count from ss)
      (sym (shown-step line (overs 0 lefts all_columns) at begin to c columns))
      (subst (λ (o : Over). RunInOrder count from (over_shown line at o begin (end_at to (c ∷ columns))
      ++ all_shown line (overs 0 lefts all_columns) (suc at) (begin_behind (c ∷ columns)) to columns)) (sym met.over)
      (order-over line at (goes_on met.own) (at - b == 0) met.own _ count from begin (end_at to (c ∷ columns))
      (all_shown line (overs 0 lefts all_columns) (suc at) (begin_behind (c ∷ columns)) to columns)
      (λ is. let none : at - b ≡ 0 = eqb-true (at - b) 0 is in
      let begins : at ≡ b = omega (arith, none, has.from) in omega (arith, first begins, begins, end, has.to))
      (omega (arith, end, begins-most 0 count (suc cell) keys cover (omega (arith, has.is_cell))))
      (omega (arith, low (omega arith), end))
      further))

  pub rule-order : (from : ℕ) → 0 < length all_columns → RunInOrder count 0 (all_shown line (overs 0 lefts all_columns) 0 from to all_columns)
  rule-order from some =
      order-from all_columns 0 0 0 from (omega arith) (λ more. first-column count keys cover some) (λ more. omega arith) (λ is. omega arith)
