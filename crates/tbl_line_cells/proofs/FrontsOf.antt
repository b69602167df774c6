-- What is laid between two columns on a line of rules is what stands there.
use Rattle.std.proofs.Common.{◌≡◌, ℕ, suc, ◌+◌, ◌-◌, ◌==◌, ◌≤◌, ◌<◌, true, false, List, ◌∷◌, drop, get_or, length, take, sym, ap, subst, ◌∙◌, arith, nat_lt, Option, None}
use Rattle.tbl_format.specs.declared.format.Key.TheVariants.{Left as LeftKey}
use Rattle.tbl_format.specs.declared.format.Standing.TheVariants.{Middle}
use Rattle.tbl_layout.specs.Columns.{bar_place, bars_begin, bars_end}
use Rattle.tbl_layout.specs.Spans.{as_one}
use Rattle.tbl_layout.specs.declared.bars.Bars.{Bars}
use Rattle.tbl_layout.specs.declared.columns.Column.{Column}
use Rattle.tbl_layout.specs.declared.data_lines.RuleSign.{RuleSign}
use Rattle.tbl_layout.specs.declared.entry.EntryKind.TheVariants.{Text}
use Rattle.tbl_lines.specs.CellsLeft.{Left, goes_on}
use Rattle.tbl_lines.specs.LinesLeft.{Beside, Over, bars_met, front_between, if_ruled, joined_here, over_at, overs, sign_at}
use Rattle.tbl_lines.specs.PictureLines.{Cell, RuleLine}
use Rattle.tbl_lines.specs.declared.fronts.Front.{Front}
use Rattle.tbl_line_cells.specs.LinesDrawn.{keys_in}
use Rattle.tbl_line_cells.specs.RulesDrawn.{Cover, HasColumn, RuleGiven, StandsAs, begin_from, over_of}
use Rattle.tbl_line_cells.specs.declared.cells.CellLeft.{CellLeft}
use Rattle.tbl_text.specs.declared.block_parts.BlockPlace.TheVariants.{AtLine}
use Rattle.tbl_line_cells.proofs.CellsOver.{OverCell, over-cell}
use Rattle.tbl_line_cells.proofs.ColumnsAt.{drop-two}
use Rattle.tbl_line_cells.proofs.RuleFronts.{Placed, front-before, front-free, front-through, placed-between, sign-free}

abbrev pub no_cell : CellLeft
no_cell = record {
  key = record { bars = 0; key = LeftKey; end = 0; standing = Middle; has_no_width = false };
  entry = record { from = 0; to = 0; kind = Text 0 0 };
  lead = 0;
  place = AtLine 0 None;
  rows = 0;
  is_used = false;
  stop = 0;
  is_cut = false;
}

abbrev pub no_column : Column
no_column = record { needs = record { alone = 0; strip = 0; left = 0; right = 0; split = 0 }; bars = 0; width = 0; start = 0 }

-- a rule that stands so where bars have their places
abbrev pub Stands : Front → Option RuleSign → ℕ → ℕ → Column → Column → ℕ → Type 0
Stands front sign from count c d to =
    from ≤ bar_place count c d → bar_place count c d + count ≤ to → StandsAs front (if_ruled sign from count c d to)

pub stands-by : {front : Front} {sign other : Option RuleSign} {from begin count met : ℕ} {c d e f : Column} {to end : ℕ}
    → sign ≡ other → from ≡ begin → count ≡ met → c ≡ e → d ≡ f → to ≡ end
    → Stands front sign from count c d to → Stands front other begin met e f end
stands-by {front} {sign} {other} {from} {begin} {count} {met} {c} {d} {e} {f} {to} {end} signs begins counts first second ends stands =
    subst (λ (n : ℕ). Stands front other begin met e f n) ends
    (subst (λ (g : Column). Stands front other begin met e g to) second
    (subst (λ (g : Column). Stands front other begin met g d to) first
    (subst (λ (n : ℕ). Stands front other begin n c d to) counts
    (subst (λ (n : ℕ). Stands front other n count c d to) begins
    (subst (λ (s : Option RuleSign). Stands front s from count c d to) signs stands)))))

-- two columns beside each other
pub record AreThere (columns : List Column) (at : ℕ) (c d : Column) : Type 0 where
  pub first : get_or columns at no_column ≡ c
  pub second : get_or columns (at + 1) no_column ≡ d

same-two : (a b c d : Column) (xs ys : List Column) → a ∷ b ∷ xs ≡ c ∷ d ∷ ys → (a ≡ c) × (b ≡ d)
same-two a b c d xs ys is = (cc, cc)

pub are-there : (columns : List Column) (at : ℕ) (c d : Column) (others : List Column) → at + 1 < length columns → drop at columns ≡ c ∷ d ∷ others
    → AreThere columns at c d
are-there columns at c d others within is =
    let next : at + 1 ≡ suc at = omega arith in
    let same = same-two (get_or columns at no_column) (get_or columns (suc at) no_column) c d (drop (suc (suc at)) columns) others
    (sym (drop-two columns at no_column no_column (omega (arith, within))) ∙ is) in
    record { first = same.0; second = ap (λ (n : ℕ). get_or columns n no_column) next ∙ same.1 }

module _ {bytes : List ℕ} {cells : List CellLeft} {signs : List (Option RuleSign)} {counts : List ℕ} {columns : List Column} {lefts : List Left}
    {bars : Bars} {line : RuleLine} {above below : Beside} (given : RuleGiven bytes cells signs counts columns lefts bars line above below)
    (cover : Cover 0 (length columns) (keys_in cells)) {cell next at : ℕ} (has : HasColumn (keys_in cells) cell at)
    (has_next : HasColumn (keys_in cells) next (at + 1)) (within : at + 1 < length columns)
    {c d : Column} {others : List Column} (is : drop at columns ≡ c ∷ d ∷ others) where
  abbrev pub all : List Over
  all = overs 0 lefts columns

  abbrev pub count : ℕ
  count = bars_met bars (length columns) line all above below (suc at)

  abbrev pub stands : Cell
  stands = front_between line at (over_at all at) (over_at all (suc at)) count c d

  pub met : OverCell bytes (get_or cells cell no_cell) lefts columns (begin_from 0 cell (keys_in cells)) (begin_from 0 (suc cell) (keys_in cells)) at
  met = over-cell bytes cells lefts columns cell at no_cell given.left cover has

  pub met-next : OverCell bytes (get_or cells next no_cell) lefts columns (begin_from 0 next (keys_in cells))
      (begin_from 0 (suc next) (keys_in cells)) (suc at)
  met-next =
      let one : at + 1 ≡ suc at = omega arith in
      over-cell bytes cells lefts columns next (suc at) no_cell given.left cover (subst (λ (n : ℕ). HasColumn (keys_in cells) next n) one has_next)

  pub places : Placed count c d
  places = placed-between count c d (given.fit at c d others is)

  pub count-is : get_or counts (at + 1) 0 ≡ count
  count-is =
      let one : at + 1 ≡ suc at = omega arith in
      ap (λ (n : ℕ). get_or counts n 0) one ∙ given.met (suc at) (omega (arith, within))

  on : goes_on met.own ≡ nat_lt 0 (get_or cells cell no_cell).rows
  on = ap (λ (n : ℕ). nat_lt 0 n) (sym met.left.rows)

  on-next : goes_on met-next.own ≡ nat_lt 0 (get_or cells next no_cell).rows
  on-next = ap (λ (n : ℕ). nat_lt 0 n) (sym met-next.left.rows)

  abbrev begin : ℕ
  begin = begin_from 0 cell (keys_in cells)

  abbrev begin-next : ℕ
  begin-next = begin_from 0 next (keys_in cells)

  abbrev one : Column
  one = as_one (take (begin_from 0 (suc cell) (keys_in cells) - begin) (drop begin columns))

  abbrev two : Column
  two = as_one (take (begin_from 0 (suc next) (keys_in cells) - begin-next) (drop begin-next columns))

  abbrev here : Over
  here = over_of (at - begin == 0) met.own one

  abbrev behind : Over
  behind = over_of (suc at - begin-next == 0) met-next.own two

  first-over : stands ≡ front_between line at here (over_at all (suc at)) count c d
  first-over = ap (λ (o : Over). front_between line at o (over_at all (suc at)) count c d) met.over

  both-over : stands ≡ front_between line at here behind count c d
  both-over = first-over ∙ ap (λ (o : Over). front_between line at here o count c d) met-next.over

  pub free-is : nat_lt 0 (get_or cells cell no_cell).rows ≡ false
      → if_ruled (get_or signs at None) (c.start + c.width) count c d (bars_end c d) ≡ stands
  free-is none =
      let off = on ∙ none in
      ap (λ (s : Option RuleSign). if_ruled s (c.start + c.width) count c d (bars_end c d))
      (given.drawn at (omega (arith, within)) ∙ ap (λ (o : Over). sign_at line o at) met.over ∙ sign-free line at (at - begin == 0) met.own one off)
      ∙ sym (first-over ∙ front-free line at (at - begin == 0) met.own one (over_at all (suc at)) count c d off)

  pub before-is : nat_lt 0 (get_or cells cell no_cell).rows ≡ true → nat_lt 0 (get_or cells next no_cell).rows ≡ false
      → if_ruled (get_or signs (at + 1) None) (bars_begin c d) count c d (bars_end c d) ≡ stands
  before-is goes none =
      let off = on-next ∙ none in
      let same : at + 1 ≡ suc at = omega arith in
      ap (λ (s : Option RuleSign). if_ruled s (bars_begin c d) count c d (bars_end c d))
      (ap (λ (n : ℕ). get_or signs n None) same ∙ given.drawn (suc at) (omega (arith, within))
      ∙ ap (λ (o : Over). sign_at line o (suc at)) met-next.over ∙ sign-free line (suc at) (suc at - begin-next == 0) met-next.own two off)
      ∙ sym (both-over ∙ front-before line at (at - begin == 0) (suc at - begin-next == 0) met.own met-next.own one two count c d (on ∙ goes) off)

  pub through-is : nat_lt 0 (get_or cells cell no_cell).rows ≡ true → nat_lt 0 (get_or cells next no_cell).rows ≡ true
      → (joined : Option RuleSign) → joined ≡ joined_here met.own met-next.own
      → if_ruled joined (c.start + c.width) count c d d.start ≡ stands
  through-is goes more joined same =
      ap (λ (s : Option RuleSign). if_ruled s (c.start + c.width) count c d d.start) same
      ∙ sym (both-over ∙ front-through line at (at - begin == 0) (suc at - begin-next == 0) met.own met-next.own one two count c d (on ∙ goes)
      (on-next ∙ more))
