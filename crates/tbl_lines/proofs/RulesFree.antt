-- How many bars meet on a line of rules through which no cell goes, and how many it shows: by both descriptions the same.
use Rattle.std.proofs.Common.{◌≡◌, ℕ, zero, suc, ◌-◌, ◌<◌, max, ◌⊎◌, inl, inr, Bool, true, false, not, ◌&&◌, ◌||◌, ◌==◌, ne_eqb, List, [], ◌∷◌, drop, length, replicate, take, refl, sym, ap, subst, ◌∙◌, arith, if◌then◌else◌, nat_lt, eq-eqb, le-ltb, ltb-false}
use Rattle.std.specs.List.{AllByRecursion}
use Rattle.std.proofs.Math.Dec.{eqb-suc-zero}
use Rattle.tbl_format.specs.Format.{FormatRow}
use Rattle.tbl_format.proofs.Elements.{each-append}
use Rattle.tbl_layout.specs.Spans.{as_one}
use Rattle.tbl_layout.specs.Widths.{edge_bars, inner_bars}
use Rattle.tbl_layout.specs.declared.bars.Bars.{Bars}
use Rattle.tbl_layout.specs.declared.columns.Column.{Column}
use Rattle.tbl_layout.specs.declared.data_lines.RuleSign.{RuleSign}
use Rattle.tbl_options.specs.declared.options.Boxing.{Boxing}
use Rattle.tbl_lines.specs.CellsLeft.{Left, goes_on}
use Rattle.tbl_lines.specs.LinesLeft.{Beside, Free, Nothing, OfRules, Over, bars_met, has_column, is_free, is_within, over_at, overs, overs_from, overs_of, own_bars, rules_boundary, rules_column, rules_edge, shown_bars}
use Rattle.tbl_lines.specs.PictureLines.{Neighbour, NoRow, OfKeys, OfRules as OfRulesSeen, RuleLine, Whole, bars_at_edge, bars_between, met_at_edge, met_behind, own_at_edge, own_behind, rules_behind, shown_at_edge, shown_behind}
use Rattle.tbl_format.specs.FormatLaws.{bars_among}
use Rattle.tbl_lines.specs.RulesAlone.{NoneGoOn, ShownAlike}

-- cells that don't go on leave all columns free
abbrev AllFree : List Over → Type 0
AllFree all = AllByRecursion (λ (o : Over). o ≡ Free) all

free-replicate : (n : ℕ) → AllFree (replicate n Free)
free-replicate zero = tt
free-replicate (suc n) = (refl, free-replicate n)

free-of : (own : Left) (columns : List Column) → goes_on own ≡ false → AllFree (overs_of own columns)
free-of own columns is =
    subst (λ (t : Bool). AllFree (if t then overs_from true own (as_one columns) (length columns) else replicate (length columns) Free)) (sym is)
    (free-replicate (length columns))

free-overs : (from : ℕ) (cells : List Left) (columns : List Column) → NoneGoOn cells → AllFree (overs from cells columns)
free-overs from [] columns none = tt
free-overs from (own ∷ cells) columns none =
    let count = own.key.end - from in
    each-append (λ (o : Over). o ≡ Free) (overs_of own (take count columns)) (overs own.key.end cells (drop count columns))
    (free-of own (take count columns) none.0)
    (free-overs own.key.end cells (drop count columns) none.1)

free-at : (all : List Over) → AllFree all → (column : ℕ) → over_at all column ≡ Free
free-at [] free column = refl
free-at (o ∷ all) free zero = free.0
free-at (o ∷ all) free (suc column) = free-at all free.1 column

pub free-columns : (cells : List Left) (columns : List Column) → NoneGoOn cells → (column : ℕ) → over_at (overs 0 cells columns) column ≡ Free
free-columns cells columns none column = free-at (overs 0 cells columns) (free-overs 0 cells columns none) column

-- an edge, and a boundary between two columns
abbrev IsEdge : ℕ → ℕ → Type 0
IsEdge count n = (n ≡ 0) ⊎ (n ≡ count)

edge-by : (t : Bool) → (t || true) ≡ true
edge-by true = refl
edge-by false = refl

edge-test : (count n : ℕ) → IsEdge count n → (n == 0 || n == count) ≡ true
edge-test count n (inl is) = ap (λ (t : Bool). t || n == count) (eq-eqb n 0 is)
edge-test count n (inr is) = ap (λ (t : Bool). n == 0 || t) (eq-eqb n count is) ∙ edge-by (n == 0)

not-last : (count column : ℕ) → suc column < count → (suc column == count) ≡ false
not-last count column few = ne_eqb (suc column) count (λ is. omega (arith, is, few))

inner-test : (count column : ℕ) → suc column < count → (suc column == 0 || suc column == count) ≡ false
inner-test count column few = ap (λ (t : Bool). t || suc column == count) (eqb-suc-zero column) ∙ not-last count column few

-- the bars of a row of rule keys
module _ (boxing : Boxing) (count : ℕ) (format : FormatRow) where
  abbrev keys-by : ℕ → Bool → ℕ
  keys-by n t = let bars = bars_among format.keys format.bars n in if t then edge_bars boxing bars else inner_bars boxing bars

  keys-edge : (n : ℕ) → IsEdge count n → own_bars boxing count (OfKeys format) n ≡ bars_at_edge boxing format n
  keys-edge n is = ap (λ (t : Bool). keys-by n t) (edge-test count n is)

  keys-inner : (column : ℕ) → suc column < count → own_bars boxing count (OfKeys format) (suc column) ≡ bars_between boxing format (suc column)
  keys-inner column few = ap (λ (t : Bool). keys-by (suc column) t) (inner-test count column few)

-- of two columns beside each other it rules the second only if it rules the first
less-two : (t : Bool) (column n : ℕ) → nat_lt column n ≡ t → (nat_lt column n || nat_lt (suc column) n) ≡ nat_lt column n
less-two true column n is = ap (λ (t : Bool). t || nat_lt (suc column) n) is ∙ sym is
less-two false column n is =
    ap (λ (t : Bool). t || nat_lt (suc column) n) is ∙ le-ltb (suc column) n (omega (arith, ltb-false column n is)) ∙ sym is

either-column : (line : RuleLine) (column : ℕ) → (has_column line column || has_column line (suc column)) ≡ has_column line column
either-column (Whole sign) column = refl
either-column (OfKeys format) column = less-two (nat_lt column (length format.keys)) column (length format.keys) refl

-- bars that meet, and that are shown
met-if : (any t : Bool) (own beside : ℕ)
    → (if not any || false then 0 else if t then beside else max own beside) ≡ (if any then max (if t then 0 else own) beside else 0)
met-if true true own beside = omega arith
met-if true false own beside = refl
met-if false t own beside = refl

shown-if : (t : Bool) (own seen : ℕ) → (if t || false then 0 else max own seen) ≡ (if t then 0 else max own seen)
shown-if true own seen = refl
shown-if false own seen = refl

-- where a line isn't ruled it has its own bars
module _ (boxing : Boxing) (count : ℕ) where
  own-edge : (line : RuleLine) (n : ℕ) → IsEdge count n
      → own_at_edge boxing line n ≡ (if rules_edge line Free then 0 else own_bars boxing count line n)
  own-edge (Whole sign) n is = refl
  own-edge (OfKeys format) n is = sym (keys-edge boxing count format n is)

  own-inner : (line : RuleLine) (column : ℕ) → suc column < count
      → own_behind boxing line column ≡ (if has_column line column then 0 else own_bars boxing count line (suc column))
  own-inner (Whole sign) column few = refl
  own-inner (OfKeys format) column few =
      ap (λ (n : ℕ). if rules_behind format column then 0 else n) (sym (keys-inner boxing count format column few))

module _ (count : ℕ) (line : RuleLine) (all : List Over) (free : (column : ℕ) → over_at all column ≡ Free) where
  rules-at-edge : (n : ℕ) → IsEdge count n → rules_boundary count line all n ≡ rules_edge line Free
  rules-at-edge zero is = ap (rules_edge line) (free 0)
  rules-at-edge (suc n) (inl is) = absurd (omega (arith, is))
  rules-at-edge (suc n) (inr is) =
      ap (λ (t : Bool). if t then rules_edge line (over_at all n) else rules_column line all n || rules_column line all (suc n))
      (eq-eqb (suc n) count is)
      ∙ ap (rules_edge line) (free n)

  rules-inner : (column : ℕ) → suc column < count → rules_boundary count line all (suc column) ≡ has_column line column
  rules-inner column few =
      let here = has_column line column in
      ap (λ (t : Bool). if t then rules_edge line (over_at all column) else rules_column line all column || rules_column line all (suc column))
      (not-last count column few)
      ∙ ap (λ (o : Over). is_free o && here || rules_column line all (suc column)) (free column)
      ∙ ap (λ (o : Over). here || is_free o && has_column line (suc column)) (free (suc column))
      ∙ either-column line column

  shown-at : (boxing : Boxing) (behind : Beside) (n : ℕ) (t : Bool) (own seen : ℕ) → rules_boundary count line all n ≡ t
      → own_bars boxing count line n ≡ own → shown_bars boxing count behind n ≡ seen
      → shown_bars boxing count (OfRules line all behind) n ≡ (if t then 0 else max own seen)
  shown-at boxing behind n t own seen ruled own_is seen_is =
      let both = max (own_bars boxing count line n) (shown_bars boxing count behind n) in
      ap (λ (o : Over). if rules_boundary count line all n || is_within o then 0 else both) (free n)
      ∙ ap (λ (t : Bool). if t || false then 0 else both) ruled
      ∙ shown-if t (own_bars boxing count line n) (shown_bars boxing count behind n)
      ∙ ap (λ (k : ℕ). if t then 0 else max k (shown_bars boxing count behind n)) own_is
      ∙ ap (λ (k : ℕ). if t then 0 else max own k) seen_is

  module _ (bars : Bars) (above below : Beside) where
    met-at : (n : ℕ) (t : Bool) (own up down : ℕ) → rules_boundary count line all n ≡ t
        → own ≡ (if t then 0 else own_bars bars.boxing count line n)
        → shown_bars bars.boxing count above n ≡ up → shown_bars bars.boxing count below n ≡ down
        → bars_met bars count line all above below n ≡ (if bars.has_any then max own (max up down) else 0)
    met-at n t own up down ruled own_is up_is down_is =
        let any = bars.has_any in
        let mine = own_bars bars.boxing count line n in
        let other = shown_bars bars.boxing count below n in
        let beside = max (shown_bars bars.boxing count above n) other in
        ap (λ (o : Over). if not any || is_within o then 0 else if rules_boundary count line all n then beside else max mine beside) (free n)
        ∙ ap (λ (t : Bool). if not any || false then 0 else if t then beside else max mine beside) ruled
        ∙ met-if any t mine beside
        ∙ ap (λ (k : ℕ). if any then max k beside else 0) (sym own_is)
        ∙ ap (λ (k : ℕ). if any then max own (max k other) else 0) up_is
        ∙ ap (λ (k : ℕ). if any then max own (max up k) else 0) down_is

    module _ (over under : Neighbour) (up : ShownAlike bars.boxing count above over) (down : ShownAlike bars.boxing count below under) where
      pub met-left : bars_met bars count line all above below 0 ≡ met_at_edge bars line over under 0
      met-left =
          met-at 0 (rules_edge line Free) (own_at_edge bars.boxing line 0) (shown_at_edge bars.boxing over 0) (shown_at_edge bars.boxing under 0)
          (rules-at-edge 0 (inl refl)) (own-edge bars.boxing count line 0 (inl refl)) up.left down.left

      pub met-right : bars_met bars count line all above below count ≡ met_at_edge bars line over under count
      met-right =
          met-at count (rules_edge line Free) (own_at_edge bars.boxing line count) (shown_at_edge bars.boxing over count)
          (shown_at_edge bars.boxing under count)
          (rules-at-edge count (inr refl)) (own-edge bars.boxing count line count (inr refl)) up.right down.right

      pub met-inner : (column : ℕ) → suc column < count
          → bars_met bars count line all above below (suc column) ≡ met_behind bars line over under column
      met-inner column few =
          met-at (suc column) (has_column line column) (own_behind bars.boxing line column) (shown_behind bars.boxing over column)
          (shown_behind bars.boxing under column)
          (rules-inner column few) (own-inner bars.boxing count line column few) (up.inner column few) (down.inner column few)

-- what a line shows beside another one
pub nothing-alike : (boxing : Boxing) (count : ℕ) → ShownAlike boxing count Nothing NoRow
nothing-alike boxing count = record { left = refl; right = refl; inner = λ column few. refl }

pub keys-alike : (boxing : Boxing) (count : ℕ) (format : FormatRow) (cells : List Left) (columns : List Column) (behind : Beside) (seen : Neighbour)
    → NoneGoOn cells → ShownAlike boxing count behind seen
    → ShownAlike boxing count (OfRules (OfKeys format) (overs 0 cells columns) behind) (OfRulesSeen format seen)
keys-alike boxing count format cells columns behind seen none alike =
    let line = OfKeys format in
    let all = overs 0 cells columns in
    let free = free-columns cells columns none in
    record {
      left = shown-at count line all free boxing behind 0 false (bars_at_edge boxing format 0) (shown_at_edge boxing seen 0)
          (rules-at-edge count line all free 0 (inl refl)) (keys-edge boxing count format 0 (inl refl)) alike.left;
      right = shown-at count line all free boxing behind count false (bars_at_edge boxing format count) (shown_at_edge boxing seen count)
          (rules-at-edge count line all free count (inr refl)) (keys-edge boxing count format count (inr refl)) alike.right;
      inner = λ column few.
          shown-at count line all free boxing behind (suc column) (rules_behind format column) (bars_between boxing format (suc column))
          (shown_behind boxing seen column)
          (rules-inner count line all free column few) (keys-inner boxing count format column few) (alike.inner column few);
    }

pub whole-alike : (boxing : Boxing) (count : ℕ) (sign : RuleSign) (cells : List Left) (columns : List Column) (behind : Beside)
    → NoneGoOn cells → ShownAlike boxing count (OfRules (Whole sign) (overs 0 cells columns) behind) NoRow
whole-alike boxing count sign cells columns behind none =
    let line = Whole sign in
    let all = overs 0 cells columns in
    let free = free-columns cells columns none in
    let shown : (n : ℕ) → rules_boundary count line all n ≡ true → shown_bars boxing count (OfRules line all behind) n ≡ 0 = λ n ruled.
    shown-at count line all free boxing behind n true (own_bars boxing count line n) (shown_bars boxing count behind n) ruled refl refl in
    record {
      left = shown 0 (rules-at-edge count line all free 0 (inl refl));
      right = shown count (rules-at-edge count line all free count (inr refl));
      inner = λ column few. shown (suc column) (rules-inner count line all free column few);
    }
