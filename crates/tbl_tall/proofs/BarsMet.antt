-- Bars that meet between two columns on a line of rules have their places there.
use Rattle.std.proofs.Common.{◌≡◌, ℕ, zero, suc, ◌+◌, ◌≤◌, max, Bool, true, false, not, ◌||◌, ◌==◌, ◌<◌, List, [], ◌∷◌, drop, length, ap, subst, ◌∙◌, arith, ne_eqb, if◌then◌else◌}
use Rattle.tbl_layout.specs.LayoutLaws.{AreBehind}
use Rattle.tbl_layout.specs.Widths.{edge_bars, inner_bars}
use Rattle.tbl_layout.specs.declared.bars.Bars.{Bars}
use Rattle.tbl_layout.specs.declared.columns.Column.{Column}
use Rattle.tbl_lines.specs.LinesLeft.{Beside, Over, bars_met, is_within, over_at, own_bars, rules_boundary, shown_bars}
use Rattle.tbl_lines.specs.PictureLines.{RuleLine}
use Rattle.tbl_lines.specs.RulePlaces.{bars_behind}
use Rattle.tbl_options.specs.declared.options.Boxing.{Boxing}
use Rattle.tbl_line_cells.specs.RulesDrawn.{FitBetween}

-- two columns beside each other are behind each other
behind-at : (boxing : Boxing) (columns : List Column) (at : ℕ) (c d : Column) (others : List Column) → AreBehind boxing columns
    → drop at columns ≡ c ∷ d ∷ others → c.start + c.width + inner_bars boxing c.bars ≤ d.start
behind-at boxing [] zero c d others behind is = absurd (cc)
behind-at boxing [] (suc at) c d others behind is = absurd (cc)
behind-at boxing (x ∷ []) zero c d others behind is = absurd (cc)
behind-at boxing (x ∷ []) (suc zero) c d others behind is = absurd (cc)
behind-at boxing (x ∷ []) (suc (suc at)) c d others behind is = absurd (cc)
behind-at boxing (x ∷ y ∷ columns) zero c d others behind is =
    let first : x ≡ c = cc in
    let second : y ≡ d = cc in
    subst (λ (e : Column). c.start + c.width + inner_bars boxing c.bars ≤ e.start) second
    (subst (λ (e : Column). e.start + e.width + inner_bars boxing e.bars ≤ y.start) first behind.0)
behind-at boxing (x ∷ y ∷ columns) (suc at) c d others behind is = behind-at boxing (y ∷ columns) at c d others behind.1 is

inner-by : (is : Bool) (n : ℕ) → (if is then max 1 n else n) ≤ max 1 n
inner-by true n = omega arith
inner-by false n = omega arith

pub inner-few : (boxing : Boxing) (n : ℕ) → inner_bars boxing n ≤ max 1 n
inner-few boxing n = inner-by boxing.is_inside n

met-by : (none ruled : Bool) (own above below most : ℕ) → own ≤ most → above ≤ most → below ≤ most
    → (if none then 0 else if ruled then max above below else max own (max above below)) ≤ most
met-by true ruled own above below most few few_above few_below = omega arith
met-by false true own above below most few few_above few_below = omega (arith, few_above, few_below)
met-by false false own above below most few few_above few_below = omega (arith, few, few_above, few_below)

-- no more of them meet than any of the lines has there
pub met-few : (bars : Bars) (count : ℕ) (line : RuleLine) (all : List Over) (above below : Beside) (boundary most : ℕ)
    → own_bars bars.boxing count line boundary ≤ most → shown_bars bars.boxing count above boundary ≤ most
    → shown_bars bars.boxing count below boundary ≤ most
    → bars_met bars count line all above below boundary ≤ most
met-few bars count line all above below boundary most own above_few below_few =
    met-by (not bars.has_any || is_within (over_at all boundary)) (rules_boundary count line all boundary) (own_bars bars.boxing count line boundary)
    (shown_bars bars.boxing count above boundary) (shown_bars bars.boxing count below boundary) most own above_few below_few

pub fit-met : (bars : Bars) (columns : List Column) (line : RuleLine) (all : List Over) (above below : Beside) (at : ℕ) (c d : Column)
    (others : List Column)
    → drop at columns ≡ c ∷ d ∷ others → AreBehind bars.boxing columns
    → own_bars bars.boxing (length columns) line (suc at) ≤ inner_bars bars.boxing c.bars
    → shown_bars bars.boxing (length columns) above (suc at) ≤ inner_bars bars.boxing c.bars
    → shown_bars bars.boxing (length columns) below (suc at) ≤ inner_bars bars.boxing c.bars
    → FitBetween (bars_met bars (length columns) line all above below (suc at)) c d
fit-met bars columns line all above below at c d others is behind own above_few below_few =
    let few = met-few bars (length columns) line all above below (suc at) (inner_bars bars.boxing c.bars) own above_few below_few in
    record {
      few = omega (arith, few, inner-few bars.boxing c.bars);
      behind = omega (arith, few, behind-at bars.boxing columns at c d others behind is);
    }

-- the most bars that any row has behind a column that isn't the last
behind-is : (columns : List Column) (at : ℕ) (c d : Column) (others : List Column) → drop at columns ≡ c ∷ d ∷ others
    → (bars_behind columns at ≡ c.bars) × (suc at < length columns)
behind-is [] zero c d others is = absurd (cc)
behind-is [] (suc at) c d others is = absurd (cc)
behind-is (x ∷ []) zero c d others is = absurd (cc)
behind-is (x ∷ []) (suc zero) c d others is = absurd (cc)
behind-is (x ∷ []) (suc (suc at)) c d others is = absurd (cc)
behind-is (x ∷ y ∷ columns) zero c d others is = let first : x ≡ c = cc in (ap (λ (e : Column). e.bars) first, omega arith)
behind-is (x ∷ y ∷ columns) (suc at) c d others is =
    let rest = behind-is (y ∷ columns) at c d others is in (rest.0, omega (arith, rest.1))

pub most-inner : (boxing : Boxing) (columns : List Column) (at : ℕ) (c d : Column) (others : List Column) → drop at columns ≡ c ∷ d ∷ others
    → (if suc at == length columns then edge_bars boxing (bars_behind columns at) else inner_bars boxing (bars_behind columns at))
    ≡ inner_bars boxing c.bars
most-inner boxing columns at c d others is =
    let there = behind-is columns at c d others is in
    ap (λ (t : Bool). if t then edge_bars boxing (bars_behind columns at) else inner_bars boxing (bars_behind columns at))
    (ne_eqb (suc at) (length columns) (λ same. omega (arith, same, there.1)))
    ∙ ap (λ (n : ℕ). inner_bars boxing n) there.0

-- as many bars have places behind a column, where a row of the formats has them
abbrev pub most_behind : Boxing → List Column → ℕ → ℕ
most_behind boxing columns at =
    let most = bars_behind columns at in if suc at == length columns then edge_bars boxing most else inner_bars boxing most

pub fit-given : (bars : Bars) (columns : List Column) (line : RuleLine) (all : List Over) (above below : Beside) → AreBehind bars.boxing columns
    → ((at : ℕ) → suc at ≤ length columns → own_bars bars.boxing (length columns) line (suc at) ≤ most_behind bars.boxing columns at)
    → ((at : ℕ) → suc at ≤ length columns → shown_bars bars.boxing (length columns) above (suc at) ≤ most_behind bars.boxing columns at)
    → ((at : ℕ) → suc at ≤ length columns → shown_bars bars.boxing (length columns) below (suc at) ≤ most_behind bars.boxing columns at)
    → (at : ℕ) (c d : Column) (others : List Column) → drop at columns ≡ c ∷ d ∷ others
    → FitBetween (bars_met bars (length columns) line all above below (suc at)) c d
fit-given bars columns line all above below behind own over under at c d others is =
    let most = most-inner bars.boxing columns at c d others is in
    let there = behind-is columns at c d others is in
    let few : suc at ≤ length columns = omega (arith, there.1) in
    fit-met bars columns line all above below at c d others is behind
    (subst (λ (n : ℕ). own_bars bars.boxing (length columns) line (suc at) ≤ n) most (own at few))
    (subst (λ (n : ℕ). shown_bars bars.boxing (length columns) above (suc at) ≤ n) most (over at few))
    (subst (λ (n : ℕ). shown_bars bars.boxing (length columns) below (suc at) ≤ n) most (under at few))
