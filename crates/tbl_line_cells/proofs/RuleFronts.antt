-- What stands between two columns on a line of rules, and the edges of the line.
use Rattle.std.proofs.Common.{◌≡◌, ℕ, zero, suc, ◌+◌, ◌-◌, ◌≤◌, Bool, true, false, refl, ap, ◌∙◌, arith, if◌then◌else◌}
use Rattle.tbl_layout.specs.Columns.{bar_place, bars_begin, bars_end}
use Rattle.tbl_layout.specs.declared.columns.Column.{Column}
use Rattle.tbl_lines.specs.CellsLeft.{Left, goes_on}
use Rattle.tbl_lines.specs.LinesLeft.{Free, Over, Through, edge, front_between, if_ruled, joined_here, sign_at}
use Rattle.tbl_lines.specs.PictureLines.{RuleLine, sign_over}
use Rattle.tbl_line_cells.specs.RulesDrawn.{FitBetween, edge_drawn, over_of}
use Rattle.tbl_line_cells.proofs.ShownAlike.{AreDrawnAlike, same-drawn, three-alike, three_runs}

-- bars that have their places stand between the ends of these
pub record Placed (count : ℕ) (c d : Column) : Type 0 where
  pub behind : c.start + c.width ≤ bar_place count c d
  pub begin : bars_begin c d ≤ bar_place count c d
  pub end : bar_place count c d + count ≤ bars_end c d
  pub in_front : bar_place count c d + count ≤ d.start

pub placed-between : (count : ℕ) (c d : Column) → FitBetween count c d → Placed count c d
placed-between count c d fit = record {
  behind = omega arith;
  begin = omega (arith, fit.few, fit.behind);
  end = omega (arith, fit.few, fit.behind);
  in_front = omega (arith, fit.behind);
}

-- by whether cells go through at the left and at the right
pub front-free : (line : RuleLine) (at : ℕ) (first : Bool) (own : Left) (one : Column) (next : Over) (count : ℕ) (c d : Column) → goes_on own ≡ false
    → front_between line at (over_of first own one) next count c d ≡ if_ruled (sign_over line at) (c.start + c.width) count c d (bars_end c d)
front-free line at first own one next count c d none =
    ap (λ (b : Bool). front_between line at (if b then Through first own one else Free) next count c d) none

pub front-before : (line : RuleLine) (at : ℕ) (first second : Bool) (own next : Left) (one two : Column) (count : ℕ) (c d : Column)
    → goes_on own ≡ true → goes_on next ≡ false
    → front_between line at (over_of first own one) (over_of second next two) count c d
    ≡ if_ruled (sign_over line (suc at)) (bars_begin c d) count c d (bars_end c d)
front-before line at first second own next one two count c d on none =
    ap (λ (b : Bool). front_between line at (if b then Through first own one else Free) (over_of second next two) count c d) on
    ∙ ap (λ (b : Bool). front_between line at (Through first own one) (if b then Through second next two else Free) count c d) none

pub front-through : (line : RuleLine) (at : ℕ) (first second : Bool) (own next : Left) (one two : Column) (count : ℕ) (c d : Column)
    → goes_on own ≡ true → goes_on next ≡ true
    → front_between line at (over_of first own one) (over_of second next two) count c d
    ≡ if_ruled (joined_here own next) (c.start + c.width) count c d d.start
front-through line at first second own next one two count c d on more =
    ap (λ (b : Bool). front_between line at (if b then Through first own one else Free) (over_of second next two) count c d) on
    ∙ ap (λ (b : Bool). front_between line at (Through first own one) (if b then Through second next two else Free) count c d) more

-- a column through which no cell goes is ruled by the line
pub sign-free : (line : RuleLine) (at : ℕ) (first : Bool) (own : Left) (one : Column) → goes_on own ≡ false
    → sign_at line (over_of first own one) at ≡ sign_over line at
sign-free line at first own one none = ap (λ (b : Bool). sign_at line (if b then Through first own one else Free) at) none

-- an edge as it is laid draws the same
pub edge-alike : (is : Bool) (at count : ℕ) → AreDrawnAlike (edge_drawn is at count) (edge is at count)
edge-alike is at zero = same-drawn _
edge-alike false at (suc n) = same-drawn _
edge-alike true at (suc n) =
    let before : at - at ≡ 0 = omega arith in
    let after : at + suc n - (at + suc n) ≡ 0 = omega arith in
    three-alike at (suc n) (edge_drawn true at (suc n)) refl
    (ap (λ (m : ℕ). three_runs m (suc n) (at + suc n - (at + suc n))) before ∙ ap (λ (m : ℕ). three_runs 0 (suc n) m) after)
