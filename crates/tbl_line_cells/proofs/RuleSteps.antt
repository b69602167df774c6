-- A line of rules column by column: what stands over one and behind it, and what is left of the line.
use Rattle.std.proofs.Common.{◌≡◌, ℕ, suc, ◌+◌, Bool, true, false, List, [], ◌∷◌, ◌++◌, length, refl, ap, arith, length-append, if◌then◌else◌, Option, None, Some}
use Rattle.tbl_layout.specs.Columns.{bars_end}
use Rattle.tbl_layout.specs.declared.columns.Column.{Column}
use Rattle.tbl_layout.specs.declared.data_lines.RuleSign.{RuleSign}
use Rattle.tbl_lines.specs.LinesLeft.{Beside, Free, Over, Shown, Through, all_shown, bars_met, front_between, fronts_between, if_drawn, is_within, over_at, over_shown}
use Rattle.tbl_lines.specs.PictureLines.{Cell, RuleLine, Sheet, sign_over}
use Rattle.tbl_line_cells.specs.RulesDrawn.{begin_behind, end_at, front_list, within_count}

append-none : {A : Type 0} (xs : List A) → xs ≡ xs ++ []
append-none [] = refl
append-none {A = A} (x ∷ xs) = ap (λ (ys : List A). x ∷ ys) (append-none xs)

pub shown-step : (line : RuleLine) (all : List Over) (at from to : ℕ) (c : Column) (columns : List Column)
    → all_shown line all at from to (c ∷ columns)
    ≡ over_shown line at (over_at all at) from (end_at to (c ∷ columns)) ++ all_shown line all (suc at) (begin_behind (c ∷ columns)) to columns
shown-step line all at from to c [] = append-none (over_shown line at (over_at all at) from to)
shown-step line all at from to c (d ∷ columns) = refl

one-by : (is : Bool) (front : Cell) (others : List Cell) → (if is then others else front ∷ others) ≡ (if is then [] else front ∷ []) ++ others
one-by true front others = refl
one-by false front others = refl

pub fronts-step : (s : Sheet) (line : RuleLine) (all : List Over) (above below : Beside) (at : ℕ) (c : Column) (columns : List Column)
    → fronts_between s line all above below at (c ∷ columns)
    ≡ front_list s line all above below at (c ∷ columns) ++ fronts_between s line all above below (suc at) columns
fronts-step s line all above below at c [] = refl
fronts-step s line all above below at c (d ∷ columns) =
    one-by (is_within (over_at all (suc at)))
    (front_between line at (over_at all at) (over_at all (suc at)) (bars_met s.bars (length s.columns) line all above below (suc at)) c d)
    (fronts_between s line all above below (suc at) (d ∷ columns))

-- each cell that is shown has one front
count-drawn : (sign : Option RuleSign) (from to : ℕ) → length (if_drawn sign from to) ≡ 1
count-drawn None from to = refl
count-drawn (Some sign) from to = refl

count-over : (line : RuleLine) (at : ℕ) (over : Over) (from to : ℕ) → length (over_shown line at over from to) + within_count over ≡ 1
count-over line at Free from to = ap (λ (n : ℕ). n + 0) (count-drawn (sign_over line at) from to)
count-over line at (Through true own one) from to = refl
count-over line at (Through false own one) from to = refl

count-front : (over : Over) (front : Cell) → length (if is_within over then [] else front ∷ []) + within_count over ≡ 1
count-front Free front = refl
count-front (Through true own one) front = refl
count-front (Through false own one) front = refl

pub count-fronts : (s : Sheet) (line : RuleLine) (all : List Over) (above below : Beside) (at from to : ℕ) (c : Column) (columns : List Column)
    → length (all_shown line all at from to (c ∷ columns)) + within_count (over_at all at)
    ≡ suc (length (fronts_between s line all above below at (c ∷ columns)))
count-fronts s line all above below at from to c [] = count-over line at (over_at all at) from to
count-fronts s line all above below at from to c (d ∷ columns) =
    let others = all_shown line all (suc at) (bars_end c d) to (d ∷ columns) in
    let fronts = fronts_between s line all above below (suc at) (d ∷ columns) in
    let here = over_shown line at (over_at all at) from (c.start + c.width) in
    let front = front_list s line all above below at (c ∷ d ∷ columns) in
    omega (
      arith,
      length-append here others,
      count-over line at (over_at all at) from (c.start + c.width),
      count-fronts s line all above below (suc at) (bars_end c d) to d columns,
      ap (λ (cells : List Cell). length cells) (fronts-step s line all above below at c (d ∷ columns)),
      length-append front fronts,
      count-front (over_at all (suc at))
          (front_between line at (over_at all at) (over_at all (suc at)) (bars_met s.bars (length s.columns) line all above below (suc at)) c d),
    )
