-- A line of rules that was laid column by column is the line that is drawn.
use Rattle.std.proofs.Common.{◌≡◌, ℕ, suc, ◌-◌, ◌<◌, Bool, true, false, not, ◌&&◌, ◌==◌, List, [], ◌∷◌, ◌++◌, length, refl, sym, ap, ◌∙◌, arith, length-append, nat_lt, if◌then◌else◌}
use Rattle.std.proofs.lemmas.List.{length-map}
use Rattle.tbl_layout.specs.LayoutLaws.{first_start, last_end}
use Rattle.tbl_layout.specs.declared.columns.Column.{Column}
use Rattle.tbl_lines.specs.CellsLeft.{Left, goes_on}
use Rattle.tbl_lines.specs.LinesLeft.{Beside, Free, Over, Shown, Through, all_shown, bars_met, edge, fronts_between, over_at, overs, rule_fronts, rule_shown, rules_edge}
use Rattle.tbl_lines.specs.PictureLines.{Cell, OfKeys, RuleLine, Sheet, Whole, line_of, with_fronts}
use Rattle.tbl_lines.specs.RowsLeft.{cell_of_front}
use Rattle.tbl_lines.specs.declared.fronts.Front.{Front}
use Rattle.tbl_line_cells.specs.LaidCells.{on_line}
use Rattle.tbl_line_cells.specs.LinesDrawn.{AreShown, KeptLine, SoFar}
use Rattle.tbl_line_cells.specs.declared.laid_cells.LaidCell.{LaidCell}
use Rattle.tbl_line_cells.specs.RulesDrawn.{edge_drawn, is_whole_line, over_of, within_count}
use Rattle.tbl_line_cells.specs.declared.cells.CellLeft.{CellLeft}
use Rattle.tbl_line_cells.proofs.CellsOver.{OverCell}
use Rattle.tbl_line_cells.proofs.FrontsMarked.{AllMarkedAlike, edge-marked, marked-behind}
use Rattle.tbl_line_cells.proofs.RuleFronts.{edge-alike}
use Rattle.tbl_line_cells.proofs.RuleSteps.{count-fronts}
use Rattle.tbl_line_cells.proofs.ShownAlike.{AllDrawnAlike, alike-with, line-alike, same-drawn}

-- whether the line rules an edge beside a cell
edge-free : (is : Bool) (first : Bool) (own : Left) (one : Column) (line : RuleLine)
    → rules_edge line (if is then Through first own one else Free) ≡ (is_whole_line line && not is)
edge-free true first own one (Whole sign) = refl
edge-free false first own one (Whole sign) = refl
edge-free true first own one (OfKeys format) = refl
edge-free false first own one (OfKeys format) = refl

pub edge-ruled : (line : RuleLine) (first : Bool) (own : Left) (one : Column)
    → rules_edge line (over_of first own one) ≡ (is_whole_line line && not (nat_lt 0 own.rows))
edge-ruled line first own one = edge-free (goes_on own) first own one line

-- the first column of a cell is no further one
first-by : (is : Bool) (own : Left) (one : Column) → within_count (if is then Through true own one else Free) ≡ 0
first-by true own one = refl
first-by false own one = refl

pub first-count : (at : ℕ) (own : Left) (one : Column) → at ≡ 0 → within_count (over_of (at == 0) own one) ≡ 0
first-count at own one none = ap (λ (n : ℕ). within_count (over_of (n == 0) own one)) none ∙ first-by (goes_on own) own one

-- as many cells and fronts are laid as are shown
pub as-many : (bytes : List ℕ) (cells : List LaidCell) (done : List Shown) → AreShown bytes cells done → length cells ≡ length done
as-many bytes [] [] are = refl
as-many bytes [] (s ∷ done) are = absurd are
as-many bytes (c ∷ cells) [] are = absurd are
as-many bytes (c ∷ cells) (s ∷ done) are = ap suc (as-many bytes cells done are.1)

pub as-many-fronts : (bytes : List ℕ) (now : KeptLine) (done : List Shown) (fronts : List Cell) → SoFar bytes now done fronts
    → length now.fronts ≡ length fronts
as-many-fronts bytes now done fronts so_far =
    sym (length-map now.fronts (λ (f : Front). on_line (cell_of_front f)))
    ∙ ap (λ (cells : List Cell). length cells) so_far.front.in_front
    ∙ length-map fronts on_line

module _ (s : Sheet) (lefts : List Left) (line : RuleLine) (above below : Beside) where
  abbrev all : List Over
  all = overs 0 lefts s.columns

  abbrev between : List Cell
  between = fronts_between s line all above below 0 s.columns

  abbrev met : ℕ → ℕ
  met boundary = bars_met s.bars (length s.columns) line all above below boundary

  -- by these edges
  abbrev fronts_by : Bool → Bool → ℕ → ℕ → List Cell → List Cell
  fronts_by is_left is_right left right fronts = edge is_left 0 left ∷ fronts ++ edge is_right (s.width - right) right ∷ []

  abbrev laid_by : Bool → Bool → ℕ → ℕ → List Cell → List Cell
  laid_by is_left is_right left right fronts = (edge_drawn is_left 0 left ∷ fronts) ++ edge_drawn is_right (s.width - right) right ∷ []

  behind-alike : (fronts : List Cell) (is_right : Bool) (right : ℕ)
      → AllDrawnAlike (fronts ++ edge_drawn is_right (s.width - right) right ∷ []) (fronts ++ edge is_right (s.width - right) right ∷ [])
  behind-alike [] is_right right = (edge-alike is_right (s.width - right) right, tt)
  behind-alike (f ∷ fronts) is_right right = (same-drawn f, behind-alike fronts is_right right)

  -- what is laid marks and draws the same
  pub laid-marked : (is_left is_right : Bool) (left right : ℕ) (fronts : List Cell)
      → AllMarkedAlike (laid_by is_left is_right left right fronts) (fronts_by is_left is_right left right fronts)
  laid-marked is_left is_right left right fronts =
      (edge-marked is_left 0 left, marked-behind fronts _ _ (edge-marked is_right (s.width - right) right, tt))

  pub laid-drawn : (is_left is_right : Bool) (left right : ℕ) (fronts cells : List Cell)
      → line_of 0 (with_fronts (laid_by is_left is_right left right fronts) cells)
      ≡ line_of 0 (with_fronts (fronts_by is_left is_right left right fronts) cells)
  laid-drawn is_left is_right left right fronts cells =
      line-alike (with_fronts (laid_by is_left is_right left right fronts) cells) (with_fronts (fronts_by is_left is_right left right fronts) cells)
      (alike-with (laid_by is_left is_right left right fronts) (fronts_by is_left is_right left right fronts) cells
      (edge-alike is_left 0 left, behind-alike fronts is_right right))

  pub fronts-are : (is_left is_right : Bool) (left right : ℕ) (fronts : List Cell) → is_left ≡ rules_edge line (over_at all 0)
      → is_right ≡ rules_edge line (over_at all (length s.columns - 1)) → left ≡ met 0 → right ≡ met (length s.columns) → fronts ≡ between
      → fronts_by is_left is_right left right fronts ≡ rule_fronts s line lefts above below
  fronts-are is_left is_right left right fronts left_ruled right_ruled left_met right_met fronts_is =
      ap (λ (fs : List Cell). fronts_by is_left is_right left right fs) fronts_is
      ∙ ap (λ (b : Bool). fronts_by b is_right left right between) left_ruled
      ∙ ap (λ (b : Bool). fronts_by (rules_edge line (over_at all 0)) b left right between) right_ruled
      ∙ ap (λ (n : ℕ). fronts_by (rules_edge line (over_at all 0)) (rules_edge line (over_at all (length s.columns - 1))) n right between) left_met
      ∙ ap (λ (n : ℕ). fronts_by (rules_edge line (over_at all 0)) (rules_edge line (over_at all (length s.columns - 1))) (met 0) n between) right_met

  abbrev shown_by : Bool → Bool → ℕ → ℕ → List Shown
  shown_by is_left is_right left right =
      all_shown line all 0 (if is_left then left else first_start left s.columns) (if is_right then s.width - right else last_end 0 s.columns) s.columns

  pub shown-is : (is_left is_right : Bool) (left right from to : ℕ) → is_left ≡ rules_edge line (over_at all 0)
      → is_right ≡ rules_edge line (over_at all (length s.columns - 1)) → left ≡ met 0 → right ≡ met (length s.columns)
      → from ≡ (if is_left then left else first_start left s.columns) → to ≡ (if is_right then s.width - right else last_end 0 s.columns)
      → all_shown line all 0 from to s.columns ≡ rule_shown s line lefts above below
  shown-is is_left is_right left right from to left_ruled right_ruled left_met right_met from_is to_is =
      ap (λ (n : ℕ). all_shown line all 0 n to s.columns) from_is
      ∙ ap (λ (n : ℕ). all_shown line all 0 (if is_left then left else first_start left s.columns) n s.columns) to_is
      ∙ ap (λ (b : Bool). shown_by b is_right left right) left_ruled
      ∙ ap (λ (b : Bool). shown_by (rules_edge line (over_at all 0)) b left right) right_ruled
      ∙ ap (λ (n : ℕ). shown_by (rules_edge line (over_at all 0)) (rules_edge line (over_at all (length s.columns - 1))) n right) left_met
      ∙ ap (λ (n : ℕ). shown_by (rules_edge line (over_at all 0)) (rules_edge line (over_at all (length s.columns - 1))) (met 0) n) right_met

  -- each cell has what stands in front of it, and so has the end of the line
  pub fronts-enough : (bytes : List ℕ) (now : KeptLine) (edge last : Cell) (from to : ℕ) (done : List Shown) (fronts : List Cell) (c : Column)
      (columns : List Column)
      → s.columns ≡ c ∷ columns → within_count (over_at all 0) ≡ 0
      → SoFar bytes now done ((edge ∷ fronts) ++ last ∷ []) → done ≡ all_shown line all 0 from to s.columns → fronts ≡ between
      → (0 < length now.cells) × (length now.fronts ≡ suc (length now.cells))
  fronts-enough bytes now edge last from to done fronts c columns some first so_far done_is fronts_is =
      let count = count-fronts s line all above below 0 from to c columns in
      let shown : length (all_shown line all 0 from to s.columns) ≡ suc (length between) =
      ap (λ (cs : List Column). length (all_shown line all 0 from to cs)) some
      ∙ omega (arith, count, first)
      ∙ ap (λ (cs : List Column). suc (length (fronts_between s line all above below 0 cs))) (sym some) in
      let cells : length now.cells ≡ suc (length between)
      = as-many bytes now.cells done so_far.cells ∙ ap (λ (cells : List Shown). length cells) done_is ∙ shown in (
        omega (arith, cells),
        omega (
          arith,
          cells,
          as-many-fronts bytes now done ((edge ∷ fronts) ++ last ∷ []) so_far,
          length-append (edge ∷ fronts) (last ∷ []),
          ap (λ (cells : List Cell). length cells) fronts_is,
        ),
      )

-- whether the line rules the edge beside a cell, as it is kept
pub edge-at : (bytes : List ℕ) (c : CellLeft) (lefts : List Left) (columns : List Column) (begin end at : ℕ) (is_whole : Bool) (line : RuleLine)
    → OverCell bytes c lefts columns begin end at → is_whole ≡ is_whole_line line
    → (is_whole && not (nat_lt 0 c.rows)) ≡ rules_edge line (over_at (overs 0 lefts columns) at)
edge-at bytes c lefts columns begin end at is_whole line met whole =
    ap (λ (b : Bool). b && not (nat_lt 0 c.rows)) whole
    ∙ ap (λ (n : ℕ). is_whole_line line && not (nat_lt 0 n)) met.left.rows
    ∙ sym (edge-ruled line (at - begin == 0) met.own _)
    ∙ ap (λ (o : Over). rules_edge line o) (sym met.over)

-- the first column is no further one
pub first-met : (bytes : List ℕ) (c : CellLeft) (lefts : List Left) (columns : List Column) (end : ℕ) → OverCell bytes c lefts columns 0 end 0
    → within_count (over_at (overs 0 lefts columns) 0) ≡ 0
first-met bytes c lefts columns end met =
    ap (λ (o : Over). within_count o) met.over ∙ first-count (0 - 0) met.own _ (omega arith)
