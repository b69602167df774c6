-- A line of rules through which no cell goes is the plain one, where there are places for the bars of the rows beside it.
use Rattle.std.proofs.Common.{◌≡◌, ℕ, suc, ◌+◌, ◌-◌, ◌<◌, ◌≤◌, List, [], ◌∷◌, ◌++◌, codes, length, map, Option, None, Some, refl, ap, ◌∙◌, arith, if◌then◌else◌}
use Rattle.std.proofs.lemmas.List.{length-replicate}
use Rattle.input_source.specs.Bytes.{newline}
use Rattle.tbl_layout.specs.Columns.{bars_end}
use Rattle.tbl_layout.specs.Entries.{up_to_last_glyph}
use Rattle.tbl_layout.specs.LayoutLaws.{StandInOrder, first_start, last_end}
use Rattle.tbl_layout.specs.Widths.{edge_bars, inner_bars}
use Rattle.tbl_layout.specs.declared.columns.Column.{Column}
use Rattle.tbl_layout.specs.declared.data_lines.RuleSign.{RuleSign}
use Rattle.tbl_lines.specs.CellsLeft.{Left}
use Rattle.tbl_lines.specs.LinesLeft.{Beside, Free, Over, Shown, all_shown, bars_met, edge, fronts_between, in_order, line_by, over_at, overs, rule_line_left, rules_edge, shown_cell}
use Rattle.tbl_lines.specs.PictureLines.{Cell, Mark, Neighbour, OfKeys, RuleLine, Sheet, Whole, drawn, edge_byte, edge_mark, line_of, met_at_edge, met_behind, parts_from, rule_from, rule_line, rule_to, sign_over, with_fronts, written}
use Rattle.tbl_lines.specs.RulePlaces.{AreMet, IsLinePlaced, IsPlaced, bars_behind}
use Rattle.tbl_lines.specs.RulesAlone.{NoneGoOn, ShownAlike}
use Rattle.tbl_lines.proofs.CutLines.{NoneRunOn, all_cut-none}
use Rattle.tbl_lines.proofs.PlainRows.{AreNew, same-order}
use Rattle.tbl_lines.proofs.RulesDrawn.{written-drawn}
use Rattle.tbl_lines.proofs.RulesFree.{free-columns, met-inner, met-left, met-right}
use Rattle.tbl_lines.proofs.RulesMet.{are-met, few-behind, few-left, few-right}
use Rattle.tbl_lines.proofs.RulesOrdered.{parts-ordered}
use Rattle.tbl_lines.proofs.RulesShown.{all-show, cells_free, edge-shows, fronts-are, fronts_free, over_column, shown-are, shown_free}

-- where a line begins and ends
from-is : (line : RuleLine) (left : ℕ) (columns : List Column)
    → (if rules_edge line Free then left else first_start left columns) ≡ rule_from line left columns
from-is (Whole sign) left columns = refl
from-is (OfKeys format) left columns = refl

to-is : (line : RuleLine) (right : ℕ) (columns : List Column)
    → (if rules_edge line Free then right else last_end 0 columns) ≡ rule_to line right columns
to-is (Whole sign) right columns = refl
to-is (OfKeys format) right columns = refl

from-behind : (line : RuleLine) (left : ℕ) (c : Column) (columns : List Column) → left ≤ c.start → left ≤ rule_from line left (c ∷ columns)
from-behind (Whole sign) left c columns within = omega arith
from-behind (OfKeys format) left c columns within = within

from-before : (line : RuleLine) (left : ℕ) (c : Column) (columns : List Column) → left ≤ c.start → rule_from line left (c ∷ columns) ≤ c.start
from-before (Whole sign) left c columns within = within
from-before (OfKeys format) left c columns within = omega arith

to-behind : (line : RuleLine) (right : ℕ) (columns : List Column) → last_end 0 columns ≤ right → last_end 0 columns ≤ rule_to line right columns
to-behind (Whole sign) right columns within = within
to-behind (OfKeys format) right columns within = omega arith

to-before : (line : RuleLine) (right : ℕ) (columns : List Column) → last_end 0 columns ≤ right → rule_to line right columns ≤ right
to-before (Whole sign) right columns within = omega arith
to-before (OfKeys format) right columns within = within

first-far : (columns : List Column) (left edge : ℕ) → left ≤ edge → edge ≤ first_start edge columns → left ≤ first_start left columns
first-far [] left edge within first = omega arith
first-far (c ∷ columns) left edge within first = omega (arith, within, first)

-- what stands over columns has come over no row
new-column : (sign : Option RuleSign) (from to : ℕ) → (over_column sign from to).rows ≡ 0
new-column None from to = refl
new-column (Some sign) from to = refl

-- and doesn't run on
none-column : (sign : Option RuleSign) (from to : ℕ) → (over_column sign from to).runs_on ≡ None
none-column None from to = refl
none-column (Some sign) from to = refl

module _ (s : Sheet) (line : RuleLine) (over under : Neighbour) where
  new-free : (column from to : ℕ) (columns : List Column) → AreNew (shown_free s line over under column from to columns)
  new-free column from to [] = tt
  new-free column from to (c ∷ []) = (new-column (sign_over line column) from to, tt)
  new-free column from to (c ∷ d ∷ columns) =
      (new-column (sign_over line column) from (c.start + c.width), new-free (suc column) (bars_end c d) to (d ∷ columns))

  none-free : (column from to : ℕ) (columns : List Column) → NoneRunOn (shown_free s line over under column from to columns)
  none-free column from to [] = tt
  none-free column from to (c ∷ []) = (none-column (sign_over line column) from to, tt)
  none-free column from to (c ∷ d ∷ columns) =
      (none-column (sign_over line column) from (c.start + c.width), none-free (suc column) (bars_end c d) to (d ∷ columns))

  module _ (left right : ℕ) where
    abbrev first : Cell
    first = edge (rules_edge line Free) 0 left

    abbrev last : Cell
    last = edge (rules_edge line Free) (s.width - right) right

    abbrev to : List Column → ℕ
    to columns = rule_to line (s.width - right) columns

    abbrev from : List Column → ℕ
    from columns = rule_from line left columns

    abbrev cells : List Column → List Cell
    cells columns = cells_free s line over under first last 0 (from columns) (to columns) columns

    abbrev marks : List Column → List Mark
    marks columns =
        edge_mark line 0 left ∷ parts_from s.bars line over under 0 (from columns) (to columns) columns ++ edge_mark line (s.width - right) right ∷ []

    free-drawn : (columns : List Column) → 0 < length columns → left ≤ first_start left columns → last_end 0 columns ≤ s.width - right
        → AreMet (met_behind s.bars line over under) (to columns) 0 columns
        → up_to_last_glyph (written 0 0 (cells columns)) ≡ drawn 0 (marks columns)
    free-drawn [] some begins ends are = absurd (omega (arith, some))
    free-drawn (c ∷ columns) some begins ends are =
        let end = edge_mark line (s.width - right) right in
        let all = c ∷ columns in
        written-drawn (cells all) (marks all) 0
        (all-show s line over under first last (edge_mark line 0 left) end 0 (from all) (to all) c columns (edge-shows line 0 left)
        (edge-shows line (s.width - right) right)) (
          omega arith,
          parts-ordered s.bars line over under (to all) end (to-before line (s.width - right) all ends) 0 (from all)
              ((edge_mark line 0 left).at + length (edge_mark line 0 left).bytes) c columns
              (omega (arith, length-replicate left (edge_byte line), from-behind line left c columns begins))
              (from-before line left c columns begins) are,
        )

module _ (s : Sheet) (line : RuleLine) (cells : List Left) (above below : Beside) (over under : Neighbour) (none : NoneGoOn cells)
    (some : 0 < length s.columns) (up : ShownAlike s.bars.boxing (length s.columns) above over)
    (down : ShownAlike s.bars.boxing (length s.columns) below under) (order : StandInOrder s.bars s.width s.columns)
    (own : IsLinePlaced s.bars.front s.columns line) (placed : IsPlaced s.bars.front s.columns over)
    (others : IsPlaced s.bars.front s.columns under) where
  abbrev count : ℕ
  count = length s.columns

  abbrev all : List Over
  all = overs 0 cells s.columns

  free : (column : ℕ) → over_at all column ≡ Free
  free = free-columns cells s.columns none

  abbrev left : ℕ
  left = met_at_edge s.bars line over under 0

  abbrev right : ℕ
  right = met_at_edge s.bars line over under count

  abbrev fronts : List Cell
  fronts = fronts_free s line over under 0 s.columns

  -- the line by what goes through its first column and its last one, its bars at the edges, and what stands between columns
  abbrev drawn-by : Over → Over → ℕ → ℕ → List Cell → List ℕ
  drawn-by o p left right fronts =
      let from = if rules_edge line o then left else first_start left s.columns in
      let to = if rules_edge line p then s.width - right else last_end 0 s.columns in
      line_by s (edge (rules_edge line o) 0 left ∷ fronts ++ edge (rules_edge line p) (s.width - right) right ∷ [])
      (all_shown line all 0 from to s.columns)

  all-free : rule_line_left s line cells above below ≡ drawn-by Free Free left right fronts
  all-free =
      let l = bars_met s.bars count line all above below 0 in
      let r = bars_met s.bars count line all above below count in
      let between = fronts_between s line all above below 0 s.columns in
      let inner = met-inner count line all free s.bars above below over under up down in
      ap (λ (o : Over). drawn-by o (over_at all (count - 1)) l r between) (free 0)
      ∙ ap (λ (o : Over). drawn-by Free o l r between) (free (count - 1))
      ∙ ap (λ (n : ℕ). drawn-by Free Free n r between) (met-left count line all free s.bars above below over under up down)
      ∙ ap (λ (n : ℕ). drawn-by Free Free left n between) (met-right count line all free s.bars above below over under up down)
      ∙ ap (drawn-by Free Free left right) (fronts-are s line over under all free above below inner 0 s.columns (omega arith))

  few : (i : ℕ) → met_behind s.bars line over under (0 + i) ≤ inner_bars s.bars.boxing (bars_behind s.columns i)
  few i =
      let same : 0 + i ≡ i = omega arith in
      omega (arith, few-behind s.bars s.columns line over under own placed others i, ap (met_behind s.bars line over under) same)

  room : (before : ℕ) → count ≡ suc before → last_end 0 s.columns ≤ s.width - right
  room before is = omega (arith, order.right, few-right s.bars s.columns line over under own placed others before is)

  pub rule-alone : rule_line_left s line cells above below ≡ rule_line s line over under
  rule-alone =
      let first = edge (rules_edge line Free) 0 left in
      let last = edge (rules_edge line Free) (s.width - right) right in
      let from = rule_from line left s.columns in
      let to = rule_to line (s.width - right) s.columns in
      let shown = shown_free s line over under 0 from to s.columns in
      let bars = first ∷ fronts ++ last ∷ [] in
      let ends : last_end 0 s.columns ≤ s.width - right = room (count - 1) (omega (arith, some)) in
      let begins = first-far s.columns left (edge_bars s.bars.boxing s.bars.front) (few-left s.bars s.columns line over under own placed others)
      order.left in
      let are = are-met (met_behind s.bars line over under) to 0 s.bars.boxing 0 s.columns order.between few
      (to-behind line (s.width - right) s.columns ends) in
      all-free
      ∙ ap (λ (n : ℕ). line_by s bars (all_shown line all 0 n (if rules_edge line Free then s.width - right else last_end 0 s.columns) s.columns))
      (from-is line left s.columns)
      ∙ ap (λ (n : ℕ). line_by s bars (all_shown line all 0 from n s.columns)) (to-is line (s.width - right) s.columns)
      ∙ ap (λ (cells : List Shown). line_by s bars cells) (shown-are s line over under all free 0 from to s.columns)
      ∙ ap (λ (cells : List Shown). line_of 0 (with_fronts bars (map shown_cell (in_order [] cells))))
      (all_cut-none s bars shown (none-free s line over under 0 from to s.columns))
      ∙ ap (λ (cells : List Shown). line_of 0 (with_fronts bars (map shown_cell cells)))
      (same-order shown (new-free s line over under 0 from to s.columns))
      ∙ ap (λ (bytes : List ℕ). codes "\\&" ++ (bytes ++ newline ∷ [])) (free-drawn s line over under left right s.columns some begins ends are)
