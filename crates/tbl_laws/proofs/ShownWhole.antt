-- Cells that fit their columns are shown whole: nothing of a line is cut on which such cells stand alone.
use Rattle.std.proofs.Common.{◌≡◌, ℕ, suc, ◌+◌, true, false, List, [], ◌∷◌, ◌++◌, map, Option, Some, None, refl, ap}
use Rattle.tbl_layout.specs.Columns.{bars_end}
use Rattle.tbl_layout.specs.Widths.{inner_bars}
use Rattle.tbl_layout.specs.declared.columns.Column.{Column}
use Rattle.tbl_layout.specs.declared.data_lines.RuleSign.{RuleSign}
use Rattle.tbl_options.specs.declared.options.Boxing.{Boxing}
use Rattle.tbl_lines.specs.CellsLeft.{Left}
use Rattle.tbl_lines.specs.LinesLeft.{Free, Over, Shown, Through, all_shown, end_by, if_drawn, in_order, joined_here, line_by, over_at, over_shown, row_shown, shown_cell}
use Rattle.tbl_laws.specs.PiecesApart.{CellsStand, OverFits, OversStand, pieces_of}
use Rattle.tbl_lines.specs.PictureLines.{Cell, RuleLine, Sheet, line_of, sign_over, with_fronts}
use Rattle.tbl_lines.proofs.CutLines.{NoneRunOn, all_cut-none}
use Rattle.tbl_laws.proofs.CellsFit.{shown-whole}

-- in a row
pub row-whole : (boxing : Boxing) (last width : ℕ) (cells : List Left) (columns : List Column) → CellsStand boxing last width cells columns
    → NoneRunOn (row_shown boxing cells columns)
row-whole boxing last width [] columns stand = tt
row-whole boxing last width (own ∷ cells) [] stand = tt
row-whole boxing last width (own ∷ []) (c ∷ columns) stand = (shown-whole own c (c.start + c.width) stand.0, tt)
row-whole boxing last width (own ∷ next ∷ cells) (c ∷ []) stand = (shown-whole own c (c.start + c.width) stand.0, tt)
row-whole boxing last width (own ∷ next ∷ cells) (c ∷ d ∷ columns) stand = (
  shown-whole own c (end_by (joined_here own next) (inner_bars boxing next.key.bars) c d) stand.0,
  row-whole boxing last width (next ∷ cells) (d ∷ columns) stand.2,
)

-- on a line of rules
none-append : (xs ys : List Shown) → NoneRunOn xs → NoneRunOn ys → NoneRunOn (xs ++ ys)
none-append [] ys none more = more
none-append (x ∷ xs) ys none more = (none.0, none-append xs ys none.1 more)

drawn-whole : (sign : Option RuleSign) (from to : ℕ) → NoneRunOn (if_drawn sign from to)
drawn-whole None from to = (refl, tt)
drawn-whole (Some sign) from to = (refl, tt)

over-whole : (line : RuleLine) (over : Over) (column from to : ℕ) (c : Column) → OverFits over c → NoneRunOn (over_shown line column over from to)
over-whole line Free column from to c fits = drawn-whole (sign_over line column) from to
over-whole line (Through true own one) column from to c fits = (shown-whole own one (one.start + one.width) fits.0, tt)
over-whole line (Through false own one) column from to c fits = tt

pub rule-whole : (line : RuleLine) (all : List Over) (column from to : ℕ) (columns : List Column) → OversStand all column columns
    → NoneRunOn (all_shown line all column from to columns)
rule-whole line all column from to [] stand = tt
rule-whole line all column from to (c ∷ []) stand = over-whole line (over_at all column) column from to c stand.0
rule-whole line all column from to (c ∷ d ∷ columns) stand =
    none-append (over_shown line column (over_at all column) from (c.start + c.width))
    (all_shown line all (suc column) (bars_end c d) to (d ∷ columns))
    (over-whole line (over_at all column) column from (c.start + c.width) c stand.0)
    (rule-whole line all (suc column) (bars_end c d) to (d ∷ columns) stand.2)

-- so the line is that of its pieces
pub line-whole : (s : Sheet) (fronts : List Cell) (cells : List Shown) → NoneRunOn cells → line_by s fronts cells ≡ line_of 0 (pieces_of fronts cells)
line-whole s fronts cells none =
    ap (λ (all : List Shown). line_of 0 (with_fronts fronts (map shown_cell (in_order [] all)))) (all_cut-none s fronts cells none)
