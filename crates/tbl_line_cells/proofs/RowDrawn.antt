-- A line of a row, as its cells and what stands in front of them make it.
use Rattle.std.proofs.Common.{◌≡◌, ℕ, ◌-◌, ◌<◌, List, [], ◌∷◌, ◌++◌, length, map, get_or, sym, ap, ◌∙◌, arith}
use Rattle.tbl_format.specs.declared.format.FormatKey.{FormatKey}
use Rattle.tbl_layout.specs.Spans.{cells_of}
use Rattle.tbl_layout.specs.Widths.{edge_bars}
use Rattle.tbl_layout.specs.declared.bars.Bars.{Bars}
use Rattle.tbl_layout.specs.declared.columns.Column.{Column}
use Rattle.tbl_lines.specs.CellsLeft.{Left}
use Rattle.tbl_lines.specs.LinesLeft.{bars_there, between, first_bars, row_fronts, row_shown}
use Rattle.tbl_lines.specs.PictureLines.{Cell}
use Rattle.tbl_options.specs.declared.options.Boxing.{Boxing}
use Rattle.tbl_line_cells.specs.KeptCells.{AllLeft}
use Rattle.tbl_line_cells.specs.LinesDrawn.{if_any, keys_in}
use Rattle.tbl_line_cells.specs.declared.cells.CellLeft.{CellLeft}
use Rattle.tbl_line_cells.proofs.RowLaid.{keys-left}

-- the bars in front of the first cell
first-in-front : (bytes : List ℕ) (cells : List CellLeft) (lefts : List Left) (x : CellLeft) → AllLeft bytes cells lefts → 0 < length cells
    → (get_or cells 0 x).key.bars ≡ first_bars lefts
first-in-front bytes [] lefts x all some = absurd (omega (arith, some))
first-in-front bytes (c ∷ cells) [] x all some = absurd all
first-in-front bytes (c ∷ cells) (l ∷ lefts) x all some = ap (λ (k : FormatKey). k.bars) all.0.key

module _ (bytes : List ℕ) (bars : Bars) (columns : List Column) (boxing : Boxing) (cells : List CellLeft) (lefts : List Left) where
  abbrev of_keys : List FormatKey → List Column
  of_keys keys = cells_of keys columns

  pub row-shown-is : bars.boxing ≡ boxing → AllLeft bytes cells lefts
      → row_shown boxing lefts (of_keys (keys_in cells)) ≡ row_shown bars.boxing lefts (of_keys (map (λ (l : Left). l.key) lefts))
  row-shown-is boxing_is all =
      ap (λ (b : Boxing). row_shown b lefts (of_keys (keys_in cells))) (sym boxing_is)
      ∙ ap (λ (ks : List FormatKey). row_shown bars.boxing lefts (of_keys ks)) (sym (keys-left bytes cells lefts all))

module _ (bytes : List ℕ) (bars : Bars) (width : ℕ) (columns : List Column) (boxing : Boxing) (cells : List CellLeft) (lefts : List Left)
    (last_bars left right : ℕ) (x : CellLeft) where
  abbrev fronts_by : Boxing → ℕ → ℕ → List Column → List Cell
  fronts_by b left right all = if_any bars (bars_there 0 left ∷ between b lefts all ++ bars_there (width - right) right ∷ [])

  pub row-fronts-are : bars.boxing ≡ boxing → AllLeft bytes cells lefts → 0 < length cells → left ≡ edge_bars boxing (get_or cells 0 x).key.bars
      → right ≡ edge_bars boxing last_bars
      → fronts_by boxing left right (cells_of (keys_in cells) columns)
      ≡ row_fronts (record { bars = bars; width = width; columns = columns }) last_bars lefts
      (cells_of (map (λ (l : Left). l.key) lefts) columns)
  row-fronts-are boxing_is all some left_is right_is =
      let own = cells_of (keys_in cells) columns in
      let front : left ≡ edge_bars bars.boxing (first_bars lefts)
      = left_is
      ∙ ap (edge_bars boxing) (first-in-front bytes cells lefts x all some)
      ∙ ap (λ (b : Boxing). edge_bars b (first_bars lefts)) (sym boxing_is) in
      let behind : right ≡ edge_bars bars.boxing last_bars = right_is ∙ ap (λ (b : Boxing). edge_bars b last_bars) (sym boxing_is) in
      ap (λ (b : Boxing). fronts_by b left right own) (sym boxing_is)
      ∙ ap (λ (n : ℕ). fronts_by bars.boxing n right own) front
      ∙ ap (λ (n : ℕ). fronts_by bars.boxing (edge_bars bars.boxing (first_bars lefts)) n own) behind
      ∙ ap (λ (ks : List FormatKey). fronts_by bars.boxing (edge_bars bars.boxing (first_bars lefts)) (edge_bars bars.boxing last_bars)
      (cells_of ks columns)) (sym (keys-left bytes cells lefts all))
