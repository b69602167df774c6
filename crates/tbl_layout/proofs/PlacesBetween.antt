-- The columns of a table that is laid out stand in order, with places between them for the bars that they have behind them.
use Rattle.std.proofs.Common.{◌≡◌, ℕ, zero, suc, ◌+◌, ◌≤◌, Bool, true, false, List, [], ◌∷◌, drop, get_or, length, map, refl, ap, ◌∙◌, arith, if◌then◌else◌}
use Rattle.std.proofs.lemmas.List.{length-map}
use Rattle.tbl_format.specs.declared.format.Asked.{Asked}
use Rattle.tbl_layout.specs.Columns.{columns_from, equal_widths, gaps, greatest, lacking, laid_by, placed, placed_with, spread, total, width_of_all, with_equal, with_widths}
use Rattle.tbl_layout.specs.Entries.{Element}
use Rattle.tbl_layout.specs.LayoutLaws.{AreApart, AreBehind, StandInOrder, first_start, last_behind, last_end}
use Rattle.tbl_layout.specs.Spans.{all_fitted, all_wide, columns_laid, filled}
use Rattle.tbl_layout.specs.Widths.{edge_bars, edge_width, inner_bars, last_bars, least_separation, left_edge}
use Rattle.tbl_layout.specs.declared.bars.Bars.{Bars}
use Rattle.tbl_layout.specs.declared.columns.Column.{Column}
use Rattle.tbl_layout.proofs.LayoutLaws.{in_order}
use Rattle.tbl_layout.proofs.Spreading.{map-all_fitted}

-- the most bars behind each of some columns, and what is asked of them
abbrev pub bars_of_columns : List Column → List ℕ
bars_of_columns columns = map (λ (c : Column). c.bars) columns

abbrev pub bars_of_asked : List Asked → List ℕ
bars_of_asked asked = map (λ (a : Asked). a.bars) asked

-- they stay where columns get their widths and their places
bars-from : (elements : List Element) (column : ℕ) (asked : List Asked) → bars_of_columns (columns_from elements column asked) ≡ bars_of_asked asked
bars-from elements column [] = refl
bars-from elements column (a ∷ asked) = ap (λ (ns : List ℕ). a.bars ∷ ns) (bars-from elements (suc column) asked)

bars-widths : (asked : List Asked) (columns : List Column) → bars_of_columns (with_widths asked columns) ≡ bars_of_columns columns
bars-widths [] columns = refl
bars-widths (a ∷ asked) [] = refl
bars-widths (a ∷ asked) (c ∷ columns) = ap (λ (ns : List ℕ). c.bars ∷ ns) (bars-widths asked columns)

bars-made : (t : Bool) (width : ℕ) (c : Column) → (if t then record c { width = width } else c).bars ≡ c.bars
bars-made true width c = refl
bars-made false width c = refl

bars-equal : (width : ℕ) (asked : List Asked) (columns : List Column) → bars_of_columns (with_equal width asked columns) ≡ bars_of_columns columns
bars-equal width [] columns = refl
bars-equal width (a ∷ asked) [] = refl
bars-equal width (a ∷ asked) (c ∷ columns) =
    ap (λ (n : ℕ). n ∷ bars_of_columns (with_equal width asked columns)) (bars-made a.is_equal width c)
    ∙ ap (λ (ns : List ℕ). c.bars ∷ ns) (bars-equal width asked columns)

bars-placed : (place : ℕ) (spaces : List ℕ) (columns : List Column) → bars_of_columns (placed place spaces columns) ≡ bars_of_columns columns
bars-placed place [] columns = refl
bars-placed place (gap ∷ spaces) [] = refl
bars-placed place (gap ∷ spaces) (c ∷ columns) = ap (λ (ns : List ℕ). c.bars ∷ ns) (bars-placed (place + gap + c.width) spaces columns)

pub bars-laid : (bars : Bars) (line_length : ℕ) (asked : List Asked) (elements : List Element)
    → bars_of_columns (columns_laid bars line_length asked elements) ≡ bars_of_asked asked
bars-laid bars line_length asked elements =
    let all = filled bars line_length asked elements in
    let from = columns_from all 0 asked in
    let alone = with_widths asked from in
    let wide = all_fitted bars asked (all_wide all) alone in
    bars-equal (greatest (equal_widths asked wide)) asked wide
    ∙ map-all_fitted bars asked (λ (c : Column). c.bars) (λ c width. refl) (all_wide all) alone
    ∙ bars-widths asked from
    ∙ bars-from all 0 asked

pub bars-placed_with : (bars : Bars) (more : ℕ) (asked : List Asked) (columns : List Column)
    → bars_of_columns (placed_with bars more asked columns) ≡ bars_of_columns columns
bars-placed_with bars more asked columns =
    let spaces = gaps bars asked in bars-placed (left_edge bars) (spread more (total spaces) 0 spaces) columns

-- a separation has a place for each of its bars, and so has an edge
separation-enough : (n : ℕ) → n ≤ least_separation n
separation-enough zero = omega arith
separation-enough (suc n) = omega arith

edge-enough : (n : ℕ) → n ≤ edge_width n
edge-enough zero = omega arith
edge-enough (suc n) = omega arith

-- columns that are apart have these places between them
behind-apart : (bars : Bars) (asked : List Asked) (columns : List Column) → bars_of_columns columns ≡ bars_of_asked asked
    → AreApart bars asked columns → AreBehind bars.boxing columns
behind-apart bars asked [] same apart = tt
behind-apart bars asked (c ∷ []) same apart = tt
behind-apart bars [] (c ∷ d ∷ columns) same apart = absurd (omega (arith, ap length same))
behind-apart bars (a ∷ asked) (c ∷ d ∷ columns) same apart =
    let first : c.bars ≡ a.bars = ap (λ (ns : List ℕ). get_or ns 0 0) same in (
      omega (arith, apart.0, ap (inner_bars bars.boxing) first, separation-enough (inner_bars bars.boxing a.bars)),
      behind-apart bars asked (d ∷ columns) (ap (λ (ns : List ℕ). drop 1 ns) same) apart.1,
    )

-- where the last of some columns ends
last-far : (place : ℕ) (columns : List Column) → last_end 0 columns ≤ last_end place columns
last-far place [] = omega arith
last-far place (c ∷ columns) = omega arith

last-bars : (asked : List Asked) (columns : List Column) → bars_of_columns columns ≡ bars_of_asked asked → last_behind columns ≡ last_bars asked
last-bars [] [] same = refl
last-bars [] (c ∷ columns) same = absurd (omega (arith, ap length same))
last-bars (a ∷ asked) [] same = absurd (omega (arith, ap length same))
last-bars (a ∷ []) (c ∷ []) same = ap (λ (ns : List ℕ). get_or ns 0 0) same
last-bars (a ∷ []) (c ∷ d ∷ columns) same = absurd (omega (arith, ap length same))
last-bars (a ∷ b ∷ asked) (c ∷ []) same = absurd (omega (arith, ap length same))
last-bars (a ∷ b ∷ asked) (c ∷ d ∷ columns) same = last-bars (b ∷ asked) (d ∷ columns) (ap (λ (ns : List ℕ). drop 1 ns) same)

-- the first one begins behind the left edge
first-behind : (bars : Bars) (columns : List Column) → first_start (left_edge bars) columns ≡ left_edge bars
    → edge_bars bars.boxing bars.front ≤ first_start (edge_bars bars.boxing bars.front) columns
first-behind bars [] first = omega arith
first-behind bars (c ∷ columns) first = omega (arith, first, edge-enough (edge_bars bars.boxing bars.front))

-- columns that have their places
pub places-between : (bars : Bars) (is_expanded : Bool) (line_length : ℕ) (asked : List Asked) (columns : List Column)
    → bars_of_columns columns ≡ bars_of_asked asked
    → (let laid = laid_by bars is_expanded line_length asked columns in StandInOrder bars laid.width laid.columns)
places-between bars is_expanded line_length asked columns same =
    let many : length columns ≡ length asked =
    omega (arith, ap length same, length-map columns (λ (c : Column). c.bars), length-map asked (λ (a : Asked). a.bars)) in
    let order = in_order bars is_expanded line_length asked columns many in
    let laid = laid_by bars is_expanded line_length asked columns in
    let kept : bars_of_columns laid.columns ≡ bars_of_asked asked =
    bars-placed_with bars (lacking is_expanded line_length (width_of_all bars columns asked) (total (gaps bars asked))) asked columns ∙ same in
    record {
      left = first-behind bars laid.columns order.first;
      between = behind-apart bars asked laid.columns kept order.apart;
      right = omega (
        arith,
        order.last,
        last-far (left_edge bars) laid.columns,
        ap (edge_bars bars.boxing) (last-bars asked laid.columns kept),
        edge-enough (edge_bars bars.boxing (last_bars asked)),
      );
    }
