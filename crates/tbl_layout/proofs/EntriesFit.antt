-- The columns of a table that have their widths and their places have room for its entries.
use Rattle.std.proofs.Common.{◌≡◌, ℕ, zero, suc, ◌+◌, ◌<◌, ◌≤◌, Bool, List, [], ◌∷◌, length, take, drop, get_or, map, sym, ap, subst, ◌∙◌, arith, length-drop, length-take}
use Rattle.std.proofs.lemmas.List.{drop-map, length-map, take-map}
use Rattle.tbl_format.specs.declared.format.Asked.{Asked}
use Rattle.tbl_layout.specs.Columns.{Holds, columns_from, entries_of, gaps, gaps_from, laid_by, total, width_of, with_widths}
use Rattle.tbl_layout.specs.Entries.{Element}
use Rattle.tbl_layout.specs.EntriesFit.{EachHolds, EntriesFit, FitAsOne}
use Rattle.tbl_layout.specs.LayoutLaws.{AreApart, AreInOrder, last_end}
use Rattle.tbl_layout.specs.SpanLaws.{AreNoNarrower, HaveSpace}
use Rattle.tbl_layout.specs.Spans.{Wide, all_wide, as_one, columns_laid, filled}
use Rattle.tbl_layout.specs.Widths.{separation}
use Rattle.tbl_layout.specs.declared.bars.Bars.{Bars}
use Rattle.tbl_layout.specs.declared.columns.Column.{Column}
use Rattle.tbl_layout.specs.declared.columns.Stands.{Stands}
use Rattle.tbl_layout.proofs.LayoutLaws.{in_order}
use Rattle.tbl_layout.proofs.LeastWidths.{least_widths}
use Rattle.tbl_layout.proofs.PlacesBetween.{bars-laid}
use Rattle.tbl_layout.proofs.SpanLaws.{holds-all}

-- a wider column has room, too
holds-wider : (asks : Asked) (entries : List Stands) (least width : ℕ) → Holds asks entries least → least ≤ width → Holds asks entries width
holds-wider asks entries least width h wider = record {
  asked = omega (arith, h.asked, wider);
  alone = λ columns is. omega (arith, h.alone columns is, wider);
  strip = λ columns is. omega (arith, h.strip columns is, wider);
  sides = λ left right left_other right_other is other. omega (arith, h.sides left right left_other right_other is other, wider);
}

each-holds : (elements : List Element) (column : ℕ) (asked : List Asked) (columns : List Column)
    → AreNoNarrower (with_widths asked (columns_from elements column asked)) columns → EachHolds elements column asked columns
each-holds elements column [] columns le = tt
each-holds elements column (a ∷ asked) [] le = absurd le
each-holds elements column (a ∷ asked) (c ∷ columns) le =
    let entries = entries_of column elements in (
      holds-wider a entries (width_of a entries) c.width (least_widths a entries).holds le.0,
      each-holds elements (suc column) asked columns le.1,
    )

-- it is enough that columns are as wide
abbrev widths : List Column → List ℕ
widths columns = map (λ (c : Column). c.width) columns

abbrev others : List ℕ → List ℕ
others [] = []
others (n ∷ ns) = ns

holds-same : (elements : List Element) (column : ℕ) (asked : List Asked) (xs ys : List Column) → widths ys ≡ widths xs
    → EachHolds elements column asked xs → EachHolds elements column asked ys
holds-same elements column [] xs ys same holds = tt
holds-same elements column (a ∷ asked) [] ys same holds = absurd holds
holds-same elements column (a ∷ asked) (x ∷ xs) [] same holds = absurd (omega (arith, ap length same))
holds-same elements column (a ∷ asked) (x ∷ xs) (y ∷ ys) same holds =
    let first : x.width ≡ y.width = sym (ap (λ (ns : List ℕ). get_or ns 0 0) same) in
    let rest : widths ys ≡ widths xs = ap others same in
    (subst (λ (n : ℕ). Holds a (entries_of column elements) n) first holds.0, holds-same elements (suc column) asked xs ys rest holds.1)

-- columns that are apart go as far as their widths and the separations between
far : (bars : Bars) (gap place : ℕ) (a : Asked) (asked : List Asked) (c : Column) (columns : List Column) → length columns ≡ length asked
    → AreApart bars (a ∷ asked) (c ∷ columns)
    → c.start + (total (widths (c ∷ columns)) + total (gaps_from bars gap (a ∷ asked))) ≤ gap + last_end place (c ∷ columns)
far bars gap place a [] c [] same apart = omega arith
far bars gap place a [] c (d ∷ columns) same apart = absurd (omega (arith, same))
far bars gap place a (b ∷ asked) c [] same apart = absurd (omega (arith, same))
far bars gap place a (b ∷ asked) c (d ∷ columns) same apart =
    omega (arith, apart.0, far bars (separation bars a) (c.start + c.width) b asked d columns (omega (arith, same)) apart.1)

as-one-room : (bars : Bars) (asked : List Asked) (columns : List Column) → length columns ≡ length asked → AreApart bars asked columns
    → 0 < length columns → total (widths columns) + total (gaps bars asked) ≤ (as_one columns).width
as-one-room bars asked [] same apart some = absurd (omega (arith, some))
as-one-room bars [] (c ∷ columns) same apart some = absurd (omega (arith, same))
as-one-room bars (a ∷ []) (c ∷ []) same apart some = omega arith
as-one-room bars (a ∷ b ∷ asked) (c ∷ []) same apart some = absurd (omega (arith, same))
as-one-room bars (a ∷ []) (c ∷ d ∷ columns) same apart some = absurd (omega (arith, same))
as-one-room bars (a ∷ b ∷ asked) (c ∷ d ∷ columns) same apart some =
    omega (arith, far bars 0 0 a (b ∷ asked) c (d ∷ columns) (omega (arith, same)) apart)

-- some of them are, too
apart-none : (bars : Bars) (asked : List Asked) → AreApart bars asked []
apart-none bars [] = tt
apart-none bars (a ∷ asked) = tt

apart-empty : (bars : Bars) (n : ℕ) (asked : List Asked) → AreApart bars (drop n asked) (drop n [])
apart-empty bars zero asked = apart-none bars asked
apart-empty bars (suc n) asked = apart-none bars (drop (suc n) asked)

apart-drop : (bars : Bars) (n : ℕ) (asked : List Asked) (columns : List Column) → AreApart bars asked columns
    → AreApart bars (drop n asked) (drop n columns)
apart-drop bars zero asked columns apart = apart
apart-drop bars (suc n) [] columns apart = tt
apart-drop bars (suc n) (a ∷ asked) [] apart = apart-none bars (drop n asked)
apart-drop bars (suc n) (a ∷ asked) (c ∷ []) apart = apart-empty bars n asked
apart-drop bars (suc n) (a ∷ asked) (c ∷ d ∷ columns) apart = apart-drop bars n asked (d ∷ columns) apart.1

apart-take : (bars : Bars) (n : ℕ) (asked : List Asked) (columns : List Column) → AreApart bars asked columns
    → AreApart bars (take n asked) (take n columns)
apart-take bars zero asked columns apart = tt
apart-take bars (suc n) [] columns apart = tt
apart-take bars (suc n) (a ∷ asked) [] apart = tt
apart-take bars (suc zero) (a ∷ asked) (c ∷ []) apart = tt
apart-take bars (suc (suc n)) (a ∷ asked) (c ∷ []) apart = tt
apart-take bars (suc zero) (a ∷ asked) (c ∷ d ∷ columns) apart = tt
apart-take bars (suc (suc n)) (a ∷ asked) (c ∷ d ∷ columns) apart = (apart.0, apart-take bars (suc n) asked (d ∷ columns) apart.1)

-- an entry that has room in its columns fits them as one, where they have their places
own-widths : (from count : ℕ) (xs ys : List Column) → widths ys ≡ widths xs → widths (take count (drop from ys)) ≡ widths (take count (drop from xs))
own-widths from count xs ys same =
    let w : Column → ℕ = λ c. c.width in
    sym (take-map w count (drop from ys))
    ∙ ap (take count) (sym (drop-map w from ys) ∙ ap (drop from) same ∙ drop-map w from xs)
    ∙ take-map w count (drop from xs)

fit-as-one : (bars : Bars) (asked : List Asked) (entries : List Wide) (xs ys : List Column) → widths ys ≡ widths xs → length ys ≡ length asked
    → AreApart bars asked ys → HaveSpace bars asked entries xs → FitAsOne entries ys
fit-as-one bars asked entries xs ys same many apart space = record {
  each = λ w is some lies.
      let own = take w.count (drop w.from ys) in
      let asks = take w.count (drop w.from asked) in
      let wide : length ys ≡ length xs =
      omega (arith, ap length same, length-map ys (λ (c : Column). c.width), length-map xs (λ (c : Column). c.width)) in
      let count : length own ≡ w.count = omega (arith, lies, length-take w.count (drop w.from ys), length-drop w.from ys) in
      let also : length asks ≡ w.count = omega (arith, lies, many, length-take w.count (drop w.from asked), length-drop w.from asked) in
      let room = as-one-room bars asks own (omega (arith, count, also))
      (apart-take bars w.count (drop w.from asked) (drop w.from ys) (apart-drop bars w.from asked ys apart)) (omega (arith, count, some)) in
      omega (arith, room, ap total (own-widths w.from w.count xs ys same), space.each w is some (omega (arith, lies, wide)));
}

-- laid columns are as many as the columns of the format, and stand in order
module _ (bars : Bars) (line_length : ℕ) (asked : List Asked) (elements : List Element) where
  pub laid-many : length (columns_laid bars line_length asked elements) ≡ length asked
  laid-many =
      let columns = columns_laid bars line_length asked elements in
      omega (
        arith,
        ap length (bars-laid bars line_length asked elements),
        length-map columns (λ (c : Column). c.bars),
        length-map asked (λ (a : Asked). a.bars),
      )

  module _ (is_expanded : Bool) where
    abbrev columns_at : List Column
    columns_at = (laid_by bars is_expanded line_length asked (columns_laid bars line_length asked elements)).columns

    pub laid-order : AreInOrder bars asked (columns_laid bars line_length asked elements)
        (laid_by bars is_expanded line_length asked (columns_laid bars line_length asked elements))
    laid-order = in_order bars is_expanded line_length asked (columns_laid bars line_length asked elements) laid-many

    pub placed-many : length columns_at ≡ length asked
    placed-many =
        let columns = columns_laid bars line_length asked elements in
        omega (
          arith,
          laid-many,
          ap length laid-order.widths,
          length-map columns_at (λ (c : Column). c.width),
          length-map columns (λ (c : Column). c.width),
        )

pub entries-fit : (bars : Bars) (is_expanded : Bool) (line_length : ℕ) (asked : List Asked) (elements : List Element)
    → EntriesFit bars is_expanded line_length asked elements
entries-fit bars is_expanded line_length asked elements =
    let all = filled bars line_length asked elements in
    let columns = columns_laid bars line_length asked elements in
    let placed = (laid_by bars is_expanded line_length asked columns).columns in
    let order = laid-order bars line_length asked elements is_expanded in
    let holds = holds-all bars line_length asked elements in
    record {
      own = holds-same all 0 asked columns placed order.widths (each-holds all 0 asked columns holds.own);
      wide = fit-as-one bars asked (all_wide all) columns placed order.widths (placed-many bars line_length asked elements is_expanded) order.apart
          holds.wide;
    }
