-- Cells that cover the columns of a laid table, and fit them, stand in order on lines of rows and of rules.
use Rattle.std.proofs.Common.{◌≡◌, ℕ, zero, suc, ◌+◌, ◌-◌, ◌<◌, ◌≤◌, Bool, true, false, List, [], ◌∷◌, ◌++◌, length, take, drop, get_or, map, replicate, refl, sym, ap, subst, ◌∙◌, arith, length-drop, if◌then◌else◌, length-take-le, take_all}
use Rattle.std.proofs.lemmas.List.{drop_more}
use Rattle.tbl_format.specs.Cells.{AreCells, by_cells}
use Rattle.tbl_format.specs.declared.format.FormatKey.{FormatKey}
use Rattle.tbl_format.proofs.CellColumns.{columns_behind, columns_of-behind}
use Rattle.tbl_layout.specs.LayoutLaws.{AreBehind, StandInOrder, first_start, last_end}
use Rattle.tbl_layout.specs.Spans.{as_one}
use Rattle.tbl_layout.specs.Widths.{edge_bars, inner_bars}
use Rattle.tbl_layout.specs.declared.bars.Bars.{Bars}
use Rattle.tbl_layout.specs.declared.columns.Column.{Column}
use Rattle.tbl_layout.proofs.CellsAsOne.{EndsGrow, as_one-end, as_one-start, grow-take}
use Rattle.tbl_layout.proofs.FieldsFit.{end-far}
use Rattle.tbl_options.specs.declared.options.Boxing.{Boxing}
use Rattle.tbl_lines.specs.CellsLeft.{Left, goes_on}
use Rattle.tbl_lines.specs.LinesLeft.{Beside, Free, Over, Through, is_within, over_at, overs, overs_from, overs_of}
use Rattle.tbl_laws.specs.PiecesApart.{BarsFitRow, BarsFitRule, BarsPlaced, CellsCover, CellsFit, CellsStand, Fits, OverFits, OversStand, RowStands, RuleStands, over_end}
use Rattle.tbl_lines.specs.PictureLines.{RuleLine, Sheet}
use Rattle.tbl_lines.specs.RulePlaces.{bars_behind}
use Rattle.tbl_lines.proofs.RulesMet.{inner-grows}

abbrev keys_of : List Left → List FormatKey
keys_of cells = map (λ (c : Left). c.key) cells

-- columns that stand in order end in order; those behind some of them stand in order
ends-grow : (boxing : Boxing) (columns : List Column) → AreBehind boxing columns → EndsGrow columns
ends-grow boxing [] behind = tt
ends-grow boxing (c ∷ []) behind = tt
ends-grow boxing (c ∷ d ∷ columns) behind = (omega (arith, behind.0), ends-grow boxing (d ∷ columns) behind.1)

behind-drop : (boxing : Boxing) (n : ℕ) (columns : List Column) → AreBehind boxing columns → AreBehind boxing (drop n columns)
behind-drop boxing zero columns behind = behind
behind-drop boxing (suc n) [] behind = tt
behind-drop boxing (suc zero) (c ∷ []) behind = tt
behind-drop boxing (suc (suc n)) (c ∷ []) behind = tt
behind-drop boxing (suc n) (c ∷ d ∷ columns) behind = behind-drop boxing n (d ∷ columns) behind.1

-- some of them, and the one behind them
parts-apart : (boxing : Boxing) (n : ℕ) (c : Column) (columns : List Column) (d : Column) (further : List Column) → AreBehind boxing (c ∷ columns)
    → drop n columns ≡ d ∷ further
    → last_end 0 (c ∷ take n columns) + inner_bars boxing (bars_behind (c ∷ columns) n) ≤ d.start
parts-apart boxing zero c [] d further behind is = absurd cc
parts-apart boxing zero c (e ∷ columns) d further behind is =
    let same : e.start ≡ d.start = ap (first_start 0) is in omega (arith, behind.0, same)
parts-apart boxing (suc n) c [] d further behind is = absurd cc
parts-apart boxing (suc n) c (e ∷ columns) d further behind is = parts-apart boxing n e columns d further behind.1 is

-- where some of them begin and end as one
one-start : (n : ℕ) (columns : List Column) (d : Column) (further : List Column) → 0 < n → columns ≡ d ∷ further
    → (as_one (take n columns)).start ≡ d.start
one-start zero columns d further some is = absurd (omega (arith, some))
one-start (suc n) [] d further some is = absurd cc
one-start (suc n) (c ∷ columns) d further some is = as_one-start c (take n columns) ∙ ap (first_start 0) is

one-end : (boxing : Boxing) (n : ℕ) (c : Column) (columns : List Column) → AreBehind boxing (c ∷ columns)
    → (as_one (c ∷ take n columns)).start + (as_one (c ∷ take n columns)).width ≡ last_end 0 (c ∷ take n columns)
one-end boxing n c columns behind =
    as_one-end 0 c (take n columns) (grow-take (suc n) (c ∷ columns) (ends-grow boxing (c ∷ columns) behind))

all-end : (n : ℕ) (c : Column) (columns : List Column) → length columns ≤ n → last_end 0 (c ∷ take n columns) ≡ last_end 0 (c ∷ columns)
all-end n c columns many = ap (λ (cs : List Column). last_end 0 (c ∷ cs)) (take_all n columns many)

last-drop : (n : ℕ) (columns : List Column) → n < length columns → last_end 0 (drop n columns) ≡ last_end 0 columns
last-drop zero columns some = refl
last-drop (suc n) [] some = absurd (omega (arith, some))
last-drop (suc n) (c ∷ []) some = absurd (omega (arith, some))
last-drop (suc n) (c ∷ d ∷ columns) some = last-drop n (d ∷ columns) (omega (arith, some))

module _ (boxing : Boxing) (last width : ℕ) where
  abbrev Stand : List Left → List Column → Type 0
  Stand cells columns = CellsStand boxing last width cells columns

  -- the columns of cells, the first of which has so many of these
  abbrev split : ℕ → ℕ → List Left → List Column → List Column
  split n end cells columns = as_one (take n columns) ∷ map as_one (by_cells end (keys_of cells) (drop n columns))

  cells-stand : (cells : List Left) (own : Left) (from m : ℕ) (c : Column) (columns : List Column) → own.key.end - from ≡ suc m
      → AreCells from (keys_of (own ∷ cells)) → columns_behind from (keys_of (own ∷ cells)) ≡ from + length (c ∷ columns)
      → AreBehind boxing (c ∷ columns) → last_end 0 (c ∷ columns) + edge_bars boxing last ≤ width
      → BarsPlaced from (own ∷ cells) (c ∷ columns) → CellsFit (own ∷ cells) (split (suc m) own.key.end cells (c ∷ columns))
      → Stand (own ∷ cells) (split (suc m) own.key.end cells (c ∷ columns))
  cells-stand [] own from m c columns is order all behind ends placed fit =
      (fit.0, omega (arith, one-end boxing m c columns behind, all-end m c columns (omega (arith, is, all, order.0)), ends))
  cells-stand (next ∷ cells) own from m c columns is order all behind ends placed fit =
      let more : m < length columns = omega (arith, is, all, order.0, order.1.0, end-far next.key.end (keys_of cells) order.1.1) in
      let d = get_or columns m c in
      let further = drop (m + 1) columns in
      let rest : drop m columns ≡ d ∷ further = drop_more columns m c more in
      let k = next.key.end - own.key.end in
      let here : own.key.end - from - 1 ≡ m = omega (arith, is) in
      let few : next.key.bars ≤ bars_behind (c ∷ columns) m =
      omega (arith, placed.0, ap (bars_behind (c ∷ columns)) here) in
      let apart = parts-apart boxing m c columns d further behind rest in
      let start = one-start k (drop m columns) d further (omega (arith, order.1.0)) rest in
      let next_end = own.key.end in (
        fit.0,
        omega (arith, one-end boxing m c columns behind, apart, start, inner-grows boxing next.key.bars (bars_behind (c ∷ columns) m) few),
        subst (λ (cs : List Column). CellsFit (next ∷ cells) (split k next.key.end cells cs) → Stand (next ∷ cells) (split k next.key.end cells cs))
            (sym rest)
            (subst (λ (n : ℕ). CellsFit (next ∷ cells) (split n next.key.end cells (d ∷ further))
            → Stand (next ∷ cells) (split n next.key.end cells (d ∷ further)))
            (sym (count-of k (omega (arith, order.1.0))))
            (cells-stand cells next next_end (k - 1) d further (count-of k (omega (arith, order.1.0))) order.1
            (omega (arith, all, is, order.0, length-drop (m + 1) columns, more))
            (subst (AreBehind boxing) rest (behind-drop boxing (suc m) (c ∷ columns) behind))
            (omega (arith, ends, last-drop (suc m) (c ∷ columns) (omega (arith, more)), ap (last_end 0) rest))
            (subst (BarsPlaced own.key.end (next ∷ cells)) (drop-is ∙ rest) placed.1))) fit.1,
      ) where
        count-of : (n : ℕ) → 0 < n → n ≡ suc (n - 1)
        count-of zero some = absurd (omega (arith, some))
        count-of (suc n) some = omega arith

        drop-is : drop (own.key.end - from) (c ∷ columns) ≡ drop m columns
        drop-is = ap (λ (n : ℕ). drop n (c ∷ columns)) is

-- of a row
pub row-stands : (s : Sheet) (last : ℕ) (cells : List Left) → 0 < length s.columns → StandInOrder s.bars s.width s.columns → CellsCover s cells
    → BarsFitRow s last cells → RowStands s last cells
row-stands s last cells some order cover placed =
    by-columns s.bars s.width s.columns last cells some order cover placed where
      none-cover : (count : ℕ) → 0 < count → 0 ≡ count → ⊥
      none-cover count some is = omega (arith, some, is)

      by-columns : (bars : Bars) (width : ℕ) (columns : List Column) (last : ℕ) (cells : List Left)
          → (let s : Sheet = record { bars = bars; width = width; columns = columns } in
          0 < length s.columns → StandInOrder s.bars s.width s.columns → CellsCover s cells → BarsFitRow s last cells → RowStands s last cells)
      by-columns bars width [] last cells some order cover placed = absurd (omega (arith, some))
      by-columns bars width (c ∷ columns) last [] some order cover placed = absurd (omega (arith, cover.all))
      by-columns bars width (c ∷ columns) last (own ∷ cells) some order cover placed =
          let boxing = bars.boxing in
          let m = own.key.end - 0 - 1 in
          let is : own.key.end - 0 ≡ suc m = omega (arith, cover.order.0) in
          let all = cover.all ∙ refl in
          let covered : columns_behind 0 (keys_of (own ∷ cells)) ≡ 0 + length (c ∷ columns) =
          omega (arith, columns_of-behind (keys_of (own ∷ cells)), all) in
          record {
            some = omega arith;
            left = omega (
              arith,
              order.left,
              placed.left,
              one-start (own.key.end - 0) (c ∷ columns) c columns (omega (arith, cover.order.0)) refl,
            );
            order = subst (λ (n : ℕ). CellsFit (own ∷ cells) (split boxing last width n own.key.end cells (c ∷ columns))
                → CellsStand boxing last width (own ∷ cells) (split boxing last width n own.key.end cells (c ∷ columns)))
                (sym is)
                (cells-stand boxing last width cells own 0 m c columns is cover.order covered order.between
                (omega (arith, order.right, placed.right)) placed.between) cover.fit;
          }

-- Cells that go through a line of rules.
shift-stand : (o : Over) (all : List Over) (column : ℕ) (columns : List Column) → OversStand all column columns
    → OversStand (o ∷ all) (suc column) columns
shift-stand o all column [] stand = tt
shift-stand o all column (c ∷ []) stand = stand
shift-stand o all column (c ∷ d ∷ columns) stand = (stand.0, stand.1, shift-stand o all (suc column) (d ∷ columns) stand.2)

not-within : (t : Bool) (end further column : ℕ) → t ≡ false → end ≤ column → end ≤ (if t then further else column)
not-within true end further column is ends = absurd cc
not-within false end further column is ends = ends

-- the last column of a cell, in front of other cells
last-stands : (o : Over) (others : List Over) (c : Column) (columns : List Column) → OverFits o c → over_end o c ≤ c.start + c.width
    → is_within (over_at others 0) ≡ false → OversStand others 0 columns → OversStand (o ∷ others) 0 (c ∷ columns)
last-stands o others c [] fits ends first stand = (fits, ends)
last-stands o others c (d ∷ columns) fits ends first stand = (
  fits,
  not-within (is_within (over_at others 0)) (over_end o c) (over_end (over_at others 0) d) (c.start + c.width) first ends,
  shift-stand o others 0 (d ∷ columns) stand,
)

through-stands : (k : ℕ) (is_first : Bool) (own : Left) (one : Column) (others : List Over) (c : Column) (columns : List Column) → k ≤ length columns
    → Fits own one → (is_first ≡ true → c.start ≤ one.start) → one.start + one.width ≤ last_end 0 (c ∷ take k columns)
    → is_within (over_at others 0) ≡ false → OversStand others 0 (drop k columns)
    → OversStand (overs_from is_first own one (suc k) ++ others) 0 (c ∷ columns)
through-stands zero is_first own one others c columns few fits begins ends first stand =
    last-stands (Through is_first own one) others c columns (fits, begins) ends first stand
through-stands (suc k) is_first own one others c [] few fits begins ends first stand = absurd (omega (arith, few))
through-stands (suc k) is_first own one others c (d ∷ columns) few fits begins ends first stand = (
  (fits, begins),
  omega arith,
  shift-stand (Through is_first own one) (overs_from false own one (suc k) ++ others) 0 (d ∷ columns)
      (through-stands k false own one others d columns (omega (arith, few)) fits (λ is. absurd cc) ends first stand),
)

free-stands : (k : ℕ) (others : List Over) (c : Column) (columns : List Column) → k ≤ length columns → is_within (over_at others 0) ≡ false
    → OversStand others 0 (drop k columns) → OversStand (replicate (suc k) Free ++ others) 0 (c ∷ columns)
free-stands zero others c columns few first stand = last-stands Free others c columns tt (omega arith) first stand
free-stands (suc k) others c [] few first stand = absurd (omega (arith, few))
free-stands (suc k) others c (d ∷ columns) few first stand = (
  tt,
  omega arith,
  shift-stand Free (replicate (suc k) Free ++ others) 0 (d ∷ columns) (free-stands k others d columns (omega (arith, few)) first stand),
)

-- those of all cells
pub record AllStand (all : List Over) (columns : List Column) : Type 0 where
  pub first : is_within (over_at all 0) ≡ false
  pub stand : OversStand all 0 columns

cell-stands : (t : Bool) (boxing : Boxing) (k : ℕ) (own : Left) (others : List Over) (c : Column) (columns : List Column) → k ≤ length columns
    → AreBehind boxing (c ∷ columns) → Fits own (as_one (c ∷ take k columns)) → AllStand others (drop k columns)
    → AllStand ((if t then overs_from true own (as_one (c ∷ take k columns)) (suc k) else replicate (suc k) Free) ++ others) (c ∷ columns)
cell-stands true boxing k own others c columns few behind fits stand =
    let one = as_one (c ∷ take k columns) in
    record {
      first = refl;
      stand = through-stands k true own one others c columns few fits (λ is. omega (arith, as_one-start c (take k columns)))
          (omega (arith, one-end boxing k c columns behind)) stand.first stand.stand;
    }
cell-stands false boxing k own others c columns few behind fits stand =
    record { first = refl; stand = free-stands k others c columns few stand.first stand.stand }

module _ (boxing : Boxing) where
  overs-stand : (cells : List Left) (from : ℕ) (columns : List Column) → AreCells from (keys_of cells)
      → columns_behind from (keys_of cells) ≡ from + length columns → AreBehind boxing columns
      → CellsFit cells (map as_one (by_cells from (keys_of cells) columns)) → AllStand (overs from cells columns) columns
  overs-stand [] from [] order all behind fit = record { first = refl; stand = tt }
  overs-stand [] from (c ∷ columns) order all behind fit = absurd (omega (arith, all))
  overs-stand (own ∷ cells) from [] order all behind fit =
      absurd (omega (arith, all, order.0, end-far own.key.end (keys_of cells) order.1))
  overs-stand (own ∷ cells) from (c ∷ columns) order all behind fit =
      let k = own.key.end - from - 1 in
      let is : own.key.end - from ≡ suc k = omega (arith, order.0) in
      let far = end-far own.key.end (keys_of cells) order.1 in
      let few : k ≤ length columns = omega (arith, all, far, order.0) in
      let many : length (take (suc k) (c ∷ columns)) ≡ suc k = length-take-le (suc k) (c ∷ columns) (omega (arith, few)) in
      let others = overs own.key.end cells (drop k columns) in
      let further = overs-stand cells own.key.end (drop k columns) order.1
      (omega (arith, all, far, order.0, length-drop k columns)) (behind-drop boxing (suc k) (c ∷ columns) behind) in
      let one = as_one (c ∷ take k columns) in
      let whole : ℕ → List Over = λ n. overs_of own (take n (c ∷ columns)) ++ overs own.key.end cells (drop n (c ∷ columns)) in
      let Fit : ℕ → Type 0 = λ n.
      CellsFit (own ∷ cells) (as_one (take n (c ∷ columns)) ∷ map as_one (by_cells own.key.end (keys_of cells) (drop n (c ∷ columns)))) in
      let fits : Fit (suc k) = subst Fit is fit in
      subst (λ (n : ℕ). AllStand (whole n) (c ∷ columns)) (sym is)
      (subst (λ (n : ℕ). AllStand ((if goes_on own then overs_from true own one n else replicate n Free) ++ others) (c ∷ columns)) (sym many)
      (cell-stands (goes_on own) boxing k own others c columns few behind fits.0 (further fits.1)))

-- of a line of rules
pub rule-stands : (s : Sheet) (line : RuleLine) (cells : List Left) (above below : Beside) → 0 < length s.columns
    → StandInOrder s.bars s.width s.columns → CellsCover s cells → BarsFitRule s line cells above below → RuleStands s line cells above below
rule-stands s line cells above below some order cover placed =
    let covered : columns_behind 0 (keys_of cells) ≡ 0 + length s.columns = omega (arith, columns_of-behind (keys_of cells), cover.all) in
    let stand = overs-stand s.bars.boxing cells 0 s.columns cover.order covered order.between cover.fit in
    record {
      some = some;
      left = omega (arith, placed.left, first-far s.columns (edge_bars s.bars.boxing s.bars.front) some, order.left);
      between = placed.between;
      right = omega (arith, order.right, placed.right);
      first = stand.first;
      order = stand.stand;
    } where
      first-far : (columns : List Column) (edge : ℕ) → 0 < length columns → first_start edge columns ≡ first_start 0 columns
      first-far [] edge some = absurd (omega (arith, some))
      first-far (c ∷ columns) edge some = refl
