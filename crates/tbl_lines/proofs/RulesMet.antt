-- How many bars meet on a line of rules: no more than there are places for, where all rows beside it have places for theirs.
use Rattle.std.proofs.Common.{◌≡◌, ℕ, zero, suc, ◌+◌, ◌≤◌, ◌<◌, max, Bool, true, false, ◌&&◌, List, [], ◌∷◌, length, Option, Some, None, refl, ap, arith, if◌then◌else◌, nat_lt, is_some, ltb-false}
use Rattle.tbl_format.specs.Cells.{cell_behind}
use Rattle.tbl_format.specs.Format.{FormatRow}
use Rattle.tbl_format.specs.declared.format.FormatKey.{FormatKey}
use Rattle.tbl_options.specs.declared.options.Boxing.{Boxing}
use Rattle.tbl_layout.specs.Entries.{Content, field_at}
use Rattle.tbl_layout.specs.LayoutLaws.{AreBehind, last_behind, last_end}
use Rattle.tbl_layout.specs.Widths.{edge_bars, inner_bars}
use Rattle.tbl_layout.specs.declared.bars.Bars.{Bars}
use Rattle.tbl_layout.specs.declared.columns.Column.{Column}
use Rattle.tbl_lines.specs.PictureLines.{Neighbour, NoRow, OfKeys, OfRow, OfRules, RuleLine, Whole, bars_between, bars_of, edge_of_cell, joined_sign, met_at_edge, met_behind, own_at_edge, own_behind, rules_behind, shown_at_edge, shown_behind, shown_in_front}
use Rattle.tbl_format.specs.FormatLaws.{bars_among}
use Rattle.tbl_lines.specs.RulePlaces.{AreMet, HasPlaces, IsLinePlaced, IsPlaced, bars_behind}

-- a row of the formats has no bar behind the end of its last key
pub few-bars : (keys : List FormatKey) (last column : ℕ) → length keys < column → bars_among keys last column ≡ 0
few-bars [] last zero few = absurd (omega (arith, few))
few-bars [] last (suc column) few = refl
few-bars (k ∷ keys) last zero few = absurd (omega (arith, few))
few-bars (k ∷ keys) last (suc column) few = few-bars keys last column (omega (arith, few))

-- of more bars no fewer stand between columns, and of several no more than there are, or one
inner-by : (t : Bool) (n most : ℕ) → n ≤ most → (if t then max 1 n else n) ≤ (if t then max 1 most else most)
inner-by true n most few = omega (arith, few)
inner-by false n most few = few

pub inner-grows : (boxing : Boxing) (n most : ℕ) → n ≤ most → inner_bars boxing n ≤ inner_bars boxing most
inner-grows boxing n most few = inner-by boxing.is_inside n most few

most-by : (t : Bool) (n : ℕ) → (if t then max 1 n else n) ≤ max 1 n
most-by true n = omega arith
most-by false n = omega arith

inner-most : (boxing : Boxing) (n : ℕ) → inner_bars boxing n ≤ max 1 n
inner-most boxing n = most-by boxing.is_inside n

-- some or none are few
none-if : (t : Bool) (n most : ℕ) → n ≤ most → (if t then 0 else n) ≤ most
none-if true n most few = omega arith
none-if false n most few = few

some-if : (t : Bool) (n most : ℕ) → n ≤ most → (if t then n else 0) ≤ most
some-if true n most few = few
some-if false n most few = omega arith

no-more : (t : Bool) (n : ℕ) → (if t then 0 else n) ≤ (if t then 0 else max n 0)
no-more true n = omega arith
no-more false n = omega arith

-- the cell that begins in front of all columns
cell-first : (keys : List FormatKey) → cell_behind keys 0 ≡ Some 0
cell-first [] = refl
cell-first (k ∷ keys) = refl

-- a line of rules, beside which rows stand whose bars have their places
module _ (bars : Bars) (columns : List Column) where
  abbrev pub most-at : ℕ → ℕ
  most-at column = inner_bars bars.boxing (bars_behind columns column)

  shown-in-front : (is_first : Bool) (format : FormatRow) (fields : List Content) (column : ℕ) (found : Option ℕ)
      → HasPlaces bars.front columns format → cell_behind format.keys (suc column) ≡ found
      → shown_in_front bars.boxing is_first format fields found ≤ most-at column
  shown-in-front is_first format fields column None placed is = omega arith
  shown-in-front is_first format fields column (Some zero) placed is = omega arith
  shown-in-front is_first format fields column (Some (suc cell)) placed is =
      none-if (is_first && is_some (joined_sign (field_at fields cell) (field_at fields (suc cell)))) (bars_between bars.boxing format (suc cell))
      (most-at column)
      (inner-grows bars.boxing (bars_of format (suc cell)) (bars_behind columns column) (placed.behind column (suc cell) is))

  -- a row of rule keys has no bars of its own behind its keys, and shows those of a line behind it there
  rules-most : (format : FormatRow) (column shown : ℕ) (t : Bool) → nat_lt column (length format.keys) ≡ t → shown ≤ most-at column
      → (if rules_behind format column then 0 else max (bars_between bars.boxing format (suc column)) shown) ≤ most-at column
  rules-most format column shown true is few =
      let none = ap (λ (t : Bool). if t then 0 else max (bars_between bars.boxing format (suc column)) shown) is in omega (arith, none)
  rules-most format column shown false is few =
      let some = ap (λ (t : Bool). if t then 0 else max (bars_between bars.boxing format (suc column)) shown) is in
      let own = few-bars format.keys format.bars (suc column) (omega (arith, ltb-false column (length format.keys) is)) in
      omega (arith, some, few, ap (inner_bars bars.boxing) own, inner-grows bars.boxing 0 (bars_behind columns column) (omega arith))

  shown-most : (n : Neighbour) (column : ℕ) → IsPlaced bars.front columns n → shown_behind bars.boxing n column ≤ most-at column
  shown-most NoRow column placed = omega arith
  shown-most (OfRow is_first format fields) column placed =
      shown-in-front is_first format fields column (cell_behind format.keys (suc column)) placed refl
  shown-most (OfRules format behind) column placed =
      rules-most format column (shown_behind bars.boxing behind column) (nat_lt column (length format.keys)) refl (shown-most behind column placed.1)

  own-most : (line : RuleLine) (column : ℕ) → own_behind bars.boxing line column ≤ most-at column
  own-most (Whole sign) column = omega arith
  own-most (OfKeys format) column =
      let most = rules-most format column 0 (nat_lt column (length format.keys)) refl (omega arith) in
      omega (arith, most, no-more (rules_behind format column) (bars_between bars.boxing format (suc column)))

  -- at the left edge, and at the right one
  abbrev pub most-left : ℕ
  most-left = edge_bars bars.boxing bars.front

  shown-left : (n : Neighbour) → IsPlaced bars.front columns n → shown_at_edge bars.boxing n 0 ≤ most-left
  shown-left NoRow placed = omega arith
  shown-left (OfRow is_first format fields) placed =
      omega (arith, placed.left, ap (edge_of_cell bars.boxing format) (cell-first format.keys))
  shown-left (OfRules format behind) placed = omega (arith, placed.0.left, shown-left behind placed.1)

  own-left : (line : RuleLine) → IsLinePlaced bars.front columns line → own_at_edge bars.boxing line 0 ≤ most-left
  own-left (Whole sign) placed = omega arith
  own-left (OfKeys format) placed = omega (arith, placed.left)

  module _ (before : ℕ) (all : length columns ≡ suc before) where
    abbrev pub most-right : ℕ
    most-right = edge_bars bars.boxing (bars_behind columns before)

    cell-right : (format : FormatRow) (found : Option ℕ) → HasPlaces bars.front columns format → cell_behind format.keys (suc before) ≡ found
        → edge_of_cell bars.boxing format found ≤ most-right
    cell-right format None placed is = omega arith
    cell-right format (Some cell) placed is = omega (arith, placed.behind before cell is)

    shown-right : (n : Neighbour) → IsPlaced bars.front columns n → shown_at_edge bars.boxing n (suc before) ≤ most-right
    shown-right NoRow placed = omega arith
    shown-right (OfRow is_first format fields) placed = cell-right format (cell_behind format.keys (suc before)) placed refl
    shown-right (OfRules format behind) placed = omega (arith, placed.0.right before all, shown-right behind placed.1)

    own-right : (line : RuleLine) → IsLinePlaced bars.front columns line → own_at_edge bars.boxing line (suc before) ≤ most-right
    own-right (Whole sign) placed = omega arith
    own-right (OfKeys format) placed = omega (arith, placed.right before all)

-- the last column of some
last-is : (columns : List Column) (before : ℕ) → length columns ≡ suc before → bars_behind columns before ≡ last_behind columns
last-is [] before all = absurd (omega (arith, all))
last-is (c ∷ []) zero all = refl
last-is (c ∷ []) (suc before) all = absurd (omega (arith, all))
last-is (c ∷ d ∷ columns) zero all = absurd (omega (arith, all))
last-is (c ∷ d ∷ columns) (suc before) all = last-is (d ∷ columns) before (omega (arith, all))

-- columns with places for what meets behind them
pub are-met : (met : ℕ → ℕ) (to place : ℕ) (boxing : Boxing) (column : ℕ) (columns : List Column) → AreBehind boxing columns
    → ((i : ℕ) → met (column + i) ≤ inner_bars boxing (bars_behind columns i)) → last_end place columns ≤ to → AreMet met to column columns
are-met met to place boxing column [] behind few ends = tt
are-met met to place boxing column (c ∷ []) behind few ends = omega (arith, ends)
are-met met to place boxing column (c ∷ d ∷ columns) behind few ends =
    let first : met (column + 0) ≤ inner_bars boxing c.bars = few 0 in
    let same : column + 0 ≡ column = omega arith in
    let here : met column ≤ inner_bars boxing c.bars = omega (arith, first, ap met same) in
    let further : (i : ℕ) → met (suc column + i) ≤ inner_bars boxing (bars_behind (d ∷ columns) i) = λ i.
    let next : met (column + suc i) ≤ inner_bars boxing (bars_behind (d ∷ columns) i) = few (suc i) in
    let moved : column + suc i ≡ suc column + i = omega arith in
    omega (arith, next, ap met moved) in (
      omega (arith, behind.0, here),
      omega (arith, here, inner-most boxing c.bars),
      are-met met to (c.start + c.width) boxing (suc column) (d ∷ columns) behind.1 further ends,
    )

-- a line of rules that has places for its bars, as its neighbours have for theirs
module _ (bars : Bars) (columns : List Column) (line : RuleLine) (above below : Neighbour) (own : IsLinePlaced bars.front columns line)
    (up : IsPlaced bars.front columns above) (down : IsPlaced bars.front columns below) where
  pub few-behind : (column : ℕ) → met_behind bars line above below column ≤ inner_bars bars.boxing (bars_behind columns column)
  few-behind column =
      let b = bars.boxing in
      some-if bars.has_any (max (own_behind b line column) (max (shown_behind b above column) (shown_behind b below column)))
      (most-at bars columns column)
      (omega (arith, own-most bars columns line column, shown-most bars columns above column up, shown-most bars columns below column down))

  pub few-left : met_at_edge bars line above below 0 ≤ edge_bars bars.boxing bars.front
  few-left =
      let b = bars.boxing in
      some-if bars.has_any (max (own_at_edge b line 0) (max (shown_at_edge b above 0) (shown_at_edge b below 0))) (edge_bars b bars.front)
      (omega (arith, own-left bars columns line own, shown-left bars columns above up, shown-left bars columns below down))

  pub few-right : (before : ℕ) → length columns ≡ suc before
      → met_at_edge bars line above below (length columns) ≤ edge_bars bars.boxing (last_behind columns)
  few-right before all =
      let b = bars.boxing in
      let there = ap (λ (n : ℕ). met_at_edge bars line above below n) all in
      let last = ap (edge_bars b) (last-is columns before all) in
      omega (
        arith,
        there,
        last,
        some-if bars.has_any (max (own_at_edge b line (suc before)) (max (shown_at_edge b above (suc before)) (shown_at_edge b below (suc before))))
            (edge_bars b (bars_behind columns before))
            (omega (
              arith,
              own-right bars columns before all line own,
              shown-right bars columns before all above up,
              shown-right bars columns before all below down,
            )),
      )
