-- The pieces of a line of a row stand apart.
use Rattle.std.proofs.Common.{◌≡◌, ℕ, zero, suc, ◌+◌, ◌-◌, ◌<◌, ◌≤◌, max, Bool, true, false, List, [], ◌∷◌, ◌++◌, length, take, drop, map, Option, Some, None, refl, sym, subst, arith, if◌then◌else◌}
use Rattle.tbl_format.specs.Cells.{by_cells}
use Rattle.tbl_layout.specs.Columns.{bar_place}
use Rattle.tbl_layout.specs.Spans.{as_one}
use Rattle.tbl_layout.specs.Widths.{edge_bars, inner_bars}
use Rattle.tbl_layout.specs.declared.columns.Column.{Column}
use Rattle.tbl_layout.specs.declared.data_lines.RuleSign.{RuleSign}
use Rattle.tbl_options.specs.declared.options.Boxing.{Boxing}
use Rattle.tbl_lines.specs.CellsLeft.{Left}
use Rattle.tbl_lines.specs.LinesLeft.{Shown, bars_there, between, crossed_or_not, end_by, joined_here, row_line, row_shown, shown, shown_cell}
use Rattle.tbl_laws.specs.PiecesApart.{CellsStand, Fits, InTurn, IsApart, RowStands, StandApart, columns_of_cells, fronts_of_row, shown_in_row}
use Rattle.tbl_lines.specs.PictureLines.{Cell, Sheet, with_fronts}
use Rattle.tbl_lines.specs.RowsLeft.{then_fronts}
use Rattle.tbl_laws.proofs.CellsFit.{shown-within}
use Rattle.tbl_laws.proofs.PiecesBehind.{Within, bars-within, crossed-within, next-apart, nothing-within}
use Rattle.tbl_laws.proofs.ShownWhole.{line-whole, row-whole}

-- where a rule over a cell ends: behind its beginning, and in front of the next cell
end-behind : (joined : Option RuleSign) (n : ℕ) (c d : Column) → c.start + c.width + n ≤ d.start
    → (c.start ≤ end_by joined n c d) × (end_by joined n c d ≤ d.start)
end-behind None n c d apart = (omega arith, omega (arith, apart))
end-behind (Some sign) zero c d apart = (omega (arith, apart), omega arith)
end-behind (Some sign) (suc n) c d apart = (omega arith, omega (arith, apart))

-- what stands between two cells
between-within : (joined : Option RuleSign) (n : ℕ) (c d : Column) → c.start + c.width + n ≤ d.start
    → Within (crossed_or_not joined n c d) (max (end_by joined n c d) (c.start + c.width)) d.start
between-within None zero c d apart = nothing-within (max (c.start + c.width) (c.start + c.width)) d.start (omega (arith, apart))
between-within None (suc n) c d apart =
    bars-within (suc n) (bar_place (suc n) c d) (max (c.start + c.width) (c.start + c.width)) d.start (omega arith) (omega (arith, apart))
between-within (Some sign) zero c d apart = nothing-within (max d.start (c.start + c.width)) d.start (omega (arith, apart))
between-within (Some sign) (suc n) c d apart =
    let at = bar_place (suc n) c d in
    crossed-within sign at (suc n) d.start (max at (c.start + c.width)) d.start (omega arith) (omega (arith, apart)) (omega arith)

-- cells, the first of them behind what stands in front of it
with-first : (f : Cell) (fronts cells : List Cell) → 0 < length cells → with_fronts (f ∷ fronts) cells ≡ f ∷ then_fronts fronts cells
with-first f fronts [] some = absurd (omega (arith, some))
with-first f fronts (c ∷ cells) some = refl

module _ (boxing : Boxing) (last width : ℕ) where
  abbrev right : ℕ
  right = edge_bars boxing last

  abbrev end : Cell
  end = bars_there (width - right) right

  shown-some : (own : Left) (cells : List Left) (c : Column) (columns : List Column)
      → 0 < length (map shown_cell (row_shown boxing (own ∷ cells) (c ∷ columns)))
  shown-some own [] c columns = omega arith
  shown-some own (next ∷ cells) c [] = omega arith
  shown-some own (next ∷ cells) c (d ∷ columns) = omega arith

  -- the last cell, and the right edge
  last-cell : (place : ℕ) (own : Left) (c : Column) → place ≤ c.start → Fits own c → c.start + c.width + right ≤ width
      → StandApart width place (shown_cell (shown own c (c.start + c.width)) ∷ end ∷ [])
  last-cell place own c before fits ends =
      let to = c.start + c.width in
      next-apart width c.start (max to to) place (shown_cell (shown own c to)) (end ∷ []) (shown-within own c to (omega arith) fits) before
      (λ at le.
      next-apart width to width at end [] (bars-within right (width - right) to width (omega (arith, ends)) (omega (arith, ends)))
      (omega (arith, le)) (λ far within. within))

  -- all cells, with bars in front of them
  barred : (place : ℕ) (own : Left) (cells : List Left) (c : Column) (columns : List Column) → place ≤ c.start
      → CellsStand boxing last width (own ∷ cells) (c ∷ columns)
      → StandApart width place (then_fronts (between boxing (own ∷ cells) (c ∷ columns) ++ end ∷ [])
      (map shown_cell (row_shown boxing (own ∷ cells) (c ∷ columns))))
  barred place own [] c columns before stand = last-cell place own c before stand.0 stand.1
  barred place own (next ∷ cells) c [] before stand = last-cell place own c before stand.0 stand.1
  barred place own (next ∷ cells) c (d ∷ columns) before stand =
      let n = inner_bars boxing next.key.bars in
      let joined = joined_here own next in
      let to = end_by joined n c d in
      let ends = end-behind joined n c d stand.1 in
      let first = shown_cell (shown own c to) in
      let front = crossed_or_not joined n c d in
      let fronts = between boxing (next ∷ cells) (d ∷ columns) ++ end ∷ [] in
      let others = map shown_cell (row_shown boxing (next ∷ cells) (d ∷ columns)) in
      subst (λ (pieces : List Cell). StandApart width place (first ∷ pieces)) (sym (with-first front fronts others (shown-some next cells d columns)))
      (next-apart width c.start (max to (c.start + c.width)) place first (front ∷ then_fronts fronts others)
      (shown-within own c to ends.0 stand.0) before
      (λ at le.
      next-apart width (max to (c.start + c.width)) d.start at front (then_fronts fronts others) (between-within joined n c d stand.1) le
      (λ far within. barred far next cells d columns within stand.2)))

  -- and without bars
  plain-last : (place : ℕ) (own : Left) (c : Column) → place ≤ c.start → Fits own c → c.start + c.width + right ≤ width
      → StandApart width place (shown_cell (shown own c (c.start + c.width)) ∷ [])
  plain-last place own c before fits ends =
      let to = c.start + c.width in
      next-apart width c.start (max to to) place (shown_cell (shown own c to)) [] (shown-within own c to (omega arith) fits) before
      (λ at le. omega (arith, le, ends))

  plain : (place : ℕ) (own : Left) (cells : List Left) (c : Column) (columns : List Column) → place ≤ c.start
      → CellsStand boxing last width (own ∷ cells) (c ∷ columns)
      → StandApart width place (map shown_cell (row_shown boxing (own ∷ cells) (c ∷ columns)))
  plain place own [] c columns before stand = plain-last place own c before stand.0 stand.1
  plain place own (next ∷ cells) c [] before stand = plain-last place own c before stand.0 stand.1
  plain place own (next ∷ cells) c (d ∷ columns) before stand =
      let n = inner_bars boxing next.key.bars in
      let joined = joined_here own next in
      let to = end_by joined n c d in
      let ends = end-behind joined n c d stand.1 in
      next-apart width c.start (max to (c.start + c.width)) place (shown_cell (shown own c to))
      (map shown_cell (row_shown boxing (next ∷ cells) (d ∷ columns))) (shown-within own c to ends.0 stand.0) before
      (λ at le. plain at next cells d columns (omega (arith, le, ends.1, stand.1)) stand.2)

  -- in a picture that has bars or not
  by-bars : (t : Bool) (own : Left) (cells : List Left) (c : Column) (columns : List Column) → edge_bars boxing own.key.bars ≤ c.start
      → CellsStand boxing last width (own ∷ cells) (c ∷ columns)
      → StandApart width 0 (with_fronts (if t then bars_there 0 (edge_bars boxing own.key.bars)
      ∷ between boxing (own ∷ cells) (c ∷ columns) ++ end ∷ [] else []) (map shown_cell (row_shown boxing (own ∷ cells) (c ∷ columns))))
  by-bars true own cells c columns left stand =
      let n = edge_bars boxing own.key.bars in
      let front = bars_there 0 n in
      let fronts = between boxing (own ∷ cells) (c ∷ columns) ++ end ∷ [] in
      let others = map shown_cell (row_shown boxing (own ∷ cells) (c ∷ columns)) in
      subst (StandApart width 0) (sym (with-first front fronts others (shown-some own cells c columns)))
      (next-apart width 0 n 0 front (then_fronts fronts others) (bars-within n 0 0 n (omega arith) (omega arith)) (omega arith)
      (λ at le. barred at own cells c columns (omega (arith, le, left)) stand))
  by-bars false own cells c columns left stand = plain 0 own cells c columns (omega arith) stand

pub row-stands : (s : Sheet) (last : ℕ) (cells : List Left) → RowStands s last cells
    → StandApart s.width 0 (with_fronts (fronts_of_row s last cells) (map shown_cell (shown_in_row s cells)))
row-stands s last [] stand = absurd (omega (arith, stand.some))
row-stands s last (own ∷ cells) stand =
    let count = own.key.end - 0 in
    by-bars s.bars.boxing last s.width s.bars.has_any own cells (as_one (take count s.columns))
    (map as_one (by_cells own.key.end (map (λ (c : Left). c.key) cells) (drop count s.columns))) stand.left stand.order

pub row-apart : (s : Sheet) (last : ℕ) (cells : List Left) → RowStands s last cells → InTurn (shown_in_row s cells)
    → IsApart s.width (row_line s last cells) (fronts_of_row s last cells) (shown_in_row s cells)
row-apart s last cells stand turn = record {
  is = line-whole s (fronts_of_row s last cells) (shown_in_row s cells)
      (row-whole s.bars.boxing last s.width cells (columns_of_cells s cells) stand.order);
  apart = subst (λ (shown : List Shown). StandApart s.width 0 (with_fronts (fronts_of_row s last cells) (map shown_cell shown))) (sym turn)
      (row-stands s last cells stand);
}
