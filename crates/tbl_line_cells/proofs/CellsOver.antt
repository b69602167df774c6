-- The cells of a row in front of which a line of rules stands: which of them has a column, and what the line meets there.
use Rattle.std.proofs.Common.{◌≡◌, ℕ, zero, suc, ◌+◌, ◌-◌, ◌<◌, ◌≤◌, ◌==◌, Bool, true, false, not, ◌&&◌, List, [], ◌∷◌, drop, get_or, length, take, refl, sym, ap, subst, ◌∙◌, arith, ltb-false, ltb-true, ne_eqb, nat_lt, if◌then◌else◌}
use Rattle.std.proofs.lemmas.List.{length-map}
use Rattle.tbl_format.specs.declared.format.FormatKey.{FormatKey}
use Rattle.tbl_layout.specs.Spans.{as_one}
use Rattle.tbl_layout.specs.declared.columns.Column.{Column}
use Rattle.tbl_lines.specs.CellsLeft.{Left, goes_on}
use Rattle.tbl_lines.specs.LinesLeft.{Free, Through, is_within, over_at, overs}
use Rattle.tbl_line_cells.specs.KeptCells.{AllLeft, IsLeft}
use Rattle.tbl_line_cells.specs.LinesDrawn.{keys_in}
use Rattle.tbl_line_cells.specs.RulesDrawn.{Cover, HasColumn, begin_from, over_of}
use Rattle.tbl_line_cells.specs.declared.cells.CellLeft.{CellLeft}
use Rattle.tbl_line_cells.proofs.OversMet.{cover-few, left_keys, over-there}

pub keys-left : (bytes : List ℕ) (cells : List CellLeft) (lefts : List Left) → AllLeft bytes cells lefts → keys_in cells ≡ left_keys lefts
keys-left bytes [] [] all = refl
keys-left bytes [] (l ∷ lefts) all = absurd all
keys-left bytes (c ∷ cells) [] all = absurd all
keys-left bytes (c ∷ cells) (l ∷ lefts) all =
    ap (λ (k : FormatKey). k ∷ keys_in cells) all.0.key ∙ ap (λ (ks : List FormatKey). l.key ∷ ks) (keys-left bytes cells lefts all.1)

-- what is left of one of them
pub record LeftAt (bytes : List ℕ) (c : CellLeft) (lefts : List Left) (cell : ℕ) : Type 0 where
  pub own : Left
  pub is : drop cell lefts ≡ own ∷ drop (suc cell) lefts
  pub left : IsLeft bytes c own

pub left-at : (bytes : List ℕ) (cells : List CellLeft) (lefts : List Left) (cell : ℕ) (c : CellLeft) → AllLeft bytes cells lefts → cell < length cells
    → LeftAt bytes (get_or cells cell c) lefts cell
left-at bytes [] [] cell c all within = absurd (omega (arith, within))
left-at bytes [] (l ∷ lefts) cell c all within = absurd all
left-at bytes (x ∷ cells) [] cell c all within = absurd all
left-at bytes (x ∷ cells) (l ∷ lefts) zero c all within = record { own = l; is = refl; left = all.0 }
left-at bytes (x ∷ cells) (l ∷ lefts) (suc cell) c all within =
    let rest = left-at bytes cells lefts cell c all.1 (omega (arith, within)) in record { own = rest.own; is = rest.is; left = rest.left }

-- a cell ends where its key says
begin-next : (from : ℕ) (lefts : List Left) (cell : ℕ) (own : Left) (others : List Left) → drop cell lefts ≡ own ∷ others
    → begin_from from (suc cell) (left_keys lefts) ≡ own.key.end
begin-next from [] zero own others is = absurd (cc)
begin-next from [] (suc cell) own others is = absurd (cc)
begin-next from (l ∷ lefts) zero own others is = let same : l ≡ own = cc in ap (λ (m : Left). m.key.end) same
begin-next from (l ∷ lefts) (suc cell) own others is = begin-next l.key.end lefts cell own others is

-- what the line meets over a column that a cell has
pub record OverCell (bytes : List ℕ) (c : CellLeft) (lefts : List Left) (columns : List Column) (begin end at : ℕ) : Type 0 where
  pub own : Left
  pub left : IsLeft bytes c own
  pub over : over_at (overs 0 lefts columns) at ≡ over_of (at - begin == 0) own (as_one (take (end - begin) (drop begin columns)))

over-cell-by : (bytes : List ℕ) (lefts : List Left) (columns : List Column) (keys : List FormatKey) (cell at : ℕ) (c : CellLeft)
    → keys ≡ left_keys lefts
    → LeftAt bytes c lefts cell → Cover 0 (length columns) keys → HasColumn keys cell at
    → OverCell bytes c lefts columns (begin_from 0 cell keys) (begin_from 0 (suc cell) keys) at
over-cell-by bytes lefts columns keys cell at c same here cover has =
    let ends : begin_from 0 (suc cell) keys ≡ here.own.key.end =
    ap (λ (ks : List FormatKey). begin_from 0 (suc cell) ks) same ∙ begin-next 0 lefts cell here.own (drop (suc cell) lefts) here.is in
    let begins : begin_from 0 cell (left_keys lefts) ≡ begin_from 0 cell keys = ap (λ (ks : List FormatKey). begin_from 0 cell ks) (sym same) in
    let all : 0 + length columns ≡ length columns = omega arith in
    let covered : Cover 0 (0 + length columns) (left_keys lefts) =
    subst (λ (ks : List FormatKey). Cover 0 (0 + length columns) ks) same (subst (λ (n : ℕ). Cover 0 n keys) (sym all) cover) in
    let column : at ≡ at - 0 = omega arith in
    let none : begin_from 0 cell (left_keys lefts) - 0 ≡ begin_from 0 cell (left_keys lefts) = omega arith in
    let met = over-there 0 lefts columns cell at here.own (drop (suc cell) lefts) covered here.is (omega (arith, begins, has.from))
    (omega (arith, ends, has.to)) in
    record {
      own = here.own;
      left = here.left;
      over = ap (λ (n : ℕ). over_at (overs 0 lefts columns) n) column ∙ met
          ∙ ap (λ (n : ℕ). over_of (at - begin_from 0 cell (left_keys lefts) == 0) here.own
          (as_one (take (here.own.key.end - begin_from 0 cell (left_keys lefts)) (drop n columns)))) none
          ∙ ap (λ (b : ℕ). over_of (at - b == 0) here.own (as_one (take (here.own.key.end - b) (drop b columns)))) begins
          ∙ ap (λ (e : ℕ). over_of (at - begin_from 0 cell keys == 0) here.own
          (as_one (take (e - begin_from 0 cell keys) (drop (begin_from 0 cell keys) columns))))
          (sym ends);
    }

pub over-cell : (bytes : List ℕ) (cells : List CellLeft) (lefts : List Left) (columns : List Column) (cell at : ℕ) (c : CellLeft)
    → AllLeft bytes cells lefts → Cover 0 (length columns) (keys_in cells) → HasColumn (keys_in cells) cell at
    → OverCell bytes (get_or cells cell c) lefts columns (begin_from 0 cell (keys_in cells)) (begin_from 0 (suc cell) (keys_in cells)) at
over-cell bytes cells lefts columns cell at c all cover has =
    over-cell-by bytes lefts columns (keys_in cells) cell at (get_or cells cell c) (keys-left bytes cells lefts all)
    (left-at bytes cells lefts cell c all (omega (arith, has.is_cell, length-map cells (λ (c : CellLeft). c.key)))) cover has

-- the cell behind one that ends in front of the last column
record Rises (from count cell : ℕ) (keys : List FormatKey) : Type 0 where
  next : suc cell < length keys
  end : begin_from from (suc cell) keys < begin_from from (suc (suc cell)) keys

rises-next : (from count cell : ℕ) (keys : List FormatKey) → Cover from count keys → cell < length keys → begin_from from (suc cell) keys < count
    → Rises from count cell keys
rises-next from count cell [] cover within more = absurd (omega (arith, within))
rises-next from count zero (k ∷ []) cover within more = absurd (omega (arith, cover.1, more))
rises-next from count zero (k ∷ q ∷ keys) cover within more = record { next = omega arith; end = cover.1.0 }
rises-next from count (suc cell) (k ∷ keys) cover within more =
    let rest = rises-next k.end count cell keys cover.1 (omega (arith, within)) more in record { next = omega (arith, rest.next); end = rest.end }

pub column-behind : (count cell at : ℕ) (keys : List FormatKey) → Cover 0 count keys → HasColumn keys cell at → at + 1 < count
    → at + 1 ≡ begin_from 0 (suc cell) keys → HasColumn keys (suc cell) (at + 1)
column-behind count cell at keys cover has more end =
    let rises = rises-next 0 count cell keys cover has.is_cell (omega (arith, more, end)) in
    record { is_cell = rises.next; from = omega (arith, end); to = omega (arith, end, rises.end) }

-- one is less than another, or the same
pub split : (P : Type 0) (n m : ℕ) → n ≤ m → (n ≡ m → P) → (n < m → P) → P
split P zero zero most same less = same refl
split P zero (suc m) most same less = less (omega arith)
split P (suc n) zero most same less = absurd (omega (arith, most))
split P (suc n) (suc m) most same less = split P n m (omega (arith, most)) (λ is. same (ap suc is)) (λ is. less (omega (arith, is)))

pub less-by : (n m : ℕ) → n ≤ m → (n ≡ m → ⊥) → n < m
less-by zero zero most other = absurd (other refl)
less-by zero (suc m) most other = omega arith
less-by (suc n) zero most other = absurd (omega (arith, most))
less-by (suc n) (suc m) most other = omega (arith, less-by n m (omega (arith, most)) (λ is. other (ap suc is)))

pub column-within : (cell at : ℕ) (keys : List FormatKey) → HasColumn keys cell at → (at + 1 ≡ begin_from 0 (suc cell) keys → ⊥)
    → HasColumn keys cell (at + 1)
column-within cell at keys has more = record {
  is_cell = has.is_cell;
  from = omega (arith, has.from);
  to = less-by (at + 1) (begin_from 0 (suc cell) keys) (omega (arith, has.to)) more;
}

-- the first and the last cell
pub first-column : (count : ℕ) (keys : List FormatKey) → Cover 0 count keys → 0 < count → HasColumn keys 0 0
first-column count [] cover some = absurd (omega (arith, cover, some))
first-column count (k ∷ keys) cover some = record { is_cell = omega arith; from = omega arith; to = cover.0 }

begins-last : (from count : ℕ) (keys : List FormatKey) → Cover from count keys → begin_from from (length keys) keys ≡ count
begins-last from count [] cover = cover
begins-last from count (k ∷ keys) cover = begins-last k.end count keys cover.1

begins-rise : (from count cell : ℕ) (keys : List FormatKey) → Cover from count keys → cell < length keys
    → begin_from from cell keys < begin_from from (suc cell) keys
begins-rise from count cell [] cover within = absurd (omega (arith, within))
begins-rise from count zero (k ∷ keys) cover within = cover.0
begins-rise from count (suc cell) (k ∷ keys) cover within = begins-rise k.end count cell keys cover.1 (omega (arith, within))

pub last-column : (count last : ℕ) (keys : List FormatKey) → Cover 0 count keys → length keys ≡ suc last → HasColumn keys last (count - 1)
last-column count last keys cover is =
    let ends : begin_from 0 (suc last) keys ≡ count = ap (λ (n : ℕ). begin_from 0 n keys) (sym is) ∙ begins-last 0 count keys cover in
    let rises = begins-rise 0 count last keys cover (omega (arith, is)) in
    record { is_cell = omega (arith, is); from = omega (arith, ends, rises); to = omega (arith, ends, rises) }

-- none begins behind the last column
pub begins-most : (from count cell : ℕ) (keys : List FormatKey) → Cover from count keys → cell ≤ length keys → begin_from from cell keys ≤ count
begins-most from count zero keys cover within = cover-few from count keys cover
begins-most from count (suc cell) [] cover within = absurd (omega (arith, within))
begins-most from count (suc cell) (k ∷ keys) cover within = begins-most k.end count cell keys cover.1 (omega (arith, within))

pub keys-some : (count : ℕ) (cells : List CellLeft) → Cover 0 count (keys_in cells) → 0 < count → 0 < length cells
keys-some count [] cover some = absurd (omega (arith, cover, some))
keys-some count (c ∷ cells) cover some = omega arith

-- a column is a further one of a cell that goes through
further-by : (is : Bool) (first : Bool) (own : Left) (one : Column) → is_within (if is then Through first own one else Free) ≡ (is && not first)
further-by true first own one = refl
further-by false first own one = refl

not-first-by : (is : Bool) (begin at : ℕ) → nat_lt begin at ≡ is → not (at - begin == 0) ≡ is
not-first-by true begin at is = let less = ltb-true begin at is in ap not (ne_eqb (at - begin) 0 (λ none. omega (arith, less, none)))
not-first-by false begin at is =
    let most = ltb-false begin at is in
    let none : at - begin ≡ 0 = omega (arith, most) in ap (λ (n : ℕ). not (n == 0)) none

not-first : (begin at : ℕ) → not (at - begin == 0) ≡ nat_lt begin at
not-first begin at = not-first-by (nat_lt begin at) begin at refl

pub within-is : (begin at : ℕ) (own : Left) (one : Column) → is_within (over_of (at - begin == 0) own one) ≡ (nat_lt 0 own.rows && nat_lt begin at)
within-is begin at own one =
    further-by (goes_on own) (at - begin == 0) own one ∙ ap (λ (b : Bool). goes_on own && b) (not-first begin at)

-- where the next cell begins
pub begin-of : (from : ℕ) (cells : List CellLeft) (cell : ℕ) (c : CellLeft) → cell < length cells
    → (get_or cells cell c).key.end ≡ begin_from from (suc cell) (keys_in cells)
begin-of from [] cell c within = absurd (omega (arith, within))
begin-of from (x ∷ cells) zero c within = refl
begin-of from (x ∷ cells) (suc cell) c within = begin-of x.key.end cells cell c (omega (arith, within))
