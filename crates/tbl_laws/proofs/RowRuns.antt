-- The pieces of a line of a row on which entries run on stand apart.
use Rattle.std.proofs.Common.{◌≡◌, ℕ, zero, suc, ◌+◌, ◌-◌, ◌<◌, ◌≤◌, Bool, true, false, ◌&&◌, ◌==◌, List, [], ◌∷◌, ◌++◌, length, take, drop, map, Option, Some, None, refl, sym, ap, subst, ◌∙◌, arith, length-append, if◌then◌else◌}
use Rattle.std.proofs.lemmas.List.Sums.{sum_by-cons}
use Rattle.input_source.specs.Bytes.{blank}
use Rattle.tbl_format.specs.Cells.{by_cells}
use Rattle.tbl_format.specs.declared.format.FormatKey.{FormatKey}
use Rattle.tbl_layout.specs.Columns.{bar_place, passes, place_in, stands}
use Rattle.tbl_layout.specs.DataLines.{sign_byte}
use Rattle.tbl_layout.specs.Entries.{Above, Block, Content, Repeated, Ruled, Run, Short, Text}
use Rattle.tbl_layout.specs.Spans.{as_one, cells_of}
use Rattle.tbl_layout.specs.Widths.{edge_bars, inner_bars}
use Rattle.tbl_layout.specs.declared.columns.Column.{Column}
use Rattle.tbl_layout.specs.declared.columns.Stands.{Stands}
use Rattle.tbl_layout.specs.declared.data_lines.RuleSign.{RuleSign}
use Rattle.tbl_options.specs.declared.options.Boxing.{Boxing}
use Rattle.tbl_lines.specs.CellsLeft.{Left}
use Rattle.tbl_lines.specs.LinesLeft.{Shown, all_cut, bars_there, between, crossed_or_not, drawn_at, end_by, first_bars, joined_here, place_of_text, row_fronts, row_line, row_shown, rule_here, rule_of, runs_on, same_sign, shown, shown_by, shown_cell}
use Rattle.tbl_lines.specs.PictureLines.{Cell, Sheet, crossing, repeated, with_fronts}
use Rattle.tbl_lines.specs.RowsLeft.{first_of}
use Rattle.tbl_lines.proofs.CutLines.{shown-still}
use Rattle.tbl_laws.specs.PiecesApart.{InTurn, IsApart, RowStands, StandApart, columns_of_cells, fronts_of_row, shown_in_row}
use Rattle.tbl_laws.specs.RunningOn.{Alike, AreAlike, FreeToStop, HasColumns, HaveColumns, Runs, Same, all_filled, cut_in_row, filled, row_filled}
use Rattle.tbl_laws.proofs.RowApart.{row-stands}
use Rattle.tbl_laws.proofs.RunsApart.{line-apart}

-- bars have columns
bars-columns : (n at : ℕ) → HasColumns (first_of (bars_there at n))
bars-columns zero at = tt
bars-columns (suc n) at = omega arith

crossed-columns : (joined : Option RuleSign) (n : ℕ) (c d : Column) → HasColumns (first_of (crossed_or_not joined n c d))
crossed-columns joined zero c d = tt
crossed-columns None (suc n) c d = bars-columns (suc n) (bar_place (suc n) c d)
crossed-columns (Some sign) (suc n) c d =
    let rule = repeated (sign_byte sign) (d.start - (bar_place (suc n) c d + suc n)) in
    omega (arith, sum_by-cons (λ (run : Run). run.columns) (repeated crossing (suc n)) (rule ∷ []))

have-append : (xs ys : List Cell) → HaveColumns xs → HaveColumns ys → HaveColumns (xs ++ ys)
have-append [] ys have more = more
have-append (x ∷ xs) ys have more = (have.0, have-append xs ys have.1 more)

between-columns : (boxing : Boxing) (cells : List Left) (columns : List Column) → HaveColumns (between boxing cells columns)
between-columns boxing [] columns = tt
between-columns boxing (own ∷ []) columns = tt
between-columns boxing (own ∷ next ∷ cells) [] = tt
between-columns boxing (own ∷ next ∷ cells) (c ∷ []) = tt
between-columns boxing (own ∷ next ∷ cells) (c ∷ d ∷ columns) = (
  crossed-columns (joined_here own next) (inner_bars boxing next.key.bars) c d,
  between-columns boxing (next ∷ cells) (d ∷ columns),
)

between-few : (boxing : Boxing) (own : Left) (cells : List Left) (c : Column) (columns : List Column)
    → length (between boxing (own ∷ cells) (c ∷ columns)) + 1 ≤ length (row_shown boxing (own ∷ cells) (c ∷ columns))
between-few boxing own [] c columns = omega arith
between-few boxing own (next ∷ cells) c [] = omega arith
between-few boxing own (next ∷ cells) c (d ∷ columns) = omega (arith, between-few boxing next cells d columns)

module _ (boxing : Boxing) (last width : ℕ) where
  abbrev end : Cell
  end = let right = edge_bars boxing last in bars_there (width - right) right

  fronts-columns : (t : Bool) (left : ℕ) (cells : List Left) (columns : List Column)
      → HaveColumns (if t then bars_there 0 left ∷ between boxing cells columns ++ end ∷ [] else [])
  fronts-columns true left cells columns =
      let right = edge_bars boxing last in (
        bars-columns left 0,
        have-append (between boxing cells columns) (end ∷ []) (between-columns boxing cells columns) (bars-columns right (width - right), tt),
      )
  fronts-columns false left cells columns = tt

  fronts-few : (t : Bool) (left : ℕ) (own : Left) (cells : List Left) (c : Column) (columns : List Column)
      → length (if t then bars_there 0 left ∷ between boxing (own ∷ cells) (c ∷ columns) ++ end ∷ [] else [])
      ≤ length (row_shown boxing (own ∷ cells) (c ∷ columns)) + 1
  fronts-few true left own cells c columns =
      omega (arith, between-few boxing own cells c columns, length-append (between boxing (own ∷ cells) (c ∷ columns)) (end ∷ []))
  fronts-few false left own cells c columns = omega arith

-- what runs on is a text or a block, on its own line
no-end : (a b : Bool) → (a && (b && false)) ≡ true → ⊥
no-end true true is = cc is
no-end true false is = cc is
no-end false b is = cc is

second-true : (a b d : Bool) → (a && (b && d)) ≡ true → b ≡ true
second-true true true d is = refl
second-true true false d is = is
second-true false b d is = absurd (cc is)

here-is : (t : Bool) (x : Shown) → t ≡ true → (if t then x else record x { runs = [] }) ≡ x
here-is true x is = refl
here-is false x is = absurd (cc is)

abbrev no_sign : Option RuleSign
no_sign = None

both-none : (t : Bool) → (if t then no_sign else no_sign) ≡ no_sign
both-none true = refl
both-none false = refl

module _ (own : Left) (c : Column) where
  abbrev in_full : Left
  in_full = record own { field = Repeated blank }

  runs-by : (f : Content) → own.field ≡ f → runs_on own c ≡ true
      → (own.key.has_no_width && (own.lead == 0 && passes c own.key.key (stands own.key.key f))) ≡ true
  runs-by f is run =
      subst (λ (g : Content). (own.key.has_no_width && (own.lead == 0 && passes c own.key.key (stands own.key.key g))) ≡ true) is run

  no-rule : (f : Content) → own.field ≡ f → runs_on own c ≡ true → rule_of f ≡ None
  no-rule (Text bytes) is run = refl
  no-rule (Block measure lines) is run = refl
  no-rule (Ruled sign) is run = absurd (no-end own.key.has_no_width (own.lead == 0) (runs-by (Ruled sign) is run))
  no-rule Short is run = refl
  no-rule (Repeated b) is run = refl
  no-rule Above is run = refl

  rule-by : (t : Bool) → runs_on own c ≡ t → rule_here (if t then in_full else own) ≡ rule_here own
  rule-by true run =
      both-none (own.lead == 0)
      ∙ sym (ap (λ (r : Option RuleSign). if own.lead == 0 then r else None) (no-rule own.field refl run) ∙ both-none (own.lead == 0))
  rule-by false run = refl

  pub rule-filled : rule_here (filled own c) ≡ rule_here own
  rule-filled = rule-by (runs_on own c) refl

  key-by : (t : Bool) → (if t then in_full else own).key ≡ own.key
  key-by true = refl
  key-by false = refl

  pub key-filled : (filled own c).key ≡ own.key
  key-filled = key-by (runs_on own c)

  module _ (to end : ℕ) where
    abbrev wide : Shown
    wide = drawn_at c.start blank c.width

    begins-alike : runs_on own c ≡ true → (shown_by (Repeated blank) in_full c to).at ≡ c.start + place_of_text own c
    begins-alike run =
        let here = ap (λ (x : Shown). x.at) (here-is (own.lead == 0) wide (second-true own.key.has_no_width (own.lead == 0) (passes c own.key.key (stands own.key.key own.field)) run)) in
        let first : place_of_text own c ≡ 0 =
        ap (λ (t : Bool). if t then 0 else place_in c own.key.key (stands own.key.key own.field)) run in
        here ∙ omega (arith, first)

    some-shown : runs_on own c ≡ true → 0 < length (shown_by (Repeated blank) in_full c to).runs
    some-shown run =
        subst (λ (x : Shown). 0 < length x.runs)
        (sym (here-is (own.lead == 0) wide (second-true own.key.has_no_width (own.lead == 0) (passes c own.key.key (stands own.key.key own.field)) run)))
        (omega arith)

    itself : runs_on own c ≡ true → (if runs_on own c then Some own else None) ≡ Some own
    itself run = ap (λ (t : Bool). if t then Some own else None) run

    no-text : (f : Content) → stands own.key.key f ≡ stands own.key.key Above → own.field ≡ f → runs_on own c ≡ true → ⊥
    no-text f none is run =
        no-end own.key.has_no_width (own.lead == 0)
        (subst (λ (e : Stands). (own.key.has_no_width && (own.lead == 0 && passes c own.key.key e)) ≡ true) none (runs-by f is run))

    running-alike : (f : Content) → own.field ≡ f → runs_on own c ≡ true → Alike (shown_by (Repeated blank) in_full c to) (shown_by f own c end)
    running-alike (Text bytes) is run = Runs own (itself run) refl (begins-alike run) (some-shown run)
    running-alike (Block measure lines) is run = Runs own (itself run) refl (begins-alike run) (some-shown run)
    running-alike (Ruled sign) is run = absurd (no-text (Ruled sign) refl is run)
    running-alike Short is run = absurd (no-text Short refl is run)
    running-alike (Repeated b) is run = absurd (no-text (Repeated b) refl is run)
    running-alike Above is run = absurd (no-text Above refl is run)

    alike-by : (t : Bool) → runs_on own c ≡ t → to ≡ end → Alike (shown (if t then in_full else own) c to) (shown own c end)
    alike-by true run same = running-alike own.field refl run
    alike-by false run same = Same (shown-still own.field own c end run) (ap (λ (n : ℕ). shown own c n) same)

    pub cell-alike : to ≡ end → Alike (shown (filled own c) c to) (shown own c end)
    cell-alike same = alike-by (runs_on own c) refl same

-- rows of such cells
joined-filled : (own next : Left) (c d : Column) → joined_here (filled own c) (filled next d) ≡ joined_here own next
joined-filled own next c d =
    ap (λ (r : Option RuleSign). same_sign r (rule_here (filled next d))) (rule-filled own c)
    ∙ ap (λ (r : Option RuleSign). same_sign (rule_here own) r) (rule-filled next d)

bars-filled : (own : Left) (c : Column) → (filled own c).key.bars ≡ own.key.bars
bars-filled own c = ap (λ (k : FormatKey). k.bars) (key-filled own c)

pub keys-filled : (cells : List Left) (columns : List Column)
    → map (λ (c : Left). c.key) (all_filled cells columns) ≡ map (λ (c : Left). c.key) cells
keys-filled [] columns = refl
keys-filled (own ∷ cells) [] = refl
keys-filled (own ∷ cells) (c ∷ columns) =
    ap (λ (k : FormatKey). k ∷ map (λ (x : Left). x.key) (all_filled cells columns)) (key-filled own c)
    ∙ ap (λ (keys : List FormatKey). own.key ∷ keys) (keys-filled cells columns)

first-filled : (cells : List Left) (columns : List Column) → first_bars (all_filled cells columns) ≡ first_bars cells
first-filled [] columns = refl
first-filled (own ∷ cells) [] = refl
first-filled (own ∷ cells) (c ∷ columns) = bars-filled own c

module _ (boxing : Boxing) where
  row-alike : (cells : List Left) (columns : List Column)
      → AreAlike (row_shown boxing (all_filled cells columns) columns) (row_shown boxing cells columns)
  row-alike [] columns = tt
  row-alike (own ∷ cells) [] = tt
  row-alike (own ∷ []) (c ∷ columns) = let to = c.start + c.width in (cell-alike own c to to refl, tt)
  row-alike (own ∷ next ∷ cells) (c ∷ []) = let to = c.start + c.width in (cell-alike own c to to refl, tt)
  row-alike (own ∷ next ∷ cells) (c ∷ d ∷ columns) =
      let joined = joined_here (filled own c) (filled next d) in
      let same = ap (λ (n : ℕ). end_by joined (inner_bars boxing n) c d) (bars-filled next d)
      ∙ ap (λ (r : Option RuleSign). end_by r (inner_bars boxing next.key.bars) c d) (joined-filled own next c d) in (
        cell-alike own c (end_by joined (inner_bars boxing (filled next d).key.bars) c d)
            (end_by (joined_here own next) (inner_bars boxing next.key.bars) c d) same,
        row-alike (next ∷ cells) (d ∷ columns),
      )

  between-filled : (cells : List Left) (columns : List Column) → between boxing (all_filled cells columns) columns ≡ between boxing cells columns
  between-filled [] columns = refl
  between-filled (own ∷ cells) [] = refl
  between-filled (own ∷ []) (c ∷ columns) = refl
  between-filled (own ∷ next ∷ cells) (c ∷ []) = refl
  between-filled (own ∷ next ∷ cells) (c ∷ d ∷ columns) =
      let joined = joined_here (filled own c) (filled next d) in
      let others = between boxing (all_filled (next ∷ cells) (d ∷ columns)) (d ∷ columns) in
      ap (λ (n : ℕ). crossed_or_not joined (inner_bars boxing n) c d ∷ others) (bars-filled next d)
      ∙ ap (λ (r : Option RuleSign). crossed_or_not r (inner_bars boxing next.key.bars) c d ∷ others) (joined-filled own next c d)
      ∙ ap (λ (fronts : List Cell). crossed_or_not (joined_here own next) (inner_bars boxing next.key.bars) c d ∷ fronts)
      (between-filled (next ∷ cells) (d ∷ columns))

fronts-filled : (s : Sheet) (last : ℕ) (cells : List Left) (columns : List Column)
    → row_fronts s last (all_filled cells columns) columns ≡ row_fronts s last cells columns
fronts-filled s last cells columns =
    let boxing = s.bars.boxing in
    let right = edge_bars boxing last in
    let end = bars_there (s.width - right) right in
    ap (λ (n : ℕ). if s.bars.has_any
    then bars_there 0 (edge_bars boxing n) ∷ between boxing (all_filled cells columns) columns ++ end ∷ [] else []) (first-filled cells columns)
    ∙ ap (λ (fronts : List Cell). if s.bars.has_any then bars_there 0 (edge_bars boxing (first_bars cells)) ∷ fronts ++ end ∷ [] else [])
    (between-filled boxing cells columns)

-- a line of a row
module _ (s : Sheet) (last : ℕ) where
  row-apart : (own : Left) (cells : List Left) (c : Column) (columns : List Column)
      → FreeToStop s (row_shown s.bars.boxing (own ∷ cells) (c ∷ columns))
      → StandApart s.width 0 (with_fronts (row_fronts s last (all_filled (own ∷ cells) (c ∷ columns)) (c ∷ columns))
      (map shown_cell (row_shown s.bars.boxing (all_filled (own ∷ cells) (c ∷ columns)) (c ∷ columns))))
      → StandApart s.width 0 (with_fronts (row_fronts s last (own ∷ cells) (c ∷ columns))
      (map shown_cell (all_cut s (row_fronts s last (own ∷ cells) (c ∷ columns)) (row_shown s.bars.boxing (own ∷ cells) (c ∷ columns)))))
  row-apart own cells c columns free apart =
      let boxing = s.bars.boxing in
      let filled_cells = all_filled (own ∷ cells) (c ∷ columns) in
      let left = edge_bars boxing own.key.bars in
      line-apart s (row_fronts s last (own ∷ cells) (c ∷ columns)) (row_shown boxing filled_cells (c ∷ columns))
      (row_shown boxing (own ∷ cells) (c ∷ columns)) (row-alike boxing (own ∷ cells) (c ∷ columns)) free
      (fronts-columns boxing last s.width s.bars.has_any left (own ∷ cells) (c ∷ columns))
      (fronts-few boxing last s.width s.bars.has_any left own cells c columns)
      (subst (λ (fronts : List Cell). StandApart s.width 0 (with_fronts fronts (map shown_cell (row_shown boxing filled_cells (c ∷ columns)))))
      (fronts-filled s last (own ∷ cells) (c ∷ columns)) apart)

columns-filled : (s : Sheet) (cells : List Left) → columns_of_cells s (row_filled s cells) ≡ columns_of_cells s cells
columns-filled s cells = ap (λ (keys : List FormatKey). cells_of keys s.columns) (keys-filled cells (columns_of_cells s cells))

pieces-apart : (s : Sheet) (last : ℕ) (cells : List Left) → RowStands s last (row_filled s cells) → FreeToStop s (shown_in_row s cells)
    → StandApart s.width 0 (with_fronts (fronts_of_row s last cells) (map shown_cell (cut_in_row s last cells)))
pieces-apart s last [] stand free = absurd (omega (arith, stand.some))
pieces-apart s last (own ∷ cells) stand free =
    let boxing = s.bars.boxing in
    let row = row_filled s (own ∷ cells) in
    let count = own.key.end - 0 in
    row-apart s last own cells (as_one (take count s.columns))
    (map as_one (by_cells own.key.end (map (λ (c : Left). c.key) cells) (drop count s.columns))) free
    (subst (λ (columns : List Column). StandApart s.width 0 (with_fronts (row_fronts s last row columns) (map shown_cell (row_shown boxing row columns))))
    (columns-filled s (own ∷ cells)) (row-stands s last row stand))

pub running-apart : (s : Sheet) (last : ℕ) (cells : List Left) → RowStands s last (row_filled s cells) → FreeToStop s (shown_in_row s cells)
    → InTurn (cut_in_row s last cells) → IsApart s.width (row_line s last cells) (fronts_of_row s last cells) (cut_in_row s last cells)
running-apart s last cells stand free turn = record {
  is = refl;
  apart = subst (λ (shown : List Shown). StandApart s.width 0 (with_fronts (fronts_of_row s last cells) (map shown_cell shown))) (sym turn)
      (pieces-apart s last cells stand free);
}
