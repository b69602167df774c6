-- On a line of a row nothing stands in a cell between what runs on and where that stops.
use Rattle.std.proofs.Common.{◌≡◌, ℕ, zero, suc, ◌+◌, ◌-◌, ◌<◌, ◌≤◌, Bool, true, false, ◌&&◌, ◌==◌, List, [], ◌∷◌, length, take, drop, get_or, map, Option, Some, None, inl, refl, sym, ap, subst, ◌∙◌, arith, length-drop, if◌then◌else◌, unwrap_or, drop-drop}
use Rattle.std.specs.List.{AllByRecursion}
use Rattle.std.proofs.lemmas.List.{get_or_past}
use Rattle.tbl_format.proofs.CellColumns.{columns_behind, columns_of-behind}
use Rattle.tbl_format.specs.Cells.{AreCells, by_cells}
use Rattle.tbl_format.specs.Format.{columns_of_keys}
use Rattle.tbl_format.specs.declared.format.FormatKey.{FormatKey}
use Rattle.tbl_laws.proofs.RowRuns.{keys-filled}
use Rattle.tbl_laws.specs.PiecesApart.{BeginsBehind, CellsCover, columns_of_cells, shown_in_row}
use Rattle.tbl_laws.specs.RunningOn.{AreFree, FreeToStop, IsClear, ShowIfUsed, ShowsNothing, StopInFront, row_filled}
use Rattle.tbl_layout.proofs.CellsAsOne.{as_one-start}
use Rattle.tbl_layout.proofs.FieldsFit.{end-far}
use Rattle.tbl_layout.specs.Columns.{passes, place_of_rule, stands, unsplit, widest_entry}
use Rattle.tbl_layout.specs.DataLines.{sign_byte}
use Rattle.tbl_layout.specs.Entries.{Above, Block, Content, Repeated, Ruled, Run, Short, Text, is_entry, lines_of_field}
use Rattle.tbl_layout.specs.LayoutLaws.{AreBehind, StandInOrder, first_start}
use Rattle.tbl_layout.specs.Spans.{as_one}
use Rattle.tbl_layout.specs.declared.columns.Column.{Column}
use Rattle.tbl_layout.specs.declared.columns.Stands.TheVariants.{Nowhere}
use Rattle.tbl_layout.specs.declared.data_lines.RuleSign.TheVariants.{Single}
use Rattle.tbl_lines.proofs.EntriesFit.{LineFits, lines-fit}
use Rattle.tbl_lines.specs.CellsLeft.{Left}
use Rattle.tbl_lines.specs.LinesLeft.{Shown, drawn_at, end_of_columns, row_shown, runs_on, shown, shown_by}
use Rattle.tbl_lines.specs.PictureLines.{Sheet}
use Rattle.tbl_options.specs.declared.options.Boxing.{Boxing}
use Rattle.tbl_text.specs.BlockLines.{lines_of, widest}
use Rattle.tbl_text.specs.BlockWords.{parts_of}

abbrev keys_of : List Left → List FormatKey
keys_of cells = map (λ (c : Left). c.key) cells

-- what a cell shows begins in its columns, and runs on if it has no width
first-true : (a b : Bool) → (a && b) ≡ true → a ≡ true
first-true true b is = refl
first-true false b is = absurd (cc is)

here-at : (t : Bool) (x : Shown) → (if t then x else record x { runs = [] }).at ≡ x.at
here-at true x = refl
here-at false x = refl

here-still : (t : Bool) (x : Shown) → x.runs_on ≡ None → (if t then x else record x { runs = [] }).runs_on ≡ None
here-still true x none = none
here-still false x none = none

module _ (own : Left) (c : Column) (end : ℕ) where
  behind-by : (f : Content) → c.start ≤ (shown_by f own c end).at
  behind-by (Text bytes) = omega arith
  behind-by (Block measure lines) = omega arith
  behind-by (Ruled sign) = omega (arith, here-at (own.lead == 0) (drawn_at c.start (sign_byte sign) (end - c.start)))
  behind-by Short =
      omega (arith, here-at (own.lead == 0) (drawn_at (c.start + place_of_rule c own.key.key) (sign_byte Single) (widest_entry c.needs)))
  behind-by (Repeated b) = omega (arith, here-at (own.lead == 0) (drawn_at c.start b c.width))
  behind-by Above = omega arith

  shown-behind : c.start ≤ (shown own c end).at
  shown-behind = behind-by own.field

  own-by : (t : Bool) (other : Left) → runs_on own c ≡ t → (if t then Some own else None) ≡ Some other
      → (own ≡ other) × (own.key.has_no_width ≡ true)
  own-by true other run is = (
    ap (λ (o : Option Left). unwrap_or o own) is,
    first-true own.key.has_no_width (own.lead == 0 && passes c own.key.key (stands own.key.key own.field)) run,
  )
  own-by false other run is = absurd (cc is)

  not-own : (x : Shown) (other : Left) → x.runs_on ≡ None → (if own.lead == 0 then x else record x { runs = [] }).runs_on ≡ Some other
      → (own ≡ other) × (own.key.has_no_width ≡ true)
  not-own x other none is = absurd (cc (sym (here-still (own.lead == 0) x none) ∙ is))

  runs-own : (f : Content) (other : Left) → (shown_by f own c end).runs_on ≡ Some other → (own ≡ other) × (own.key.has_no_width ≡ true)
  runs-own (Text bytes) other is = own-by (runs_on own c) other refl is
  runs-own (Block measure lines) other is = own-by (runs_on own c) other refl is
  runs-own (Ruled sign) other is = not-own (drawn_at c.start (sign_byte sign) (end - c.start)) other refl is
  runs-own Short other is =
      not-own (drawn_at (c.start + place_of_rule c own.key.key) (sign_byte Single) (widest_entry c.needs)) other refl is
  runs-own (Repeated b) other is = not-own (drawn_at c.start b c.width) other refl is
  runs-own Above other is = own-by (runs_on own c) other refl is

-- a column begins behind those in front of it
places : (boxing : Boxing) (columns : List Column) (n m none : ℕ) → AreBehind boxing columns → n ≤ m → m < length columns
    → get_or (map (λ c. c.start) columns) n none ≤ first_start 0 (drop m columns)
places boxing [] n m none behind le less = absurd (omega (arith, less))
places boxing (c ∷ columns) zero zero none behind le less = omega arith
places boxing (c ∷ []) zero (suc m) none behind le less = absurd (omega (arith, less))
places boxing (c ∷ d ∷ columns) zero (suc m) none behind le less =
    omega (arith, behind.0, places boxing (d ∷ columns) 0 m none behind.1 (omega arith) (omega (arith, less)))
places boxing (c ∷ columns) (suc n) zero none behind le less = absurd (omega (arith, le))
places boxing (c ∷ []) (suc n) (suc m) none behind le less = absurd (omega (arith, less))
places boxing (c ∷ d ∷ columns) (suc n) (suc m) none behind le less =
    places boxing (d ∷ columns) n m none behind.1 (omega (arith, le)) (omega (arith, less))

as-start : (n : ℕ) (columns : List Column) → 0 < n → 0 < length columns → (as_one (take n columns)).start ≡ first_start 0 columns
as-start zero columns some more = absurd (omega (arith, some))
as-start (suc n) [] some more = absurd (omega (arith, more))
as-start (suc n) (c ∷ columns) some more = as_one-start c (take n columns)

begins-all : (runs : List Run) (place at : ℕ) → place ≤ at → BeginsBehind place at runs
begins-all [] place at le = tt
begins-all (run ∷ runs) place at le = le

-- the columns that are left behind so many
record Behind (from : ℕ) (keys : List FormatKey) (columns : List Column) : Type 0 where
  order : AreCells from keys
  all : columns_behind from keys ≡ from + length columns

next : (from : ℕ) (k : FormatKey) (keys : List FormatKey) (columns : List Column) → Behind from (k ∷ keys) columns
    → Behind k.end keys (drop (k.end - from) columns)
next from k keys columns b = record {
  order = b.order.1;
  all = omega (arith, b.all, b.order.0, end-far k.end keys b.order.1, length-drop (k.end - from) columns);
}

-- the cells behind some columns, by these
module _ (boxing : Boxing) where
  abbrev row_from : ℕ → List Left → List Column → List Shown
  row_from from cells columns = row_shown boxing cells (map as_one (by_cells from (keys_of cells) columns))

  module _ (place stop : ℕ) where
    abbrev Far : ℕ → List Column → Type 0
    Far from columns = (m : ℕ) → stop ≤ from + m → m < length columns → place ≤ first_start 0 (drop m columns)

    used-by : (t : Bool) (own : Left) (from : ℕ) (keys : List FormatKey) (columns : List Column) (end : ℕ) → own.is_used ≡ t
        → Behind from (own.key ∷ keys) columns → (own.is_used ≡ true → stop ≤ from) → (own.is_used ≡ false → ShowsNothing own)
        → Far from columns
        → (let s = shown own (as_one (take (own.key.end - from) columns)) end in BeginsBehind place s.at s.runs)
    used-by true own from keys columns end is b free nothing far =
        let n = own.key.end - from in
        let c = as_one (take n columns) in
        let some : 0 < length columns = omega (arith, b.all, b.order.0, end-far own.key.end keys b.order.1) in
        let start = as-start n columns (omega (arith, b.order.0)) some in
        let first = far 0 (omega (arith, free is)) some in
        begins-all (shown own c end).runs place (shown own c end).at (omega (arith, first, start, shown-behind own c end))
    used-by false own from keys columns end is b free nothing far =
        let c = as_one (take (own.key.end - from) columns) in
        subst (λ (runs : List Run). BeginsBehind place (shown own c end).at runs) (sym (nothing is c end)) tt

    far-next : (from : ℕ) (k : FormatKey) (keys : List FormatKey) (columns : List Column) → Behind from (k ∷ keys) columns → Far from columns
        → Far k.end (drop (k.end - from) columns)
    far-next from k keys columns b far m before less =
        let n = k.end - from in
        subst (λ (cs : List Column). place ≤ first_start 0 cs) (sym (drop-drop m n columns))
        (far (n + m) (omega (arith, before, b.order.0)) (omega (arith, less, length-drop n columns)))

    reach : (cells : List Left) (from : ℕ) (columns : List Column) → Behind from (keys_of cells) columns → AreFree stop from cells
        → ShowIfUsed cells → Far from columns
        → AllByRecursion (λ other. BeginsBehind place other.at other.runs) (row_from from cells columns)
    reach [] from columns b free shows far = tt
    reach (own ∷ []) from columns b free shows far =
        let c = as_one (take (own.key.end - from) columns) in
        (used-by own.is_used own from [] columns (c.start + c.width) refl b free.0 shows.0 far, tt)
    reach (own ∷ other ∷ cells) from columns b free shows far = (
      used-by own.is_used own from (keys_of (other ∷ cells)) columns _ refl b free.0 shows.0 far,
      reach (other ∷ cells) own.key.end (drop (own.key.end - from) columns) (next from own.key (keys_of (other ∷ cells)) columns b) free.1 shows.1
          (far-next from own.key (keys_of (other ∷ cells)) columns b far),
    )

-- so all of that is clear
all-clear : (stop : ℕ) (cells : List Shown) → AllByRecursion (λ other. BeginsBehind stop other.at other.runs) cells
    → AllByRecursion (λ other. IsClear stop other) cells
all-clear stop [] all = tt
all-clear stop (c ∷ cells) all = (inl all.0, all-clear stop cells all.1)

-- in a row
module _ (s : Sheet) (order : StandInOrder s.bars s.width s.columns) where
  record Left_of (from : ℕ) (columns : List Column) : Type 0 where
    same : (m : ℕ) → drop m columns ≡ drop (from + m) s.columns
    size : from + length columns ≡ length s.columns

  left-next : (from : ℕ) (k : FormatKey) (keys : List FormatKey) (columns : List Column) → Behind from (k ∷ keys) columns → Left_of from columns
      → Left_of k.end (drop (k.end - from) columns)
  left-next from k keys columns b left = record {
    same = λ m.
        let n = k.end - from in
        let sum : from + (n + m) ≡ k.end + m = omega (arith, b.order.0) in
        drop-drop m n columns ∙ left.same (n + m) ∙ ap (λ (i : ℕ). drop i s.columns) sum;
    size = omega (arith, left.size, b.all, b.order.0, end-far k.end keys b.order.1, length-drop (k.end - from) columns);
  }

  far-of : (stop from : ℕ) (columns : List Column) → Left_of from columns → (m : ℕ) → stop ≤ from + m → m < length columns
      → end_of_columns s stop ≤ first_start 0 (drop m columns)
  far-of stop from columns left m before less =
      subst (λ (cs : List Column). end_of_columns s stop ≤ first_start 0 cs) (sym (left.same m))
      (places s.bars.boxing s.columns stop (from + m) s.width order.between before (omega (arith, less, left.size)))

  free-from : (cells : List Left) (from : ℕ) (columns : List Column) → Behind from (keys_of cells) columns → Left_of from columns
      → ShowIfUsed cells → StopInFront cells → FreeToStop s (row_from s.bars.boxing from cells columns)
  free-from [] from columns b left shows stop = tt
  free-from (own ∷ []) from columns b left shows stop = (λ other is. tt, tt)
  free-from (own ∷ next_cell ∷ cells) from columns b left shows stop =
      let keys = keys_of (next_cell ∷ cells) in
      let c = as_one (take (own.key.end - from) columns) in
      let rest = drop (own.key.end - from) columns in
      let further = next from own.key keys columns b in
      let more = left-next from own.key keys columns b left in (
        λ other is.
            let runs = runs-own own c _ own.field other is in
            subst (λ (x : Left). AllByRecursion (λ o. IsClear (end_of_columns s x.stop) o)
            (row_from s.bars.boxing own.key.end (next_cell ∷ cells) rest)) runs.0
            (all-clear (end_of_columns s own.stop) (row_from s.bars.boxing own.key.end (next_cell ∷ cells) rest)
            (reach s.bars.boxing (end_of_columns s own.stop) own.stop (next_cell ∷ cells) own.key.end rest further (stop.0 runs.1) shows.1
            (far-of own.stop own.key.end rest more))),
        free-from (next_cell ∷ cells) own.key.end rest further more shows.1 stop.1,
      )

pub free-to-stop : (s : Sheet) (cells : List Left) → StandInOrder s.bars s.width s.columns → CellsCover s (row_filled s cells) → ShowIfUsed cells
    → StopInFront cells → FreeToStop s (shown_in_row s cells)
free-to-stop s cells order cover shows stop =
    let same = keys-filled cells (columns_of_cells s cells) in
    let keys = keys_of cells in
    let all : columns_of_keys keys ≡ length s.columns = sym (ap columns_of_keys same) ∙ cover.all in
    free-from s order cells 0 s.columns
    (record { order = subst (AreCells 0) same cover.order; all = omega (arith, all, columns_of-behind keys) })
    (record { same = λ m. let at : m ≡ 0 + m = omega arith in ap (λ (n : ℕ). drop n s.columns) at; size = omega arith }) shows stop

-- a cell without an entry shows nothing
nothing-by : (t : Bool) (runs : List Run) → runs ≡ [] → (if t then runs else []) ≡ []
nothing-by true runs is = is
nothing-by false runs is = refl

abbrev no_lines : List (List Run)
no_lines = []

nothing-of : (f : Content) (own : Left) (c : Column) (end : ℕ) → is_entry f ≡ false → (shown_by f own c end).runs ≡ []
nothing-of (Text []) own c end none =
    nothing-by (own.lead == 0) (get_or no_lines own.gone []) (get_or_past no_lines own.gone [] (omega arith))
nothing-of (Text (b ∷ bytes)) own c end none = absurd (cc none)
nothing-of (Block measure lines) own c end none =
    let k = own.key.key in
    let parts = parts_of lines in
    let runs = get_or (lines_of_field k (Block measure lines)) own.gone [] in
    nothing-by (own.lead == 0) runs
    (subst (λ (t : Bool). LineFits (if t then unsplit k (widest (lines_of measure parts)) else Nowhere) runs) none
    (lines-fit k (Block measure lines) own.gone))
nothing-of (Ruled sign) own c end none = absurd (cc none)
nothing-of Short own c end none = absurd (cc none)
nothing-of (Repeated b) own c end none = absurd (cc none)
nothing-of Above own c end none =
    nothing-by (own.lead == 0) (get_or no_lines own.gone []) (get_or_past no_lines own.gone [] (omega arith))

pub shows-nothing : (own : Left) → is_entry own.field ≡ false → ShowsNothing own
shows-nothing own none c end = nothing-of own.field own c end none
