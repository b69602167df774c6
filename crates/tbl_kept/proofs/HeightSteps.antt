-- The heights of rows, one row after another.
use Rattle.std.proofs.Common.{◌≡◌, ℕ, zero, suc, ◌+◌, ◌-◌, ◌<◌, ◌≤◌, max, Bool, true, not, List, [], ◌∷◌, ◌++◌, length, map, take, drop, get_or, set, refl, sym, ap, subst, ◌∙◌, arith, append_assoc, length-drop, if◌then◌else◌, Option, None, Some, is_some, drop-set-lt, length-take-le}
use Rattle.std.specs.List.{AllByRecursion, slice_range}
use Rattle.std.proofs.lemmas.List.{drop_all, drop_more, map-append, take_more_set}
use Rattle.tbl_format.specs.Cells.{cell_count, same_cell}
use Rattle.tbl_format.specs.Format.{FormatRow}
use Rattle.tbl_format.specs.FormatRows.{AreWithin}
use Rattle.tbl_format.specs.RowsServed.{row_at}
use Rattle.tbl_format.proofs.CellColumns.{cells-few}
use Rattle.tbl_format.specs.declared.format.FormatKey.{FormatKey}
use Rattle.tbl_layout.specs.Columns.{greatest}
use Rattle.tbl_layout.specs.Entries.{Element as OneElement}
use Rattle.tbl_layout.specs.Heights.{ending_from, ends_in_front_of, height_in_front_of, if_above, lefts_from, rules_between}
use Rattle.tbl_layout.specs.declared.entry.Entry.{Entry}
use Rattle.tbl_kept.specs.KeptHeights.{LeftBehind, cells_of, first_row, raised_behind, seen}
use Rattle.tbl_kept.specs.Rows.{KeptElement, Row, elements_of, rows_in_front}
use Rattle.tbl_kept.specs.RowsInside.{LieBetween, LiesIn, kept_in}
use Rattle.tbl_kept.specs.RowsLaying.{ElementWithin}
use Rattle.tbl_kept.proofs.RowPlaces.{LieBetween-order, drop-kept}
use Rattle.tbl_kept.specs.declared.rows.Element.{Element}
use Rattle.tbl_kept.specs.declared.rows.Element.TheVariants.{Command as OneCommand, Row as OneRow, Rule as OneRule}
use Rattle.tbl_kept.specs.declared.rows.KeptRow.{KeptRow}

-- no cell of no row goes on with one above it
none-above : (found : Option ℕ) → true ≡ not (is_some (if_above [] found))
none-above None = refl
none-above (Some cell) = refl

pub seen-none : (bytes : List ℕ) (bars : ℕ) (keys : List FormatKey) (cell : ℕ)
    → ends_in_front_of keys [] cell ≡ ends_in_front_of keys (seen bytes bars [] []) cell
seen-none bytes bars keys cell = none-above (same_cell [] keys cell)

-- rows in front of which cells end alike are alike
module _ (keys : List FormatKey) (elements others : List OneElement) (same : (cell : ℕ) → ends_in_front_of keys elements cell ≡ ends_in_front_of keys others cell) where
  ending-same : (cell : ℕ) (left : List ℕ) → ending_from keys elements cell left ≡ ending_from keys others cell left
  ending-same cell [] = refl
  ending-same cell (n ∷ left) =
      ap (λ (t : Bool). (if t then n else 0) ∷ ending_from keys elements (suc cell) left) (same cell)
      ∙ ap (λ (ns : List ℕ). (if ends_in_front_of keys others cell then n else 0) ∷ ns) (ending-same (suc cell) left)

  pub height-same : (left : List ℕ) → height_in_front_of keys elements left ≡ height_in_front_of keys others left
  height-same left = ap (λ (ns : List ℕ). max 1 (greatest ns)) (ending-same 0 left)

-- as many rows stand in front of it as are counted
pub length-in_front : (formats : List FormatRow) (keys rules : ℕ) → keys < length formats → rules ≤ keys → length (rows_in_front formats keys rules) ≡ rules
length-in_front formats keys rules serves few =
    length-take-le rules (drop (keys - rules) formats) (omega (arith, serves, few, length-drop (keys - rules) formats))

module _ (bytes : List ℕ) (formats : List FormatRow) (is_inside : Bool) (columns : ℕ) (above : List FormatKey) (left : List ℕ) (rules : ℕ) where
  abbrev all_of : List KeptElement → List OneElement
  all_of elements = elements_of bytes formats elements

  abbrev lefts_under : List FormatKey → ℕ → ℕ → List Entry → List ℕ
  lefts_under keys bars front slice =
      lefts_from above left (rules_between is_inside rules front) (record { keys = keys; bars = bars }) (cells_of bytes bars keys slice) 0
      (cell_count keys columns)

  row-raised : (keys front height0 : ℕ) (slice : List Entry) (rest : List KeptElement) (height : ℕ) (after : List ℕ)
      → length (rows_in_front formats keys front) ≡ front
      → LeftBehind (lefts_under (row_at formats keys).keys (row_at formats keys).bars front slice) (row_at formats keys).keys (all_of rest) height after
      → Row keys front height slice ∷ raised_behind bytes formats is_inside columns (row_at formats keys).keys after 0 rest
      ≡ raised_behind bytes formats is_inside columns above left rules (Row keys front height0 slice ∷ rest)
  row-raised keys front height0 slice rest height after count found =
      let format = row_at formats keys in
      let lefts : ℕ → List ℕ = λ n. lefts_under format.keys format.bars n slice in
      let made : List ℕ → ℕ → List KeptElement =
      λ ns h. Row keys front h slice ∷ raised_behind bytes formats is_inside columns format.keys (map (λ (n : ℕ). n - h) ns) 0 rest in
      ap (λ (ns : List ℕ). Row keys front height slice ∷ raised_behind bytes formats is_inside columns format.keys ns 0 rest) found.left
      ∙ ap (λ (h : ℕ). made (lefts front) h) found.high
      ∙ ap (λ (n : ℕ). made (lefts n) (height_in_front_of format.keys (all_of rest) (lefts n))) (sym count)

  -- by its keys as they are lent
  pub row-raised-by : (row : KeptRow) (fields : List Entry) (rest : List KeptElement) (height : ℕ) (after : List ℕ) (lent : List FormatKey)
      → lent ≡ (row_at formats row.keys).keys
      → length (rows_in_front formats row.keys row.rules) ≡ row.rules
      → LeftBehind (lefts_under lent (row_at formats row.keys).bars row.rules (slice_range fields row.from row.to)) lent (all_of rest) height after
      → kept_in fields (OneRow (record row { height = height })) ∷ raised_behind bytes formats is_inside columns lent after 0 rest
      ≡ raised_behind bytes formats is_inside columns above left rules (kept_in fields (OneRow row) ∷ rest)
  row-raised-by row fields rest height after lent same count found =
      let slice = slice_range fields row.from row.to in
      let new = kept_in fields (OneRow (record row { height = height })) in
      let Found : List FormatKey → Type 0 = λ ks. LeftBehind (lefts_under ks (row_at formats row.keys).bars row.rules slice) ks (all_of rest) height after in
      ap (λ (ks : List FormatKey). new ∷ raised_behind bytes formats is_inside columns ks after 0 rest) same
      ∙ row-raised row.keys row.rules row.height slice rest height after count (subst Found same found)

-- one element, and all behind it
module _ (K : Element → KeptElement) (before behind : List KeptElement → List KeptElement) (items : List Element) (at : ℕ) (none : Element) (more : at < length items) where
  pub pass-set : (new : Element) → K new ∷ behind (map K (drop (at + 1) items)) ≡ before (K (get_or items at none) ∷ map K (drop (at + 1) items))
      → map K (take (at + 1) (set items at new)) ++ behind (map K (drop (at + 1) (set items at new))) ≡ map K (take at items) ++ before (map K (drop at items))
  pass-set new says =
      ap (λ (front : List Element). map K front ++ behind (map K (drop (at + 1) (set items at new)))) (take_more_set items at new more)
      ∙ ap (λ (rest : List Element). map K (take at items ++ new ∷ []) ++ behind (map K rest)) (drop-set-lt (at + 1) items at new (omega arith))
      ∙ ap (λ (front : List KeptElement). front ++ behind (map K (drop (at + 1) items))) (map-append K (take at items) (new ∷ []))
      ∙ append_assoc (map K (take at items)) (K new ∷ []) (behind (map K (drop (at + 1) items)))
      ∙ ap (λ (rest : List KeptElement). map K (take at items) ++ rest) says
      ∙ ap (λ (rest : List Element). map K (take at items) ++ before (map K rest)) (sym (drop_more items at none more))

-- what is at a place is what comes first behind those in front of it
pub get_or-first : {A : Type 0} (xs : List A) (at : ℕ) (none : A) → get_or (drop at xs) 0 none ≡ get_or xs at none
get_or-first xs zero none = refl
get_or-first [] (suc at) none = refl
get_or-first (x ∷ xs) (suc at) none = get_or-first xs at none

-- an element that isn't a row
abbrev pub IsNoRow : Element → Type 0
IsNoRow (OneRow row) = ⊥
IsNoRow (OneRule sign) = Unit {0}
IsNoRow (OneCommand from to) = Unit {0}

pub no-row : (e : Element) → ((row : KeptRow) → e ≡ OneRow row → ⊥) → IsNoRow e
no-row (OneRow row) none = none row refl
no-row (OneRule sign) none = tt
no-row (OneCommand from to) none = tt

over-one : (bytes : List ℕ) (formats : List FormatRow) (fields : List Entry) (e : Element) (rest : List Element) → IsNoRow e → (keys : List FormatKey) (cell : ℕ)
    → ends_in_front_of keys (elements_of bytes formats (map (kept_in fields) (e ∷ rest))) cell
    ≡ ends_in_front_of keys (elements_of bytes formats (map (kept_in fields) rest)) cell
over-one bytes formats fields (OneRow row) rest other keys cell = absurd other
over-one bytes formats fields (OneRule sign) rest other keys cell = refl
over-one bytes formats fields (OneCommand from to) rest other keys cell = refl

-- the cells of a row that is found
pub seen-row : (bytes : List ℕ) (formats : List FormatRow) (fields : List Entry) (elements : List Element) (at : ℕ) (none : Element) (row : KeptRow) (lent : List FormatKey)
    → at < length elements → get_or elements at none ≡ OneRow row → lent ≡ (row_at formats row.keys).keys → (bars : ℕ) (keys : List FormatKey) (cell : ℕ)
    → ends_in_front_of keys (elements_of bytes formats (map (kept_in fields) (drop at elements))) cell
    ≡ ends_in_front_of keys (seen bytes bars lent (slice_range fields row.from row.to)) cell
seen-row bytes formats fields elements at none row lent more is same bars keys cell =
    let rest = drop (at + 1) elements in
    ap (λ (es : List Element). ends_in_front_of keys (elements_of bytes formats (map (kept_in fields) es)) cell) (drop_more elements at none more)
    ∙ ap (λ (e : Element). ends_in_front_of keys (elements_of bytes formats (map (kept_in fields) (e ∷ rest))) cell) is
    ∙ ap (λ (ks : List FormatKey). ends_in_front_of keys (seen bytes bars ks (slice_range fields row.from row.to)) cell) (sym same)

pub seen-over : (bytes : List ℕ) (formats : List FormatRow) (fields : List Entry) (elements : List Element) (at : ℕ) (none e : Element)
    → at < length elements → get_or elements at none ≡ e → IsNoRow e → (keys : List FormatKey) (cell : ℕ)
    → ends_in_front_of keys (elements_of bytes formats (map (kept_in fields) (drop at elements))) cell
    ≡ ends_in_front_of keys (elements_of bytes formats (map (kept_in fields) (drop (at + 1) elements))) cell
seen-over bytes formats fields elements at none e more is other keys cell =
    let rest = drop (at + 1) elements in
    ap (λ (es : List Element). ends_in_front_of keys (elements_of bytes formats (map (kept_in fields) es)) cell) (drop_more elements at none more)
    ∙ ap (λ (x : Element). ends_in_front_of keys (elements_of bytes formats (map (kept_in fields) (x ∷ rest))) cell) is
    ∙ over-one bytes formats fields e rest other keys cell

pub seen-end : (bytes : List ℕ) (formats : List FormatRow) (fields : List Entry) (elements : List Element) (at : ℕ) → length elements ≤ at
    → (bars : ℕ) (keys : List FormatKey) (cell : ℕ)
    → ends_in_front_of keys (elements_of bytes formats (map (kept_in fields) (drop at elements))) cell ≡ ends_in_front_of keys (seen bytes bars [] []) cell
seen-end bytes formats fields elements at end bars keys cell =
    ap (λ (es : List Element). ends_in_front_of keys (elements_of bytes formats (map (kept_in fields) es)) cell) (drop_all at elements end)
    ∙ seen-none bytes bars keys cell

-- what holds of all that elements are holds of those behind some
pub each-behind : (P : KeptElement → Type 0) (K : Element → KeptElement) (at : ℕ) (elements : List Element) → AllByRecursion P (map K elements)
    → AllByRecursion P (map K (drop at elements))
each-behind P K zero elements all = all
each-behind P K (suc at) [] all = all
each-behind P K (suc at) (e ∷ elements) all = each-behind P K at elements all.1

-- a row has no more cells than the table has columns
pub cells-room : (columns : ℕ) (keys : List FormatKey) → AreWithin columns keys → cell_count keys columns ≤ columns
cells-room columns keys within = omega (arith, cells-few keys within.cells, within.short)

-- rows that lie one after another lie among the fields, and rows of the formats serve them
pub lies-in : (fields : List Entry) (formats : List FormatRow) (from to : ℕ) (elements : List Element) → to ≤ length fields → LieBetween from elements to
    → AllByRecursion (ElementWithin formats) (map (kept_in fields) elements) → AllByRecursion (LiesIn (length fields) (length formats)) elements
lies-in fields formats from to [] within lie served = tt
lies-in fields formats from to (OneRow row ∷ elements) within lie served = (
  record {
    order = omega (arith, lie.0, lie.1);
    within = omega (arith, within, LieBetween-order row.to to elements lie.2);
    serves = served.0;
  },
  lies-in fields formats row.to to elements within lie.2 served.1,
)
lies-in fields formats from to (OneRule sign ∷ elements) within lie served = (tt, lies-in fields formats from to elements within lie served.1)
lies-in fields formats from to (OneCommand start end ∷ elements) within lie served = (tt, lies-in fields formats from to elements within lie served.1)

-- the first row behind an element that isn't one
first-over : (fields : List Entry) (e : Element) (rest : List KeptElement) (at : ℕ) → IsNoRow e → first_row at (kept_in fields e ∷ rest) ≡ first_row (suc at) rest
first-over fields (OneRow row) rest at other = absurd other
first-over fields (OneRule sign) rest at other = refl
first-over fields (OneCommand from to) rest at other = refl

pub first_row-over : (fields : List Entry) (elements : List Element) (at : ℕ) (none e : Element) → at < length elements → get_or elements at none ≡ e → IsNoRow e
    → first_row at (drop at (map (kept_in fields) elements)) ≡ first_row (at + 1) (drop (at + 1) (map (kept_in fields) elements))
first_row-over fields elements at none e more is other =
    let next : suc at ≡ at + 1 = omega arith in
    ap (first_row at) (drop-kept fields elements at none e more is)
    ∙ first-over fields e (drop (suc at) (map (kept_in fields) elements)) at other
    ∙ ap (λ (n : ℕ). first_row n (drop n (map (kept_in fields) elements))) next
