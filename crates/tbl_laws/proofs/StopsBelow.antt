-- What has no width stops in front of the entries to its right in the rows below that its cell covers.
use Rattle.std.proofs.Common.{◌≡◌, ℕ, ◌≤◌, min, Bool, true, false, not, ◌&&◌, List, [], ◌∷◌, drop, refl, sym, ap, subst, ◌∙◌, arith, if◌then◌else◌, nat_lt, unwrap_or, le-ltb}
use Rattle.tbl_format.specs.Cells.{AreCells, end_of}
use Rattle.tbl_format.specs.declared.format.FormatKey.{FormatKey}
use Rattle.tbl_laws.specs.RunningOn.{FieldsFree, FreeBelow, HaveCells}
use Rattle.tbl_layout.specs.Entries.{Command, Content, Element, Row, Rule, field_at, is_entry}
use Rattle.tbl_layout.specs.Heights.{cell_below}
use Rattle.tbl_lines.specs.CellsLeft.{Left, all_keys, first_entry, first_used, goes_on, stop_below, stopped}

-- in a row
fields-min : (less stop column from : ℕ) (keys : List FormatKey) (fields : List Content) → less ≤ stop → FieldsFree stop column from keys fields
    → FieldsFree less column from keys fields
fields-min less stop column from [] fields le free = tt
fields-min less stop column from (k ∷ keys) fields le free = (
  λ behind entry. omega (arith, le, free.0 behind entry),
  fields-min less stop column k.end keys (drop 1 fields) le free.1,
)

fields-all : (stop column from : ℕ) (keys : List FormatKey) (fields : List Content) → stop ≤ from → AreCells from keys
    → FieldsFree stop column from keys fields
fields-all stop column from [] fields le order = tt
fields-all stop column from (k ∷ keys) fields le order =
    (λ behind entry. le, fields-all stop column k.end keys (drop 1 fields) (omega (arith, le, order.0)) order.1)

first-by : (t : Bool) (further column from : ℕ) (k : FormatKey) (keys : List FormatKey) (fields : List Content)
    → (not (nat_lt from column) && is_entry (field_at fields 0)) ≡ t → AreCells from (k ∷ keys)
    → FieldsFree further column k.end keys (drop 1 fields) → FieldsFree (if t then from else further) column from (k ∷ keys) fields
first-by true further column from k keys fields is order free =
    (λ behind entry. omega arith, fields-all from column k.end keys (drop 1 fields) (omega (arith, order.0)) order.1)
first-by false further column from k keys fields is order free = (
  λ behind entry.
      let both : (not (nat_lt from column) && is_entry (field_at fields 0)) ≡ true =
      ap (λ (t : Bool). not t && is_entry (field_at fields 0)) (le-ltb from column behind) ∙ entry in
      absurd (cc (sym both ∙ is)),
  free,
)

first-free : (none column from : ℕ) (keys : List FormatKey) (fields : List Content) → AreCells from keys
    → FieldsFree (first_entry none column from keys fields) column from keys fields
first-free none column from [] fields order = tt
first-free none column from (k ∷ keys) fields order =
    first-by (not (nat_lt from column) && is_entry (field_at fields 0)) (first_entry none column k.end keys (drop 1 fields)) column from k keys fields
    refl order (first-free none column k.end keys (drop 1 fields) order.1)

-- in all of them
module _ (columns : ℕ) where
  below-min : (less stop : ℕ) (keys : List FormatKey) (cell : ℕ) (elements : List Element) → less ≤ stop → FreeBelow stop columns keys cell elements
      → FreeBelow less columns keys cell elements
  below-min less stop keys cell [] le free = tt
  below-min less stop keys cell (Row rules format fields ∷ elements) le free =
      λ on.
      let below = cell_below keys format.keys fields cell in
      let row = free on in (
        fields-min less stop (end_of keys cell) 0 (all_keys columns format) fields le row.0,
        below-min less stop format.keys (unwrap_or below 0) elements le row.1,
      )
  below-min less stop keys cell (Rule sign ∷ elements) le free = below-min less stop keys cell elements le free
  below-min less stop keys cell (Command bytes ∷ elements) le free = below-min less stop keys cell elements le free

  below-free : (keys : List FormatKey) (cell : ℕ) (elements : List Element) → HaveCells columns elements
      → FreeBelow (stop_below columns keys cell elements) columns keys cell elements
  below-free keys cell [] have = tt
  below-free keys cell (Row rules format fields ∷ elements) have =
      λ on.
      let below = cell_below keys format.keys fields cell in
      let own = all_keys columns format in
      let first = first_entry columns (end_of keys cell) 0 own fields in
      let further = stop_below columns format.keys (unwrap_or below 0) elements in
      let stop = stop_below columns keys cell (Row rules format fields ∷ elements) in
      let same : stop ≡ min first further = ap (λ (t : Bool). if t then min first further else columns) on in (
        fields-min stop first (end_of keys cell) 0 own fields (omega (arith, same)) (first-free columns (end_of keys cell) 0 own fields have.0),
        below-min stop further format.keys (unwrap_or below 0) elements (omega (arith, same))
            (below-free format.keys (unwrap_or below 0) elements have.1),
      )
  below-free keys cell (Rule sign ∷ elements) have = below-free keys cell elements have
  below-free keys cell (Command bytes ∷ elements) have = below-free keys cell elements have

  pub stops-below : (keys : List FormatKey) (elements : List Element) (cell : ℕ) (c : Left) (others : List Left) → HaveCells columns elements
      → c.key.has_no_width ≡ true → goes_on c ≡ false
      → FreeBelow (stopped columns keys elements cell c others).stop columns keys cell elements
  stops-below keys elements cell c others have plain begins =
      let below = stop_below columns keys cell elements in
      let place = min (first_used columns c.key.end others) below in
      let both : (c.key.has_no_width && not (goes_on c)) ≡ true = ap (λ (t : Bool). t && not (goes_on c)) plain ∙ ap not begins in
      let same : (stopped columns keys elements cell c others).stop ≡ place =
      ap (λ (t : Bool). (if t then record c { stop = place } else c).stop) both in
      subst (λ (n : ℕ). FreeBelow n columns keys cell elements) (sym same)
      (below-min place below keys cell elements (omega arith) (below-free keys cell elements have))
