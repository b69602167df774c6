-- Where what is without width ends in front of what stands beside it below, row by row.
use Rattle.std.proofs.Common.{◌≡◌, ℕ, zero, suc, ◌+◌, ◌<◌, ◌≤◌, min, Bool, List, [], ◌∷◌, drop, length, refl, sym, ap, subst, ◌∙◌, arith, if◌then◌else◌, Option, None, Some, is_some, unwrap_or}
use Rattle.std.proofs.Math.Nat.{min-eq_left}
use Rattle.tbl_format.specs.Cells.{end_of}
use Rattle.tbl_format.specs.Format.{FormatRow}
use Rattle.tbl_format.specs.FormatRows.{AreWithin}
use Rattle.tbl_format.specs.RowsServed.{row_at}
use Rattle.tbl_kept.proofs.AllLaid.{cell-laid}
use Rattle.tbl_kept.proofs.CellHeights.{field-seen}
use Rattle.tbl_kept.specs.KeptHeights.{cell_below_kept, field_kept}
use Rattle.tbl_kept.specs.Rows.{Command as CommandKept, ElementLaid, KeptElement, KeptRows, Row as RowKept, Rule as RuleKept, elements_of, fields_of}
use Rattle.tbl_kept.specs.RowsLaying.{element_at}
use Rattle.tbl_layout.specs.Entries.{Element, Text, field_at, is_entry, key_at}
use Rattle.tbl_layout.specs.Heights.{cell_below}
use Rattle.tbl_layout.specs.KeptEntries.{IsLaid, content_of}
use Rattle.tbl_layout.specs.declared.entry.Entry.{Entry}
use Rattle.tbl_lines.specs.CellsLeft.{all_keys, first_entry, stop_below}
use Rattle.tbl_line_cells.proofs.CellsKept.{nothing-laid}
use Rattle.tbl_tall.proofs.CellStops.{skip-all}
use Rattle.tbl_tall.proofs.CellsNext.{all-at, drop-past, get-drop}
use Rattle.tbl_tall.specs.RowsNext.{RowIsAt, end_kept}
use Rattle.tbl_tall.specs.declared.next_cells.RowComing.{RowComing}
use Rattle.tbl_tall.specs.StopsKept.{IsRow, fields_kept, first_kept, format_kept}
use Rattle.tbl_tall.specs.TallRows.{ElementLies, RowsLie}

-- the cells of an element lie within the columns, are laid, and have its fields
kept-within : (formats : List FormatRow) (columns : ℕ) (e : KeptElement) → ElementLies formats columns e → AreWithin columns (format_kept formats e).keys
kept-within formats columns (RowKept keys rules height entries) lies = lies.cells
kept-within formats columns (RuleKept sign) lies = record { cells = tt; short = omega arith }
kept-within formats columns (CommandKept from to) lies = record { cells = tt; short = omega arith }

pub lies-within : (formats : List FormatRow) (rows : KeptRows) (at : ℕ) → at < length rows.elements → RowsLie formats rows
    → AreWithin (length rows.columns) (format_kept formats (element_at rows.elements at)).keys
lies-within formats rows at some lie =
    let n = length rows.columns in
    kept-within formats n (element_at rows.elements at) (all-at (ElementLies formats n) rows.elements at (CommandKept 0 0) some lie)

none-at : (cell : ℕ) → field_at [] cell ≡ Text []
none-at zero = refl
none-at (suc cell) = refl

kept-seen : (bytes : List ℕ) (formats : List FormatRow) (e : KeptElement) (cell : ℕ)
    → field_at (fields_kept bytes formats e) cell ≡ content_of bytes (field_kept formats cell e)
kept-seen bytes formats (RowKept keys rules height entries) cell = field-seen bytes (row_at formats keys).bars (row_at formats keys).keys entries cell
kept-seen bytes formats (RuleKept sign) cell = none-at cell
kept-seen bytes formats (CommandKept from to) cell = none-at cell

kept-laid : (bytes : List ℕ) (formats : List FormatRow) (columns : ℕ) (e : KeptElement) (cell : ℕ) → ElementLaid bytes formats columns e
    → IsLaid bytes (key_at (format_kept formats e) cell) (field_kept formats cell e)
kept-laid bytes formats columns (RowKept keys rules height entries) cell laid = cell-laid bytes (row_at formats keys) entries cell laid.laid
kept-laid bytes formats columns (RuleKept sign) cell laid = nothing-laid bytes (key_at (format_kept formats (RuleKept sign)) cell)
kept-laid bytes formats columns (CommandKept from to) cell laid = nothing-laid bytes (key_at (format_kept formats (CommandKept from to)) cell)

-- whether something stands in a cell is told of its field
pub kept-used : (bytes : List ℕ) (formats : List FormatRow) (columns : ℕ) (e : KeptElement) (cell : ℕ) {entry : Entry} {t : Bool}
    → entry ≡ field_kept formats cell e → ElementLaid bytes formats columns e
    → (IsLaid bytes (key_at (format_kept formats e) cell) entry → t ≡ is_entry (content_of bytes entry))
    → is_entry (field_at (fields_kept bytes formats e) cell) ≡ t
kept-used bytes formats columns e cell {entry} is laid told =
    let here : IsLaid bytes (key_at (format_kept formats e) cell) entry
    = subst (λ (x : Entry). IsLaid bytes (key_at (format_kept formats e) cell) x) (sym is) (kept-laid bytes formats columns e cell laid) in
    ap is_entry (kept-seen bytes formats e cell ∙ ap (content_of bytes) (sym is)) ∙ sym (told here)

pub kept-end : (formats : List FormatRow) (e : KeptElement) (cell : ℕ) → IsRow e → end_kept formats e cell ≡ end_of (format_kept formats e).keys cell
kept-end formats (RowKept keys rules height entries) cell row = refl
kept-end formats (RuleKept sign) cell row = absurd row
kept-end formats (CommandKept from to) cell row = absurd row

kept-below : (bytes : List ℕ) (formats : List FormatRow) (e : KeptElement) (keys rules height : ℕ) (entries : List Entry) (cell : ℕ) → IsRow e
    → cell_below (format_kept formats e).keys (row_at formats keys).keys (fields_of bytes (row_at formats keys) entries) cell
    ≡ cell_below_kept bytes formats cell e (RowKept keys rules height entries)
kept-below bytes formats (RowKept above ra ha fa) keys rules height entries cell row = refl
kept-below bytes formats (RuleKept sign) keys rules height entries cell row = absurd row
kept-below bytes formats (CommandKept from to) keys rules height entries cell row = absurd row

pub row-is : (elements : List KeptElement) (at keys rules height : ℕ) (entries : List Entry) (rest : List KeptElement)
    → drop at elements ≡ RowKept keys rules height entries ∷ rest → IsRow (element_at elements at)
row-is elements at keys rules height entries rest is =
    let own = RowKept keys rules height entries in
    subst IsRow (sym (get-drop elements at own (CommandKept 0 0) rest is)) tt

pub coming-row : (elements : List KeptElement) (row : RowComing) → RowIsAt elements row → IsRow (element_at elements row.at)
coming-row elements row is = row-is elements row.at row.keys row.rules row.height is.entries (drop (suc row.at) elements) is.is

pub coming-format : (formats : List FormatRow) (elements : List KeptElement) (row : RowComing) → RowIsAt elements row
    → format_kept formats (element_at elements row.at) ≡ row_at formats row.keys
coming-format formats elements row is =
    ap (format_kept formats)
    (get-drop elements row.at (RowKept row.keys row.rules row.height is.entries) (CommandKept 0 0) (drop (suc row.at) elements) is.is)

pub min-more : (a b c : ℕ) → min a (min b c) ≡ min (min a b) c
min-more a b c = omega arith

module _ (bytes : List ℕ) (formats : List FormatRow) (columns : ℕ) (elements : List KeptElement) (at : ℕ) where
  abbrev rest : ℕ → List Element
  rest n = elements_of bytes formats (drop n elements)

  pub below-some : (row : KeptElement) (keys rules height : ℕ) (entries : List Entry) (cell below stop first end total : ℕ)
      → drop at elements ≡ RowKept keys rules height entries ∷ drop (suc at) elements → IsRow row
      → cell_below_kept bytes formats cell row (element_at elements at) ≡ Some below
      → AreWithin columns (format_kept formats (element_at elements at)).keys → end ≡ end_kept formats row cell
      → end ≡ end_kept formats (element_at elements at) below → end ≤ columns
      → first ≡ min stop (first_kept bytes formats columns end (element_at elements at) (below + 1))
      → min stop (stop_below columns (format_kept formats row).keys cell (rest at)) ≡ total
      → min first (stop_below columns (format_kept formats (element_at elements at)).keys below (rest (at + 1))) ≡ total
  below-some row keys rules height entries cell below stop first end total is is_row goes within ends ends_below few found so_far =
      let own = RowKept keys rules height entries in
      let format = row_at formats keys in
      let fields = fields_of bytes format entries in
      let names = (format_kept formats row).keys in
      let all = all_keys columns format in
      let next : suc at ≡ at + 1 = omega arith in
      let there : element_at elements at ≡ own = get-drop elements at own (CommandKept 0 0) (drop (suc at) elements) is in
      let more : ℕ → ℕ = λ other. stop_below columns format.keys other (rest (suc at)) in
      let here : cell_below names format.keys fields cell ≡ Some below
      = kept-below bytes formats row keys rules height entries cell is_row ∙ ap (λ (e : KeptElement). cell_below_kept bytes formats cell row e) (sym there) ∙ goes in
      let own_end : end_of names cell ≡ end_of format.keys below
      = sym (kept-end formats row cell is_row) ∙ sym ends ∙ ends_below ∙ ap (λ (e : KeptElement). end_kept formats e below) there in
      let same_end : end_of format.keys below ≡ end = ap (λ (e : KeptElement). end_kept formats e below) (sym there) ∙ sym ends_below in
      let own_within : AreWithin columns format.keys = subst (λ (e : KeptElement). AreWithin columns (format_kept formats e).keys) there within in
      let skipped = skip-all columns format fields below own_within (omega (arith, same_end, few)) in
      let by : Option ℕ → ℕ = λ found. if is_some found then min (first_entry columns (end_of names cell) 0 all fields) (more (unwrap_or found 0)) else columns in
      let at_end : ℕ → ℕ = λ n. first_entry columns n n (drop (below + 1) all) (drop (below + 1) fields) in
      let all_below : stop_below columns names cell (rest at) ≡ min (at_end end) (more below)
      = ap (λ (es : List KeptElement). stop_below columns names cell (elements_of bytes formats es)) is
      ∙ ap by here
      ∙ ap (λ (n : ℕ). min (first_entry columns n 0 all fields) (more below)) own_end
      ∙ ap (λ (n : ℕ). min n (more below)) skipped
      ∙ ap (λ (n : ℕ). min (at_end n) (more below)) same_end in
      ap (λ (e : KeptElement). min first (stop_below columns (format_kept formats e).keys below (rest (at + 1)))) there
      ∙ ap (λ (n : ℕ). min first (stop_below columns format.keys below (rest n))) (sym next)
      ∙ ap (λ (n : ℕ). min n (more below)) (found ∙ ap (λ (e : KeptElement). min stop (first_kept bytes formats columns end e (below + 1))) there)
      ∙ sym (min-more stop (at_end end) (more below))
      ∙ ap (min stop) (sym all_below)
      ∙ so_far

  pub below-none : (row : KeptElement) (keys rules height : ℕ) (entries : List Entry) (cell stop total : ℕ)
      → drop at elements ≡ RowKept keys rules height entries ∷ drop (suc at) elements → IsRow row
      → cell_below_kept bytes formats cell row (element_at elements at) ≡ None → stop ≤ columns
      → min stop (stop_below columns (format_kept formats row).keys cell (rest at)) ≡ total → stop ≡ total
  below-none row keys rules height entries cell stop total is is_row goes few so_far =
      let own = RowKept keys rules height entries in
      let format = row_at formats keys in
      let fields = fields_of bytes format entries in
      let names = (format_kept formats row).keys in
      let there : element_at elements at ≡ own = get-drop elements at own (CommandKept 0 0) (drop (suc at) elements) is in
      let more : ℕ → ℕ = λ other. stop_below columns format.keys other (rest (suc at)) in
      let here : cell_below names format.keys fields cell ≡ None
      = kept-below bytes formats row keys rules height entries cell is_row ∙ ap (λ (e : KeptElement). cell_below_kept bytes formats cell row e) (sym there) ∙ goes in
      let by : Option ℕ → ℕ = λ found.
      if is_some found then min (first_entry columns (end_of names cell) 0 (all_keys columns format) fields) (more (unwrap_or found 0)) else columns in
      sym (min-eq_left few)
      ∙ ap (min stop) (sym (ap (λ (es : List KeptElement). stop_below columns names cell (elements_of bytes formats es)) is ∙ ap by here))
      ∙ so_far

  pub below-rule : (row : KeptElement) (sign : _) (cell stop total : ℕ) → drop at elements ≡ RuleKept sign ∷ drop (suc at) elements
      → min stop (stop_below columns (format_kept formats row).keys cell (rest at)) ≡ total
      → min stop (stop_below columns (format_kept formats row).keys cell (rest (at + 1))) ≡ total
  below-rule row sign cell stop total is so_far =
      let next : at + 1 ≡ suc at = omega arith in
      ap (λ (n : ℕ). min stop (stop_below columns (format_kept formats row).keys cell (rest n))) next
      ∙ ap (λ (es : List KeptElement). min stop (stop_below columns (format_kept formats row).keys cell (elements_of bytes formats es))) (sym is) ∙ so_far

  pub below-command : (row : KeptElement) (from to cell stop total : ℕ) → drop at elements ≡ CommandKept from to ∷ drop (suc at) elements
      → min stop (stop_below columns (format_kept formats row).keys cell (rest at)) ≡ total
      → min stop (stop_below columns (format_kept formats row).keys cell (rest (at + 1))) ≡ total
  below-command row from to cell stop total is so_far =
      let next : at + 1 ≡ suc at = omega arith in
      ap (λ (n : ℕ). min stop (stop_below columns (format_kept formats row).keys cell (rest n))) next
      ∙ ap (λ (es : List KeptElement). min stop (stop_below columns (format_kept formats row).keys cell (elements_of bytes formats es))) (sym is) ∙ so_far

  pub below-end : (row : KeptElement) (cell stop total : ℕ) → length elements ≤ at → stop ≤ columns
      → min stop (stop_below columns (format_kept formats row).keys cell (rest at)) ≡ total → stop ≡ total
  below-end row cell stop total past few so_far =
      sym (min-eq_left few)
      ∙ ap (λ (es : List KeptElement). min stop (stop_below columns (format_kept formats row).keys cell (elements_of bytes formats es))) (sym (drop-past elements at past))
      ∙ so_far
