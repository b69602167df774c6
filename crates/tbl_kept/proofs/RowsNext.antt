-- The fields of a row, one after another, and the columns that hold them.
use Rattle.std.proofs.Common.{◌≡◌, ℕ, zero, suc, ◌+◌, ◌-◌, ◌<◌, ◌≤◌, Bool, true, false, List, [], ◌∷◌, ◌++◌, length, take, drop, get_or, replicate, set, refl, sym, ap, ◌∙◌, arith, append_assoc, drop-set-lt, take-append-drop}
use Rattle.std.specs.List.{slice_range}
use Rattle.std.proofs.lemmas.List.{drop_more, take_more_set}
use Rattle.tbl_format.specs.Cells.{by_cells}
use Rattle.tbl_format.specs.declared.format.Asked.{Asked}
use Rattle.tbl_format.specs.declared.format.FormatKey.{FormatKey}
use Rattle.tbl_format.specs.declared.format.Key.{Key}
use Rattle.tbl_layout.specs.Columns.{in_columns, needing, row_stands}
use Rattle.tbl_layout.specs.Spans.{measure_of}
use Rattle.tbl_layout.specs.declared.bars.Bars.{Bars}
use Rattle.tbl_layout.specs.declared.columns.Column.{Column}
use Rattle.tbl_layout.specs.declared.columns.Needs.{Needs}
use Rattle.tbl_layout.specs.declared.columns.Stands.{Stands}
use Rattle.tbl_layout.specs.declared.columns.Stands.TheVariants.{Nowhere}
use Rattle.tbl_layout.specs.declared.entry.Entry.{Entry}
use Rattle.tbl_layout.specs.declared.entry.EntryKind.TheVariants.{Text as TextKind}
use Rattle.tbl_kept.specs.Rows.{held_by}
use Rattle.tbl_kept.specs.RowsLaying.{counted_if, held_at, laid_entries, laid_entry}
use Rattle.tbl_kept.specs.declared.held_columns.Cell.{Cell}
use Rattle.tbl_kept.proofs.CellSteps.{CellIsWithin, CellsLeft, IsFirst, by_cells-next, first_end, first_free, first_key, in_columns-many, keys-next, length-in_columns, row_stands-next}
use Rattle.tbl_kept.proofs.ColumnsHeld.{needing-nowhere}

-- what is read behind the end
abbrev pub no_entry : Entry
no_entry = record { from = 0; to = 0; kind = TextKind 0 0 }

-- columns in which nothing stands hold nothing more
held_by-nowhere : (count : ℕ) (columns : List Column) → held_by (replicate count Nowhere) columns ≡ columns
held_by-nowhere zero columns = refl
held_by-nowhere (suc count) [] = refl
held_by-nowhere (suc count) (c ∷ columns) =
    ap (λ (n : Needs). record c { needs = n } ∷ held_by (replicate count Nowhere) columns) (needing-nowhere c.needs)
    ∙ ap (λ (cs : List Column). c ∷ cs) (held_by-nowhere count columns)

pub held_by-cell : (count : ℕ) (columns : List Column) → held_by (in_columns count Nowhere) columns ≡ columns
held_by-cell zero columns = refl
held_by-cell (suc zero) columns = held_by-nowhere 1 columns
held_by-cell (suc (suc count)) columns =
    ap (λ (ss : List Stands). held_by ss columns) (in_columns-many (suc (suc count)) Nowhere (λ one. omega (arith, one)))
    ∙ held_by-nowhere (suc (suc count)) columns

-- the column of a cell of one column holds its entry
one-held : (entry : Stands) (c : Column) (from : ℕ) (columns : List Column) → from < length columns
    → set columns from (record (get_or columns from c) { needs = needing (get_or columns from c).needs entry }) ≡ held_at from (entry ∷ []) columns
one-held entry c from [] within = absurd (omega (arith, within))
one-held entry c zero (d ∷ columns) within = refl
one-held entry c (suc from) (d ∷ columns) within = ap (λ (rest : List Column). d ∷ rest) (one-held entry c from columns (omega (arith, within)))

pub held_at-one : (from count : ℕ) (columns : List Column) (c : Column) (n : Needs) (entry : Stands) → count ≡ 1 → from < length columns
    → n ≡ needing (get_or columns from c).needs entry
    → set columns from (record (get_or columns from c) { needs = n }) ≡ held_at from (in_columns count entry) columns
held_at-one from count columns c n entry one within is =
    ap (λ (m : Needs). set columns from (record (get_or columns from c) { needs = m })) is
    ∙ one-held entry c from columns within
    ∙ ap (λ (k : ℕ). held_at from (in_columns k entry) columns) (sym one)

-- no column of a cell of several does, and none of a cell without an entry
pub held_at-many : (from count : ℕ) (columns : List Column) (entry : Stands) → (count ≡ 1 → ⊥) → columns ≡ held_at from (in_columns count entry) columns
held_at-many from count columns entry many =
    sym (ap (λ (ss : List Stands). held_at from ss columns) (in_columns-many count entry many)
    ∙ ap (λ (cs : List Column). take from columns ++ cs) (held_by-nowhere count (drop from columns))
    ∙ take-append-drop from columns)

pub held_at-nowhere : (from count : ℕ) (columns : List Column) → columns ≡ held_at from (in_columns count Nowhere) columns
held_at-nowhere from count columns =
    sym (ap (λ (cs : List Column). take from columns ++ cs) (held_by-cell count (drop from columns)) ∙ take-append-drop from columns)

-- what stands nowhere counts as nothing, and so does what counts for no width
pub counted_if-nowhere : (free : Bool) (s : Stands) → s ≡ Nowhere → counted_if free s ≡ Nowhere
counted_if-nowhere true s is = refl
counted_if-nowhere false s is = is

pub held_at-free : (from count : ℕ) (columns : List Column) (free : Bool) (s : Stands) → free ≡ true
    → columns ≡ held_at from (in_columns count (counted_if free s)) columns
held_at-free from count columns free s is =
    held_at-nowhere from count columns
    ∙ sym (ap (λ (t : Bool). held_at from (in_columns count (counted_if t s)) columns) is)

pub held_at-counted : (from count : ℕ) (columns new : List Column) (free : Bool) (s : Stands) → free ≡ false
    → new ≡ held_at from (in_columns count s) columns → new ≡ held_at from (in_columns count (counted_if free s)) columns
held_at-counted from count columns new free s is held =
    held ∙ sym (ap (λ (t : Bool). held_at from (in_columns count (counted_if t s)) columns) is)

-- columns that hold the entries of one cell, and then those of the cells behind it, hold them all
held-first : (entries more : List Stands) (end : ℕ) (columns : List Column) → length entries ≡ end → end ≤ length columns
    → take end (held_by entries columns) ++ held_by more (drop end (held_by entries columns)) ≡ held_by (entries ++ more) columns
held-first [] more zero columns is within = refl
held-first [] more (suc end) columns is within = absurd (omega (arith, is))
held-first (s ∷ entries) more zero columns is within = absurd (omega (arith, is))
held-first (s ∷ entries) more (suc end) [] is within = absurd (omega (arith, within))
held-first (s ∷ entries) more (suc end) (c ∷ columns) is within =
    ap (λ (rest : List Column). record c { needs = needing c.needs s } ∷ rest)
    (held-first entries more end columns (omega (arith, is)) (omega (arith, within)))

held-behind : (entries more : List Stands) (from end : ℕ) (columns : List Column) → from + length entries ≡ end → end ≤ length columns
    → take end (held_at from entries columns) ++ held_by more (drop end (held_at from entries columns))
    ≡ take from columns ++ held_by (entries ++ more) (drop from columns)
held-behind entries more zero end columns is within = held-first entries more end columns (omega (arith, is)) within
held-behind entries more (suc from) zero columns is within = absurd (omega (arith, is))
held-behind entries more (suc from) (suc end) [] is within = absurd (omega (arith, within))
held-behind entries more (suc from) (suc end) (c ∷ columns) is within =
    ap (λ (rest : List Column). c ∷ rest) (held-behind entries more from end columns (omega (arith, is)) (omega (arith, within)))

-- so the field of a cell is held, and then those of the cells behind it
pub next-held : {A : Type 0} (entry_of : Key → A → Stands) (from : ℕ) (keys : List FormatKey) (at : ℕ) (cell : Cell) (field : A) (fields : List A)
    (columns new : List Column) → IsFirst from (drop at keys) cell → CellIsWithin (length columns) cell.from cell.end
    → new ≡ held_at cell.from (in_columns (cell.end - cell.from) (counted_if cell.has_no_width (entry_of cell.key field))) columns
    → take cell.end new ++ held_by (row_stands entry_of cell.end (drop (at + 1) keys) fields) (drop cell.end new)
    ≡ take from columns ++ held_by (row_stands entry_of from (drop at keys) (field ∷ fields)) (drop from columns)
next-held entry_of from keys at cell field fields columns new is within made =
    let own : Bool → Key → ℕ → ℕ → List Stands = λ free key start end. in_columns (end - start) (counted_if free (entry_of key field)) in
    let first = own cell.has_no_width cell.key cell.from cell.end in
    let more = row_stands entry_of cell.end (drop (at + 1) keys) fields in
    let ks = drop at keys in
    ap (λ (cs : List Column). take cell.end cs ++ held_by more (drop cell.end cs)) made
    ∙ held-behind first more cell.from cell.end columns
    (omega (arith, within.order, length-in_columns (cell.end - cell.from) (counted_if cell.has_no_width (entry_of cell.key field)))) within.within
    ∙ ap (λ (n : ℕ). take n columns ++ held_by (own cell.has_no_width cell.key n cell.end ++ more) (drop n columns)) is.from_is
    ∙ ap (λ (key : Key). take from columns ++ held_by (own cell.has_no_width key from cell.end ++ more) (drop from columns)) is.key
    ∙ ap (λ (free : Bool). take from columns ++ held_by (own free (first_key ks) from cell.end ++ more) (drop from columns)) is.free
    ∙ ap (λ (rest : List FormatKey). take from columns
    ++ held_by (own (first_free ks) (first_key ks) from cell.end ++ row_stands entry_of cell.end rest fields) (drop from columns)) (sym (keys-next keys at))
    ∙ ap (λ (end : ℕ). take from columns
    ++ held_by (own (first_free ks) (first_key ks) from end ++ row_stands entry_of end (drop 1 ks) fields) (drop from columns)) is.end_is
    ∙ ap (λ (ss : List Stands). take from columns ++ held_by ss (drop from columns)) (sym (row_stands-next entry_of from ks field fields))

-- an entry that is laid out in the place of another
pub laid-set : (entries : List Entry) (at : ℕ) (new : Entry) (f : List Entry → List Entry) → at < length entries
    → take (at + 1) (set entries at new) ++ f (drop (at + 1) (set entries at new)) ≡ take at entries ++ new ∷ f (drop (at + 1) entries)
laid-set entries at new f within =
    ap (λ (front : List Entry). front ++ f (drop (at + 1) (set entries at new))) (take_more_set entries at new within)
    ∙ ap (λ (r : List Entry). (take at entries ++ new ∷ []) ++ f r) (drop-set-lt (at + 1) entries at new (omega arith))
    ∙ append_assoc (take at entries) (new ∷ []) (f (drop (at + 1) entries))

-- the fields of cells that are left, laid out: the first of them, and those behind it
module _ (bytes : List ℕ) (bars : Bars) (line_length : ℕ) (asked : List Asked) where
  abbrev pub laid_from : ℕ → List FormatKey → List Entry → List Entry
  laid_from from keys entries = laid_entries bytes bars line_length (length asked) (by_cells from keys (drop from asked)) entries

  abbrev pub laid_in : Cell → Entry → Entry
  laid_in cell e = laid_entry bytes (measure_of bars line_length (length asked) (slice_range asked cell.from cell.end)) e

  pub next-laid : (from : ℕ) (keys : List FormatKey) (at count : ℕ) (cell : Cell) (entries : List Entry) → CellsLeft (length asked) from (drop at keys) (count - at)
      → at < count → at < length entries → IsFirst from (drop at keys) cell
      → laid_from from (drop at keys) (drop at entries)
      ≡ laid_in cell (get_or entries at no_entry) ∷ laid_from cell.end (drop (at + 1) keys) (drop (at + 1) entries)
  next-laid from keys at count cell entries left some more is =
      let e = get_or entries at no_entry in
      let rest = drop (at + 1) entries in
      let measured : ℕ → ℕ → Entry = λ start end. laid_entry bytes (measure_of bars line_length (length asked) (slice_range asked start end)) e in
      ap (λ (es : List Entry). laid_from from (drop at keys) es) (drop_more entries at no_entry more)
      ∙ ap (λ (cells : List (List Asked)). laid_entries bytes bars line_length (length asked) cells (e ∷ rest))
      (by_cells-next asked from (drop at keys) (count - at) left (omega (arith, some)))
      ∙ ap (λ (ks : List FormatKey). measured from (first_end from (drop at keys)) ∷ laid_from (first_end from (drop at keys)) ks rest) (keys-next keys at)
      ∙ ap (λ (end : ℕ). measured from end ∷ laid_from end (drop (at + 1) keys) rest) (sym is.end_is)
      ∙ ap (λ (start : ℕ). measured start cell.end ∷ laid_from cell.end (drop (at + 1) keys) rest) (sym is.from_is)
