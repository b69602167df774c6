-- The entries of a row that go over several columns, one after another.
use Rattle.std.proofs.Common.{◌≡◌, ℕ, zero, suc, ◌+◌, ◌-◌, ◌<◌, ◌≤◌, Bool, true, false, List, [], ◌∷◌, ◌++◌, length, min, take, drop, get_or, refl, sym, ap, ◌∙◌, arith, inl, inr, ◌==◌, length-drop, ◌||◌, if◌then◌else◌, eq-eqb, ne_eqb, drop-drop}
use Rattle.std.specs.List.{slice_range}
use Rattle.std.proofs.lemmas.Bool.{cases_lt}
use Rattle.std.proofs.lemmas.List.{drop_all, drop_more}
use Rattle.tbl_format.proofs.CellColumns.{columns_behind, columns_of-behind}
use Rattle.tbl_format.specs.Cells.{AreCells}
use Rattle.tbl_format.specs.Format.{columns_of_keys}
use Rattle.tbl_format.specs.declared.format.Asked.{Asked}
use Rattle.tbl_format.specs.declared.format.FormatKey.{FormatKey}
use Rattle.tbl_format.specs.declared.format.Key.{Key}
use Rattle.tbl_layout.specs.Columns.{alone, counted}
use Rattle.tbl_layout.specs.KeptEntries.{stands_of}
use Rattle.tbl_layout.specs.Spans.{Wide, all_fitted, fitted, if_wide, lacks, spread_over, wide_entries}
use Rattle.tbl_layout.specs.declared.bars.Bars.{Bars}
use Rattle.tbl_layout.specs.declared.columns.Column.{Column}
use Rattle.tbl_layout.specs.declared.entry.Entry.{Entry}
use Rattle.tbl_layout.proofs.Spreading.{all_fitted-append, fitted-none}
use Rattle.tbl_kept.specs.declared.held_columns.Cell.{Cell}
use Rattle.tbl_kept.proofs.CellSteps.{IsFirst, keys-next}
use Rattle.tbl_kept.specs.RowsLaying.{counted_if}
use Rattle.tbl_kept.proofs.RowsNext.{no_entry}
use Rattle.tbl_layout.proofs.RowStands.{if_wide-none}
use Rattle.tbl_layout.specs.declared.columns.Stands.{Stands}

-- one of several columns is fitted, also where it has no width
module _ (bars : Bars) (asked : List Asked) (from count : ℕ) (columns : List Column) where
  fitted-by : (is_none : Bool) (width : ℕ) → (width == 0) ≡ is_none
      → all_fitted bars asked (if is_none then [] else record { from = from; count = count; width = width } ∷ []) columns
      ≡ fitted bars asked (record { from = from; count = count; width = width }) columns
  fitted-by true zero is = sym (fitted-none bars asked (record { from = from; count = count; width = 0 }) columns (omega arith))
  fitted-by true (suc width) is = let some : (suc width == 0) ≡ false = ne_eqb (suc width) 0 (λ none. omega (arith, none)) in absurd (cc)
  fitted-by false width is = refl

  pub several-columns : (width : ℕ) → (count ≡ 1 → ⊥)
      → all_fitted bars asked (if_wide from count width) columns ≡ fitted bars asked (record { from = from; count = count; width = width }) columns
  several-columns width many =
      ap (λ (is_one : Bool). all_fitted bars asked (if is_one || width == 0 then [] else record { from = from; count = count; width = width } ∷ []) columns)
      (ne_eqb count 1 many)
      ∙ fitted-by (width == 0) width refl

  -- so is the part of its columns
  pub part-fitted : (end width : ℕ) (part : List Column) → from + count ≡ end → (count ≡ 1 → ⊥)
      → part ≡ spread_over (lacks bars (slice_range asked from end) (slice_range columns from end) width) (length (slice_range columns from end)) 0 (slice_range columns from end)
      → length (slice_range columns from end) ≡ count
      → take from columns ++ (part ++ drop (end - from) (drop from columns)) ≡ all_fitted bars asked (if_wide from count width) columns
  part-fitted end width part is many fits len =
      let own = take count (drop from columns) in
      let more = lacks bars (take count (drop from asked)) own width in
      let size : end - from ≡ count = omega (arith, is) in
      ap (λ (cs : List Column). take from columns ++ (cs ++ drop (end - from) (drop from columns))) fits
      ∙ ap (λ (n : ℕ). take from columns ++ (spread_over (lacks bars (slice_range asked from end) (slice_range columns from end) width) n 0 (slice_range columns from end)
      ++ drop (end - from) (drop from columns))) len
      ∙ ap (λ (n : ℕ). take from columns ++ (spread_over (lacks bars (take n (drop from asked)) (take n (drop from columns)) width) count 0 (take n (drop from columns))
      ++ drop n (drop from columns))) size
      ∙ ap (λ (rest : List Column). take from columns ++ (spread_over more count 0 own ++ rest)) (drop-drop count from columns)
      ∙ sym (several-columns width many)

-- an entry that counts for no width needs no room
pub fitted-free : (bars : Bars) (asked : List Asked) (from count : ℕ) (columns : List Column) (free : Bool) (s : Stands) → free ≡ true
    → columns ≡ all_fitted bars asked (if_wide from count (alone (counted_if free s))) columns
fitted-free bars asked from count columns free s is =
    sym (ap (λ (t : Bool). all_fitted bars asked (if_wide from count (alone (counted_if t s))) columns) is
    ∙ ap (λ (ws : List Wide). all_fitted bars asked ws columns) (if_wide-none from count))

pub fitted-counted : (bars : Bars) (asked : List Asked) (from count : ℕ) (columns : List Column) (free : Bool) (s : Stands) → free ≡ false
    → all_fitted bars asked (if_wide from count (alone s)) columns ≡ all_fitted bars asked (if_wide from count (alone (counted_if free s))) columns
fitted-counted bars asked from count columns free s is =
    sym (ap (λ (t : Bool). all_fitted bars asked (if_wide from count (alone (counted_if t s))) columns) is)

-- the entries of cells that are left: the first of them, and those behind it
module _ (bars : Bars) (asked : List Asked) (from : ℕ) (keys : List FormatKey) (at : ℕ) where
  wide-first : (ks : List FormatKey) (cell : Cell) (e : Entry) (entries : List Entry) → IsFirst from ks cell → 0 < length ks
      → wide_entries stands_of from ks (e ∷ entries)
      ≡ if_wide cell.from (cell.end - cell.from) (alone (counted_if cell.has_no_width (stands_of cell.key e)))
      ++ wide_entries stands_of cell.end (drop 1 ks) entries
  wide-first [] cell e entries is some = absurd (omega (arith, some))
  wide-first (k ∷ ks) cell e entries is some =
      let own : Bool → Key → ℕ → ℕ → List Wide = λ free key start end. if_wide start (end - start) (alone (counted_if free (stands_of key e))) in
      ap (λ (key : Key). own k.has_no_width key from k.end ++ wide_entries stands_of k.end ks entries) (sym is.key)
      ∙ ap (λ (free : Bool). own free cell.key from k.end ++ wide_entries stands_of k.end ks entries) (sym is.free)
      ∙ ap (λ (end : ℕ). own cell.has_no_width cell.key from end ++ wide_entries stands_of end ks entries) (sym is.end_is)
      ∙ ap (λ (start : ℕ). own cell.has_no_width cell.key start cell.end ++ wide_entries stands_of cell.end ks entries) (sym is.from_is)

  pub next-fitted : (cell : Cell) (entries : List Entry) (columns new : List Column) → at < length entries → at < length keys → IsFirst from (drop at keys) cell
      → new ≡ all_fitted bars asked
      (if_wide cell.from (cell.end - cell.from) (alone (counted_if cell.has_no_width (stands_of cell.key (get_or entries at no_entry))))) columns
      → all_fitted bars asked (wide_entries stands_of cell.end (drop (at + 1) keys) (drop (at + 1) entries)) new
      ≡ all_fitted bars asked (wide_entries stands_of from (drop at keys) (drop at entries)) columns
  next-fitted cell entries columns new some more is made =
      let e = get_or entries at no_entry in
      let rest = drop (at + 1) entries in
      let first = if_wide cell.from (cell.end - cell.from) (alone (counted_if cell.has_no_width (stands_of cell.key e))) in
      let behind = wide_entries stands_of cell.end (drop (at + 1) keys) rest in
      ap (all_fitted bars asked behind) made
      ∙ sym (all_fitted-append bars asked first behind columns)
      ∙ ap (λ (ks : List FormatKey). all_fitted bars asked (first ++ wide_entries stands_of cell.end ks rest) columns) (sym (keys-next keys at))
      ∙ ap (λ (ws : List Wide). all_fitted bars asked ws columns) (sym (wide-first (drop at keys) cell e rest is (omega (arith, more, length-drop at keys))))
      ∙ ap (λ (es : List Entry). all_fitted bars asked (wide_entries stands_of from (drop at keys) es) columns) (sym (drop_more entries at no_entry some))

  -- where no cell is left, or no key
  wide-none : (start : ℕ) (entries : List Entry) → wide_entries stands_of start [] entries ≡ []
  wide-none start [] = refl
  wide-none start (e ∷ entries) = refl

  pub none-fitted : (entries : List Entry) (columns : List Column) → min (length entries) (length keys) ≤ at
      → columns ≡ all_fitted bars asked (wide_entries stands_of from (drop at keys) (drop at entries)) columns
  none-fitted entries columns end = elim (cases_lt at (length entries)) [
    | inl more ↦
        let none : drop at keys ≡ [] = drop_all at keys (omega (arith, end, more)) in
        sym (ap (λ (ks : List FormatKey). all_fitted bars asked (wide_entries stands_of from ks (drop at entries)) columns) none
        ∙ ap (λ (ws : List Wide). all_fitted bars asked ws columns) (wide-none from (drop at entries)))
    | inr over ↦
        sym (ap (λ (es : List Entry). all_fitted bars asked (wide_entries stands_of from (drop at keys) es) columns) (drop_all at entries over))
  ]

-- rows whose cells have one column each have none
few-behind : (from : ℕ) (keys : List FormatKey) → AreCells from keys → from + length keys ≤ columns_behind from keys
few-behind from [] cells = omega arith
few-behind from (k ∷ keys) cells = omega (arith, cells.0, few-behind k.end keys cells.1)

ones-wide : (from : ℕ) (keys : List FormatKey) (entries : List Entry) → AreCells from keys → columns_behind from keys ≡ from + length keys
    → wide_entries stands_of from keys entries ≡ []
ones-wide from keys [] cells ones = refl
ones-wide from [] (e ∷ entries) cells ones = refl
ones-wide from (k ∷ keys) (e ∷ entries) cells ones =
    let order = few-behind k.end keys cells.1 in
    let one : k.end - from ≡ 1 = omega (arith, ones, order, cells.0) in
    let width = alone (counted k (stands_of k.key e)) in
    ap (λ (is_one : Bool). (if is_one || width == 0 then [] else record { from = from; count = k.end - from; width = width } ∷ [])
    ++ wide_entries stands_of k.end keys entries) (eq-eqb (k.end - from) 1 one)
    ∙ ones-wide k.end keys entries cells.1 (omega (arith, ones, order, cells.0))

pub none-wide : (keys : List FormatKey) (entries : List Entry) → AreCells 0 keys → columns_of_keys keys ≡ length keys → wide_entries stands_of 0 keys entries ≡ []
none-wide keys entries cells ones = ones-wide 0 keys entries cells (omega (arith, columns_of-behind keys, ones))
