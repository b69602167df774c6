-- The rows of a table behind one step, by how they lie in lists.
use Rattle.std.proofs.Common.{◌≡◌, ℕ, zero, suc, ◌+◌, ◌-◌, ◌≤◌, List, [], ◌∷◌, ◌++◌, length, map, take, drop, get_or, set, sym, ap, ◌∙◌, arith, length-drop, take_all}
use Rattle.std.specs.List.{slice_range}
use Rattle.std.proofs.lemmas.List.{drop-append-le, drop_all, map-append, take-append-le, take-set-le}
use Rattle.tbl_format.specs.Format.{FormatRow}
use Rattle.tbl_layout.specs.KeptEntries.{with_end}
use Rattle.tbl_layout.specs.declared.columns.Column.{Column}
use Rattle.tbl_layout.specs.declared.entry.Entry.{Entry}
use Rattle.tbl_kept.specs.Rows.{KeptElement, KeptRows, Row, entries_in, holding, last_changed, with_block_end, with_entry, with_row}
use Rattle.tbl_kept.specs.RowsInside.{LieBetween, kept_in}
use Rattle.tbl_kept.specs.declared.rows.Element.{Element}
use Rattle.tbl_kept.specs.declared.rows.Element.TheVariants.{Row as OneRow}
use Rattle.tbl_kept.proofs.RowPlaces.{entries_in-between, kept-front}

-- the last of fields changed, by its place
set-last : (change : Entry → Entry) (fields : List Entry) (start last : ℕ) (e : Entry) → start ≤ last → last + 1 ≡ length fields → get_or fields last e ≡ e
    → drop start (set fields last (change e)) ≡ last_changed change (drop start fields)
set-last change [] start last e first is at = absurd (omega (arith, is))
set-last change (f ∷ []) zero zero e first is at = ap (λ (x : Entry). change x ∷ []) (sym at)
set-last change (f ∷ g ∷ fields) zero zero e first is at = absurd (omega (arith, is))
set-last change (f ∷ []) zero (suc last) e first is at = absurd (omega (arith, is))
set-last change (f ∷ g ∷ fields) zero (suc last) e first is at =
    ap (λ (es : List Entry). f ∷ es) (set-last change (g ∷ fields) zero last e (omega arith) (omega (arith, is)) at)
set-last change (f ∷ fields) (suc start) zero e first is at = absurd (omega (arith, first))
set-last change (f ∷ fields) (suc start) (suc last) e first is at =
    set-last change fields start last e (omega (arith, first)) (omega (arith, is)) at

module _ (fields : List Entry) (elements : List Element) (start : ℕ) where
  -- how many fields they have
  pub fields-counted : start ≤ length fields → LieBetween 0 elements start
      → entries_in (map (kept_in fields) elements) + length (drop start fields) ≡ length fields
  fields-counted within lie = omega (arith, within, length-drop start fields, entries_in-between fields 0 start elements within lie)

  module _ (columns : List Column) (entry_room element_room column_room : ℕ) (within : start ≤ length fields) (lie : LieBetween 0 elements start) where
    abbrev rows_with : List KeptElement → List Entry → KeptRows
    rows_with kept row =
        record { elements = kept; row = row; columns = columns; entry_room = entry_room; element_room = element_room; column_room = column_room }

    rows-changed : (others row : List Entry) → take start others ≡ take start fields → drop start others ≡ row
        → rows_with (map (kept_in others) elements) (drop start others) ≡ rows_with (map (kept_in fields) elements) row
    rows-changed others row front is =
        ap (λ (kept : List KeptElement). rows_with kept (drop start others)) (kept-front others fields 0 start elements front lie)
        ∙ ap (λ (r : List Entry). rows_with (map (kept_in fields) elements) r) is

    -- one field more
    pub entry-kept : (e : Entry) → rows_with (map (kept_in (fields ++ e ∷ [])) elements) (drop start (fields ++ e ∷ []))
        ≡ with_entry e (rows_with (map (kept_in fields) elements) (drop start fields))
    entry-kept e = rows-changed (fields ++ e ∷ []) (drop start fields ++ e ∷ []) (take-append-le start fields (e ∷ []) within) (drop-append-le start fields (e ∷ []) within)

    -- the block that is the last field goes on
    pub block-kept : (to last : ℕ) (e : Entry) → start ≤ last → last + 1 ≡ length fields → get_or fields last e ≡ e
        → rows_with (map (kept_in (set fields last (with_end to e))) elements) (drop start (set fields last (with_end to e)))
        ≡ with_block_end to (rows_with (map (kept_in fields) elements) (drop start fields))
    block-kept to last e first is at =
        rows-changed (set fields last (with_end to e)) (last_changed (with_end to) (drop start fields))
        (take-set-le start fields last (with_end to e) first) (set-last (with_end to) fields start last e first is at)

-- the row that is begun is whole
pub row-ended : (fields : List Entry) (elements : List Element) (start last end : ℕ) (columns new_columns : List Column) (entry_room element_room column_room keys rules : ℕ) (format : FormatRow)
    → last ≡ length fields → end ≡ length fields → new_columns ≡ holding format (drop start fields) columns
    → record {
      elements = map (kept_in fields) (elements ++ OneRow (record { keys = keys; rules = rules; height = 1; from = start; to = last }) ∷ []);
      row = drop end fields;
      columns = new_columns;
      entry_room = entry_room;
      element_room = element_room;
      column_room = column_room;
    } ≡ with_row keys rules format (record {
      elements = map (kept_in fields) elements;
      row = drop start fields;
      columns = columns;
      entry_room = entry_room;
      element_room = element_room;
      column_room = column_room;
    })
row-ended fields elements start last end columns new_columns entry_room element_room column_room keys rules format whole done held =
    let rows_of : List KeptElement → List Entry → List Column → KeptRows =
    λ els r cs. record { elements = els; row = r; columns = cs; entry_room = entry_room; element_room = element_room; column_room = column_room } in
    let row = OneRow (record { keys = keys; rules = rules; height = 1; from = start; to = last }) in
    let kept = map (kept_in fields) elements in
    let part : slice_range fields start last ≡ drop start fields = take_all (last - start) (drop start fields) (omega (arith, whole, length-drop start fields)) in
    ap (λ (els : List KeptElement). rows_of els (drop end fields) new_columns) (map-append (kept_in fields) elements (row ∷ []))
    ∙ ap (λ (es : List Entry). rows_of (kept ++ Row keys rules 1 es ∷ []) (drop end fields) new_columns) part
    ∙ ap (λ (r : List Entry). rows_of (kept ++ Row keys rules 1 (drop start fields) ∷ []) r new_columns) (drop_all end fields (omega (arith, done)))
    ∙ ap (λ (cs : List Column). rows_of (kept ++ Row keys rules 1 (drop start fields) ∷ []) [] cs) held
