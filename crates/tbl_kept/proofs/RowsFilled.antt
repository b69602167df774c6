-- The rows of a table, whose blocks are filled.
use Rattle.std.proofs.Common.{◌≡◌, ℕ, suc, ◌+◌, ◌<◌, ◌≤◌, max, List, [], ◌∷◌, ◌++◌, length, map, take, set, refl, sym, ap, subst, ◌∙◌, arith}
use Rattle.std.specs.List.{AllByRecursion}
use Rattle.std.proofs.lemmas.List.{take_more_set}
use Rattle.tbl_format.proofs.CellColumns.{length-by_cells}
use Rattle.tbl_format.specs.Cells.{by_cells}
use Rattle.tbl_format.specs.Format.{FormatRow}
use Rattle.tbl_format.specs.RowsServed.{row_at}
use Rattle.tbl_format.specs.declared.format.Asked.{Asked}
use Rattle.tbl_format.specs.declared.format.Key.{Key}
use Rattle.tbl_layout.specs.Entries.{Content, Element, Row as OneRow, completed, key_at}
use Rattle.tbl_layout.specs.KeptEntries.{IsKeptBy, IsLaid, IsLaidBy, content_by, content_of, lines_by, Lies}
use Rattle.tbl_layout.specs.Spans.{filled, filled_element, filled_fields, filled_in, measure_of}
use Rattle.tbl_layout.specs.declared.bars.Bars.{Bars}
use Rattle.tbl_layout.specs.declared.columns.Stands.TheVariants.{Nowhere}
use Rattle.tbl_layout.specs.declared.entry.BlockEntry.{BlockEntry}
use Rattle.tbl_layout.specs.declared.entry.Entry.{Entry}
use Rattle.tbl_layout.specs.declared.entry.EntryKind.{EntryKind}
use Rattle.tbl_layout.specs.declared.entry.EntryKind.TheVariants.{Above as AboveKind, Block as BlockKind, Repeated as RepeatedKind, Ruled as RuledKind, Short as ShortKind, Split as SplitKind, Text as TextKind}
use Rattle.tbl_layout.proofs.BlocksFilled.{filled-completed}
use Rattle.tbl_kept.specs.Rows.{AreKept, AreLaid, Command, ElementKept, ElementLaid, KeptElement, Row, Rule, element_of, elements_of, height_of, rows_in_front}
use Rattle.tbl_kept.specs.RowsLaying.{FieldsLie, block_stands_by, laid_by, laid_element, laid_entries}
use Rattle.tbl_kept.proofs.Stepping.{greatest-more}

-- a field that is kept is laid out once it is filled, and is the same text, or the same block in its measure
laid-is : (kind : EntryKind) (bytes : List ℕ) (measure : ℕ) (key : Key) (e : Entry) → kind ≡ e.kind → IsKeptBy kind bytes key e
    → IsLaid bytes key (laid_by kind bytes measure e)
laid-is (TextKind glyphs width) bytes measure key e is kept = subst (λ (k : EntryKind). IsLaidBy k bytes key e) is kept
laid-is (SplitKind s) bytes measure key e is kept = subst (λ (k : EntryKind). IsLaidBy k bytes key e) is kept
laid-is (BlockKind b) bytes measure key e is kept = record { lies = record { order = kept.lies.order; within = kept.lies.within }; is = refl }
laid-is (RuledKind sign) bytes measure key e is kept = subst (λ (k : EntryKind). IsLaidBy k bytes key e) is kept
laid-is ShortKind bytes measure key e is kept = subst (λ (k : EntryKind). IsLaidBy k bytes key e) is kept
laid-is (RepeatedKind byte) bytes measure key e is kept = subst (λ (k : EntryKind). IsLaidBy k bytes key e) is kept
laid-is AboveKind bytes measure key e is kept = subst (λ (k : EntryKind). IsLaidBy k bytes key e) is kept

laid-content : (kind : EntryKind) (bytes : List ℕ) (measure : ℕ) (e : Entry) → kind ≡ e.kind
    → content_of bytes (laid_by kind bytes measure e) ≡ filled_in measure (content_by kind bytes e.from e.to)
laid-content (TextKind glyphs width) bytes measure e is = ap (λ (k : EntryKind). content_by k bytes e.from e.to) (sym is)
laid-content (SplitKind s) bytes measure e is = ap (λ (k : EntryKind). content_by k bytes e.from e.to) (sym is)
laid-content (BlockKind b) bytes measure e is = refl
laid-content (RuledKind sign) bytes measure e is = ap (λ (k : EntryKind). content_by k bytes e.from e.to) (sym is)
laid-content ShortKind bytes measure e is = ap (λ (k : EntryKind). content_by k bytes e.from e.to) (sym is)
laid-content (RepeatedKind byte) bytes measure e is = ap (λ (k : EntryKind). content_by k bytes e.from e.to) (sym is)
laid-content AboveKind bytes measure e is = ap (λ (k : EntryKind). content_by k bytes e.from e.to) (sym is)

module _ (bytes : List ℕ) (bars : Bars) (line_length count : ℕ) where
  contents-laid : (cells : List (List Asked)) (entries : List Entry)
      → map (content_of bytes) (laid_entries bytes bars line_length count cells entries)
      ≡ filled_fields bars line_length count cells (map (content_of bytes) entries)
  contents-laid [] entries = refl
  contents-laid (asked ∷ cells) [] = refl
  contents-laid (asked ∷ cells) (e ∷ entries) =
      let measure = measure_of bars line_length count asked in
      ap (λ (c : Content). c ∷ map (content_of bytes) (laid_entries bytes bars line_length count cells entries)) (laid-content e.kind bytes measure e refl)
      ∙ ap (λ (cs : List Content). filled_in measure (content_of bytes e) ∷ cs) (contents-laid cells entries)

  pub length-laid : (cells : List (List Asked)) (entries : List Entry) → length (laid_entries bytes bars line_length count cells entries) ≡ length entries
  length-laid [] entries = refl
  length-laid (asked ∷ cells) [] = refl
  length-laid (asked ∷ cells) (e ∷ entries) = ap (λ (n : ℕ). suc n) (length-laid cells entries)

  pub fields-laid : (format : FormatRow) (cell : ℕ) (cells : List (List Asked)) (entries : List Entry) → length entries ≤ length cells
      → AreKept bytes format cell entries → AreLaid bytes format cell (laid_entries bytes bars line_length count cells entries)
  fields-laid format cell [] [] short kept = tt
  fields-laid format cell [] (e ∷ entries) short kept = absurd (omega (arith, short))
  fields-laid format cell (asked ∷ cells) [] short kept = tt
  fields-laid format cell (asked ∷ cells) (e ∷ entries) short kept = (
    laid-is e.kind bytes (measure_of bars line_length count asked) (key_at format cell) e refl kept.0,
    fields-laid format (suc cell) cells entries (omega (arith, short)) kept.1,
  )

module _ (bytes : List ℕ) (formats : List FormatRow) (bars : Bars) (line_length : ℕ) (asked : List Asked) where
  -- all rows are laid out
  pub row-short : (keys rules height : ℕ) (entries : List Entry) → ElementKept bytes formats (length asked) (Row keys rules height entries)
      → length entries ≤ length (by_cells 0 (row_at formats keys).keys asked)
  row-short keys rules height entries kept =
      omega (arith, kept.short, length-by_cells (row_at formats keys).keys asked kept.cells.cells kept.cells.short)

  pub all-laid : (elements : List KeptElement) → AllByRecursion (ElementKept bytes formats (length asked)) elements
      → AllByRecursion (ElementLaid bytes formats (length asked)) (map (laid_element bytes formats bars line_length asked) elements)
  all-laid [] kept = tt
  all-laid (Row keys rules height entries ∷ elements) kept =
      let format = row_at formats keys in
      let cells = by_cells 0 format.keys asked in
      let same = length-laid bytes bars line_length (length asked) cells entries in (
        record {
          serves = kept.0.serves;
          in_front = kept.0.in_front;
          ruled = kept.0.ruled;
          cells = record { cells = kept.0.cells.cells; short = kept.0.cells.short };
          short = omega (arith, kept.0.short, same);
          laid = fields-laid bytes bars line_length (length asked) format 0 cells entries (row-short keys rules height entries kept.0) kept.0.kept;
        },
        all-laid elements kept.1,
      )
  all-laid (Rule sign ∷ elements) kept = (tt, all-laid elements kept.1)
  all-laid (Command from to ∷ elements) kept = (record { order = kept.0.order; within = kept.0.within }, all-laid elements kept.1)

  -- and have the same texts, and the same blocks in their measures
  element_of-laid : (e : KeptElement)
      → element_of bytes formats (laid_element bytes formats bars line_length asked e) ≡ filled_element bars line_length asked (element_of bytes formats e)
  element_of-laid (Row keys rules height entries) =
      let format = row_at formats keys in
      let cells = by_cells 0 format.keys asked in
      ap (λ (fields : List Content). OneRow (rows_in_front formats keys rules) format (completed format fields))
      (contents-laid bytes bars line_length (length asked) cells entries)
      ∙ ap (λ (fields : List Content). OneRow (rows_in_front formats keys rules) format fields)
      (sym (filled-completed bars line_length (length asked) cells format (map (content_of bytes) entries)))
  element_of-laid (Rule sign) = refl
  element_of-laid (Command from to) = refl

  pub elements_of-laid : (elements : List KeptElement)
      → elements_of bytes formats (map (laid_element bytes formats bars line_length asked) elements) ≡ filled bars line_length asked (elements_of bytes formats elements)
  elements_of-laid [] = refl
  elements_of-laid (e ∷ elements) =
      ap (λ (first : Element). first ∷ elements_of bytes formats (map (laid_element bytes formats bars line_length asked) elements)) (element_of-laid e)
      ∙ ap (λ (es : List Element). filled_element bars line_length asked (element_of bytes formats e) ∷ es) (elements_of-laid elements)

-- a field that isn't a block stays as it is, and stands in no column as one
pub laid_by-none : (kind : EntryKind) (bytes : List ℕ) (measure : ℕ) (e : Entry) → ((b : BlockEntry) → kind ≡ BlockKind b → ⊥)
    → e ≡ laid_by kind bytes measure e
laid_by-none (TextKind glyphs width) bytes measure e none = refl
laid_by-none (SplitKind s) bytes measure e none = refl
laid_by-none (BlockKind b) bytes measure e none = absurd (none b refl)
laid_by-none (RuledKind sign) bytes measure e none = refl
laid_by-none ShortKind bytes measure e none = refl
laid_by-none (RepeatedKind byte) bytes measure e none = refl
laid_by-none AboveKind bytes measure e none = refl

pub block_stands-none : (kind : EntryKind) (key : Key) (e : Entry) → ((b : BlockEntry) → kind ≡ BlockKind b → ⊥)
    → block_stands_by kind key e ≡ Nowhere
block_stands-none (TextKind glyphs width) key e none = refl
block_stands-none (SplitKind s) key e none = refl
block_stands-none (BlockKind b) key e none = absurd (none b refl)
block_stands-none (RuledKind sign) key e none = refl
block_stands-none ShortKind key e none = refl
block_stands-none (RepeatedKind byte) key e none = refl
block_stands-none AboveKind key e none = refl

-- the lines of a row with a field more
pub height_of-more : (entries : List Entry) (at : ℕ) (e : Entry) → at < length entries
    → height_of (take (at + 1) (set entries at e)) ≡ max (lines_by e.kind) (height_of (take at entries))
height_of-more entries at e more =
    let last : height_of (take at entries ++ e ∷ []) ≡ max (lines_by e.kind) (height_of (take at entries)) =
    omega (arith, greatest-more (λ (f : Entry). lines_by f.kind) (take at entries) e) in
    ap height_of (take_more_set entries at e more) ∙ last

-- fields that are kept lie within the table's bytes
field-lies : (kind : EntryKind) (bytes : List ℕ) (key : Key) (e : Entry) → IsKeptBy kind bytes key e → Lies bytes e
field-lies (TextKind glyphs width) bytes key e kept = record { order = kept.order; within = kept.within }
field-lies (SplitKind s) bytes key e kept = record { order = kept.order; within = kept.within }
field-lies (BlockKind b) bytes key e kept = record { order = kept.lies.order; within = kept.lies.within }
field-lies (RuledKind sign) bytes key e kept = record { order = kept.order; within = kept.within }
field-lies ShortKind bytes key e kept = record { order = kept.order; within = kept.within }
field-lies (RepeatedKind byte) bytes key e kept = record { order = kept.order; within = kept.within }
field-lies AboveKind bytes key e kept = record { order = kept.order; within = kept.within }

pub fields-lie : (bytes : List ℕ) (format : FormatRow) (column : ℕ) (entries : List Entry) → AreKept bytes format column entries → FieldsLie bytes entries
fields-lie bytes format column [] kept = tt
fields-lie bytes format column (e ∷ entries) kept = (field-lies e.kind bytes (key_at format column) e kept.0, fields-lie bytes format (suc column) entries kept.1)
