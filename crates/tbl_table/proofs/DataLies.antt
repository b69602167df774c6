-- What is kept of a table lies within its bytes.
use Rattle.std.proofs.Common.{Bool, ◌≡◌, ℕ, suc, ◌+◌, ◌≤◌, List, [], ◌∷◌, ◌++◌, length, map, refl, ap, ◌∙◌, arith, if◌then◌else◌, ◌==◌}
use Rattle.std.specs.List.{AllByRecursion}
use Rattle.tbl_data.specs.TableData.{ElementEnds, EntryEnds}
use Rattle.tbl_format.specs.Format.{FormatRow}
use Rattle.tbl_format.specs.RowsServed.{row_at}
use Rattle.tbl_kept.specs.Rows.{AreKept, AreLaid, Command, ElementKept, ElementLaid, KeptElement, KeptRows, Row, RowsKept, RowsLaid, Rule, element_of, elements_of, rows_in_front}
use Rattle.tbl_layout.specs.Entries.{Block, Command as OneCommand, Content, Element, Row as OneRow, Text, completed, key_at}
use Rattle.tbl_layout.specs.KeptEntries.{IsKeptBy, IsLaidBy, content_by, content_of}
use Rattle.tbl_layout.specs.declared.entry.Entry.{Entry}
use Rattle.tbl_layout.specs.declared.entry.EntryKind.{EntryKind}
use Rattle.tbl_layout.specs.declared.entry.EntryKind.TheVariants.{Above as AboveKind, Block as BlockKind, Repeated as RepeatedKind, Ruled as RuledKind, Short as ShortKind, Split as SplitKind, Text as TextKind}
use Rattle.tbl_format.specs.declared.format.Key.{Key}
use Rattle.tbl_text.specs.BlockWords.{lines_in}
use Rattle.tbl_kept.proofs.KeptFields.{part-more}

-- a field that is kept, or laid out
kept-lies : (kind : EntryKind) (bytes : List ℕ) (key : Key) (e : Entry) → IsKeptBy kind bytes key e → EntryEnds (length bytes) e
kept-lies (TextKind glyphs width) bytes key e kept = kept.within
kept-lies (SplitKind s) bytes key e kept = kept.within
kept-lies (BlockKind b) bytes key e kept = kept.lies.within
kept-lies (RuledKind sign) bytes key e kept = kept.within
kept-lies ShortKind bytes key e kept = kept.within
kept-lies (RepeatedKind b) bytes key e kept = kept.within
kept-lies AboveKind bytes key e kept = kept.within

laid-lies : (kind : EntryKind) (bytes : List ℕ) (key : Key) (e : Entry) → IsLaidBy kind bytes key e → EntryEnds (length bytes) e
laid-lies (TextKind glyphs width) bytes key e laid = laid.within
laid-lies (SplitKind s) bytes key e laid = laid.within
laid-lies (BlockKind b) bytes key e laid = laid.lies.within
laid-lies (RuledKind sign) bytes key e laid = laid.within
laid-lies ShortKind bytes key e laid = laid.within
laid-lies (RepeatedKind b) bytes key e laid = laid.within
laid-lies AboveKind bytes key e laid = laid.within

pub fields-kept : (bytes : List ℕ) (format : FormatRow) (column : ℕ) (entries : List Entry) → AreKept bytes format column entries → AllByRecursion (EntryEnds (length bytes)) entries
fields-kept bytes format column [] kept = tt
fields-kept bytes format column (e ∷ entries) kept =
    (kept-lies e.kind bytes (key_at format column) e kept.0, fields-kept bytes format (suc column) entries kept.1)

fields-laid : (bytes : List ℕ) (format : FormatRow) (cell : ℕ) (entries : List Entry) → AreLaid bytes format cell entries
    → AllByRecursion (EntryEnds (length bytes)) entries
fields-laid bytes format cell [] laid = tt
fields-laid bytes format cell (e ∷ entries) laid =
    (laid-lies e.kind bytes (key_at format cell) e laid.0, fields-laid bytes format (suc cell) entries laid.1)

element-kept : (bytes : List ℕ) (formats : List FormatRow) (columns : ℕ) (e : KeptElement) → ElementKept bytes formats columns e → ElementEnds (length bytes) e
element-kept bytes formats columns (Row keys rules height entries) kept = fields-kept bytes (row_at formats keys) 0 entries kept.kept
element-kept bytes formats columns (Rule sign) kept = tt
element-kept bytes formats columns (Command from to) kept = kept.within

element-laid : (bytes : List ℕ) (formats : List FormatRow) (columns : ℕ) (e : KeptElement) → ElementLaid bytes formats columns e → ElementEnds (length bytes) e
element-laid bytes formats columns (Row keys rules height entries) laid = fields-laid bytes (row_at formats keys) 0 entries laid.laid
element-laid bytes formats columns (Rule sign) laid = tt
element-laid bytes formats columns (Command from to) laid = laid.within

elements-kept : (bytes : List ℕ) (formats : List FormatRow) (columns : ℕ) (es : List KeptElement) → AllByRecursion (ElementKept bytes formats columns) es
    → AllByRecursion (ElementEnds (length bytes)) es
elements-kept bytes formats columns [] kept = tt
elements-kept bytes formats columns (e ∷ es) kept = (element-kept bytes formats columns e kept.0, elements-kept bytes formats columns es kept.1)

elements-laid : (bytes : List ℕ) (formats : List FormatRow) (columns : ℕ) (es : List KeptElement) → AllByRecursion (ElementLaid bytes formats columns) es
    → AllByRecursion (ElementEnds (length bytes)) es
elements-laid bytes formats columns [] laid = tt
elements-laid bytes formats columns (e ∷ es) laid = (element-laid bytes formats columns e laid.0, elements-laid bytes formats columns es laid.1)

-- all that is kept, and all that is laid out
pub lies-kept : (bytes : List ℕ) (formats : List FormatRow) (k : KeptRows) → RowsKept bytes formats k → AllByRecursion (ElementEnds (length bytes)) k.elements
lies-kept bytes formats k kept = elements-kept bytes formats (length k.columns) k.elements kept.elements

pub lies-laid : (bytes : List ℕ) (formats : List FormatRow) (is_inside : Bool) (k : KeptRows) → RowsLaid bytes formats is_inside k → AllByRecursion (ElementEnds (length bytes)) k.elements
lies-laid bytes formats is_inside k laid = elements-laid bytes formats (length k.columns) k.elements laid.elements

-- what ends by a place ends by a later one
fields-longer : (a b : ℕ) (entries : List Entry) → a ≤ b → AllByRecursion (EntryEnds a) entries → AllByRecursion (EntryEnds b) entries
fields-longer a b [] less lies = tt
fields-longer a b (e ∷ entries) less lies = (omega (arith, less, lies.0), fields-longer a b entries less lies.1)

element-longer : (a b : ℕ) (e : KeptElement) → a ≤ b → ElementEnds a e → ElementEnds b e
element-longer a b (Row keys rules height entries) less lies = fields-longer a b entries less lies
element-longer a b (Rule sign) less lies = tt
element-longer a b (Command from to) less lies = omega (arith, less, lies)

pub lies-longer : (a b : ℕ) (es : List KeptElement) → a ≤ b → AllByRecursion (ElementEnds a) es → AllByRecursion (ElementEnds b) es
lies-longer a b [] less lies = tt
lies-longer a b (e ∷ es) less lies = (element-longer a b e less lies.0, lies-longer a b es less lies.1)

-- where the bytes grow it is the same
module _ (bytes more : List ℕ) where
  content-by : (kind : EntryKind) (from to : ℕ) → to ≤ length bytes → content_by kind (bytes ++ more) from to ≡ content_by kind bytes from to
  content-by (TextKind glyphs width) from to within = ap Text (part-more bytes more from to within)
  content-by (SplitKind s) from to within = ap Text (part-more bytes more from to within)
  content-by (BlockKind b) from to within =
      ap (λ (part : List ℕ). Block b.measure (if from == to then [] else lines_in part)) (part-more bytes more (from + 1) to within)
  content-by (RuledKind sign) from to within = refl
  content-by ShortKind from to within = refl
  content-by (RepeatedKind b) from to within = refl
  content-by AboveKind from to within = refl

  contents-same : (entries : List Entry) → AllByRecursion (EntryEnds (length bytes)) entries → map (content_of (bytes ++ more)) entries ≡ map (content_of bytes) entries
  contents-same [] lies = refl
  contents-same (e ∷ entries) lies =
      ap (λ (c : Content). c ∷ map (content_of (bytes ++ more)) entries) (content-by e.kind e.from e.to lies.0)
      ∙ ap (λ (cs : List Content). content_of bytes e ∷ cs) (contents-same entries lies.1)

  element-same : (formats : List FormatRow) (e : KeptElement) → ElementEnds (length bytes) e → element_of (bytes ++ more) formats e ≡ element_of bytes formats e
  element-same formats (Row keys rules height entries) lies =
      ap (λ (fields : List Content). OneRow (rows_in_front formats keys rules) (row_at formats keys) (completed (row_at formats keys) fields)) (contents-same entries lies)
  element-same formats (Rule sign) lies = refl
  element-same formats (Command from to) lies = ap OneCommand (part-more bytes more from to lies)

  pub body-more : (formats : List FormatRow) (es : List KeptElement) → AllByRecursion (ElementEnds (length bytes)) es
      → elements_of (bytes ++ more) formats es ≡ elements_of bytes formats es
  body-more formats [] lies = refl
  body-more formats (e ∷ es) lies =
      ap (λ (x : Element). x ∷ elements_of (bytes ++ more) formats es) (element-same formats e lies.0)
      ∙ ap (λ (xs : List Element). element_of bytes formats e ∷ xs) (body-more formats es lies.1)
