-- What is kept of the data of a table says the same where the bytes grow.
use Rattle.std.specs.List.{slice_range, AllByRecursion}
use Rattle.std.proofs.Common.{Bool, suc, ◌≡◌, ℕ, ◌≤◌, List, [], ◌∷◌, ◌++◌, length, map, Option, None, sym, ap, ◌∙◌, arith, length-append}
use Rattle.tbl_data.specs.TableData.{BadFits, DataFits, ElementEnds, EndsBy, EntryEnds, FitsBehind, FormatFits, begun_by, table_by}
use Rattle.tbl_data.specs.TableRead.{RowBegun, TableRead}
use Rattle.tbl_data.specs.declared.phase.Phase.{Phase}
use Rattle.tbl_data.specs.declared.phase.Phase.TheVariants.{AtHead, Bad, InData, InFormat}
use Rattle.tbl_data.specs.declared.table_data.OpenBlock.{OpenBlock}
use Rattle.tbl_data.specs.declared.table_data.OpenBlock.TheVariants.{Nothing}
use Rattle.tbl_data.specs.declared.table_data.TableData.{TableData}
use Rattle.tbl_format.specs.Format.{FormatRow}
use Rattle.tbl_format.specs.declared.format.Key.{Key}
use Rattle.tbl_options.specs.Notes.{NotesWithin}
use Rattle.tbl_format.specs.RowsServed.{all_rows, row_at}
use Rattle.tbl_options.specs.declared.message.Told.{Told}
use Rattle.tbl_options.specs.declared.options.Options.{Options}
use Rattle.tbl_kept.specs.Rows.{AreKept, Command, ElementKept, KeptElement, Row, RowBegunKept, Rule}
use Rattle.tbl_layout.specs.Entries.{Content, Element, is_number, key_at}
use Rattle.tbl_layout.specs.KeptEntries.{IsKeptBy, IsText, content_of, text_entry}
use Rattle.tbl_layout.specs.declared.entry.Entry.{Entry}
use Rattle.tbl_layout.specs.declared.entry.EntryKind.{EntryKind}
use Rattle.tbl_layout.specs.declared.entry.EntryKind.TheVariants.{Above as AboveKind, Block as BlockKind, Repeated as RepeatedKind, Ruled as RuledKind, Short as ShortKind, Split as SplitKind, Text as TextKind}
use Rattle.tbl_kept.proofs.KeptFields.{contents-more, part-more}
use Rattle.tbl_kept.proofs.RowsKeeping.{RowBegunKept-more}
use Rattle.tbl_table.proofs.DataLies.{body-more, lies-kept}
use Rattle.tbl_table.proofs.NotesKept.{NotesWithin-more, told-longer}

-- a table by what of it lies in the bytes
abbrev pub with_parts : TableRead → Option RowBegun → List Element → List Told → TableRead
with_parts t begun body notes = record t { begun = begun; body = body; notes = notes }

pub parts-same : (t : TableRead) (begun begun' : Option RowBegun) (body body' : List Element) (notes notes' : List Told) → begun ≡ begun' → body ≡ body'
    → notes ≡ notes' → with_parts t begun body notes ≡ with_parts t begun' body' notes'
parts-same t begun begun' body body' notes notes' b r n =
    ap (λ (x : Option RowBegun). with_parts t x body notes) b
    ∙ ap (λ (x : List Element). with_parts t begun' x notes) r
    ∙ ap (λ (x : List Told). with_parts t begun' body' x) n

-- no row is begun where no block is open
pub none-begun : (open1 : OpenBlock) (contents : List Content) → open1 ≡ Nothing → begun_by open1 contents ≡ None
none-begun open1 contents closed = ap (λ (o : OpenBlock). begun_by o contents) closed

-- what lies within the bytes
pub record Lies (bytes more : List ℕ) (d : TableData) : Type 0 where
  pub begun : begun_by d.open (map (content_of (bytes ++ more)) d.rows.row) ≡ begun_by d.open (map (content_of bytes) d.rows.row)
  pub lies : AllByRecursion (ElementEnds (length bytes)) d.rows.elements
  pub notes : NotesWithin (length bytes) d.notes.notes

module _ (bytes more : List ℕ) (d : TableData) where
  longer : length bytes ≤ length (bytes ++ more)
  longer = omega (arith, length-append bytes more)

  none-same : d.open ≡ Nothing → begun_by d.open (map (content_of (bytes ++ more)) d.rows.row) ≡ begun_by d.open (map (content_of bytes) d.rows.row)
  none-same closed =
      none-begun d.open (map (content_of (bytes ++ more)) d.rows.row) closed ∙ sym (none-begun d.open (map (content_of bytes) d.rows.row) closed)

  pub Lies-data : DataFits bytes d → Lies bytes more d
  Lies-data fits = record {
    begun = ap (begun_by d.open) (contents-more bytes more (row_at (all_rows d.format.format) d.keys) 0 d.rows.row fits.kept.row);
    lies = lies-kept bytes (all_rows d.format.format) d.rows fits.kept.all;
    notes = fits.notes;
  }

  pub Lies-format : FormatFits bytes d → Lies bytes more d
  Lies-format fits = record {
    begun = none-same fits.closed;
    lies = lies-kept bytes (all_rows d.format.format) d.rows fits.kept.all;
    notes = fits.notes;
  }

  pub Lies-bad : BadFits bytes d → AllByRecursion (ElementEnds (length bytes)) d.rows.elements → Lies bytes more d
  Lies-bad fits lies = record { begun = none-same fits.closed; lies = lies; notes = fits.notes }

  pub Lies-behind : (p : Phase) → FitsBehind p bytes d → AllByRecursion (ElementEnds (length bytes)) d.rows.elements → Lies bytes more d
  Lies-behind AtHead fits lies = absurd fits
  Lies-behind InFormat fits lies = Lies-format fits
  Lies-behind InData fits lies = Lies-data fits
  Lies-behind Bad fits lies = Lies-bad fits lies

  -- the table stays the same
  pub table-more : (p : Phase) (options : Options) → Lies bytes more d → table_by p options (bytes ++ more) d ≡ table_by p options bytes d
  table-more p options lies =
      parts-same (table_by p options bytes d) _ _ _ _ _ _ lies.begun
      (body-more bytes more (all_rows d.format.format) d.rows.elements lies.lies) (told-longer bytes more d.notes.notes lies.notes)

  -- and fits as before
  pub DataFits-more : DataFits bytes d → DataFits (bytes ++ more) d
  DataFits-more fits = record {
    kept = RowBegunKept-more bytes more (all_rows d.format.format) d.keys d.rows fits.kept;
    block = fits.block;
    columns = fits.columns;
    served = fits.served;
    whole = fits.whole;
    notes = NotesWithin-more (length bytes) (length (bytes ++ more)) d.notes.notes longer fits.notes;
  }

  pub FormatFits-more : FormatFits bytes d → FormatFits (bytes ++ more) d
  FormatFits-more fits = record {
    kept = RowBegunKept-more bytes more (all_rows d.format.format) d.keys d.rows fits.kept;
    closed = fits.closed;
    none = fits.none;
    columns = fits.columns;
    first = fits.first;
    rules = fits.rules;
    notes = NotesWithin-more (length bytes) (length (bytes ++ more)) d.notes.notes longer fits.notes;
  }

  pub BadFits-more : BadFits bytes d → BadFits (bytes ++ more) d
  BadFits-more fits = record {
    closed = fits.closed;
    notes = NotesWithin-more (length bytes) (length (bytes ++ more)) d.notes.notes longer fits.notes;
  }

  pub behind-more : (p : Phase) → FitsBehind p bytes d → FitsBehind p (bytes ++ more) d
  behind-more AtHead fits = absurd fits
  behind-more InFormat fits = FormatFits-more fits
  behind-more InData fits = DataFits-more fits
  behind-more Bad fits = BadFits-more fits

-- and where they are cut behind all that is kept
module _ (bytes more : List ℕ) (d : TableData) (ends : EndsBy (length bytes) d) where
  part-less : (from to : ℕ) → to ≤ length bytes → slice_range bytes from to ≡ slice_range (bytes ++ more) from to
  part-less from to within = sym (part-more bytes more from to within)

  text-less : (is_number : Bool) (e : Entry) → EntryEnds (length bytes) e → IsText (bytes ++ more) is_number e → IsText bytes is_number e
  text-less is_number e within text = record {
    order = text.order;
    within = within;
    is = text.is ∙ ap (λ (part : List ℕ). text_entry is_number e.from part) (sym (part-less e.from e.to within));
  }

  kept-less : (kind : EntryKind) (key : Key) (e : Entry) → EntryEnds (length bytes) e → IsKeptBy kind (bytes ++ more) key e → IsKeptBy kind bytes key e
  kept-less (TextKind glyphs width) key e within kept = text-less (is_number key) e within kept
  kept-less (SplitKind s) key e within kept = text-less (is_number key) e within kept
  kept-less (BlockKind b) key e within kept = record { lies = record { order = kept.lies.order; within = within }; is = kept.is }
  kept-less (RuledKind sign) key e within kept = record { order = kept.order; within = within }
  kept-less ShortKind key e within kept = record { order = kept.order; within = within }
  kept-less (RepeatedKind b) key e within kept = record { order = kept.order; within = within }
  kept-less AboveKind key e within kept = record { order = kept.order; within = within }

  fields-less : (format : FormatRow) (column : ℕ) (entries : List Entry) → AllByRecursion (EntryEnds (length bytes)) entries
      → AreKept (bytes ++ more) format column entries → AreKept bytes format column entries
  fields-less format column [] within kept = tt
  fields-less format column (e ∷ entries) within kept =
      (kept-less e.kind (key_at format column) e within.0 kept.0, fields-less format (suc column) entries within.1 kept.1)

  element-less : (formats : List FormatRow) (columns : ℕ) (e : KeptElement) → ElementEnds (length bytes) e → ElementKept (bytes ++ more) formats columns e
      → ElementKept bytes formats columns e
  element-less formats columns (Row keys rules height entries) within kept =
      record { serves = kept.serves; in_front = kept.in_front; ruled = kept.ruled; cells = kept.cells; short = kept.short; kept = fields-less (row_at formats keys) 0 entries within kept.kept; low = kept.low }
  element-less formats columns (Rule sign) within kept = tt
  element-less formats columns (Command from to) within kept = record { order = kept.order; within = within }

  elements-less : (formats : List FormatRow) (columns : ℕ) (es : List KeptElement) → AllByRecursion (ElementEnds (length bytes)) es
      → AllByRecursion (ElementKept (bytes ++ more) formats columns) es → AllByRecursion (ElementKept bytes formats columns) es
  elements-less formats columns [] within kept = tt
  elements-less formats columns (e ∷ es) within kept =
      (element-less formats columns e within.0 kept.0, elements-less formats columns es within.1 kept.1)

  rows-less : RowBegunKept (bytes ++ more) (all_rows d.format.format) d.keys d.rows → RowBegunKept bytes (all_rows d.format.format) d.keys d.rows
  rows-less kept = record {
    all = record {
      elements = elements-less (all_rows d.format.format) (length d.rows.columns) d.rows.elements ends.elements kept.all.elements;
      columns = kept.all.columns;
    };
    row = fields-less (row_at (all_rows d.format.format) d.keys) 0 d.rows.row ends.row kept.row;
    short = kept.short;
  }

  pub behind-less : (p : Phase) → FitsBehind p (bytes ++ more) d → FitsBehind p bytes d
  behind-less AtHead fits = absurd fits
  behind-less InFormat fits = record {
    kept = rows-less fits.kept;
    closed = fits.closed;
    none = fits.none;
    columns = fits.columns;
    first = fits.first;
    rules = fits.rules;
    notes = ends.notes;
  }
  behind-less InData fits = record {
    kept = rows-less fits.kept;
    block = fits.block;
    columns = fits.columns;
    served = fits.served;
    whole = fits.whole;
    notes = ends.notes;
  }
  behind-less Bad fits = record { closed = fits.closed; notes = ends.notes }
