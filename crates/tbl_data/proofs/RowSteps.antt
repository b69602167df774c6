-- What is kept of a table behind a step of its data: a row that ends, a block that opens, messages.
use Rattle.std.proofs.Common.{◌≡◌, ◌≢◌, ℕ, suc, ◌+◌, ◌-◌, ◌<◌, ◌≤◌, Bool, true, false, List, [], ◌∷◌, ◌++◌, length, map, take, drop, Option, None, Some, refl, sym, ap, subst, ◌∙◌, arith, length-append, nat_lt, if◌then◌else◌, eq-eqb, length-drop}
use Rattle.std.specs.List.{slice_range}
use Rattle.std.proofs.lemmas.Bool.Decides.{nat_tests}
use Rattle.std.proofs.lemmas.List.{length-map, map-append}
use Rattle.std.proofs.Math.Seq.{drop-append-add, get_or-append_right}
use Rattle.tbl_data.specs.DataRead.{cells, row_opened, row_opened_under, rules_in_front, rules_next, serving}
use Rattle.tbl_data.specs.LineTaken.{EndsRow, Grows, OpensBlock, RowFits, cells_next, key_next, more_notes}
use Rattle.tbl_data.specs.TableData.{ElementEnds, EndsBy, EndsInBlock, LastEndsAt, Serves, row_with_block, table_by}
use Rattle.tbl_data.specs.TableRead.{RowBegun, with_notes}
use Rattle.tbl_data.specs.declared.phase.Phase.{Phase}
use Rattle.tbl_data.specs.declared.phase.Phase.TheVariants.{InData}
use Rattle.tbl_data.specs.declared.table_data.OpenBlock.TheVariants.{Dropped, Kept, Nothing}
use Rattle.tbl_data.specs.declared.table_data.TableData.{TableData}
use Rattle.tbl_data.proofs.EndsKept.{all-append}
use Rattle.tbl_data.proofs.OtherFields.{no-text-said, other-content, other-lies}
use Rattle.tbl_data.proofs.RuleRows.{rule_rows-fewer, rule_rows-last, ruled-rows}
use Rattle.tbl_format.specs.Cells.{cell_count}
use Rattle.tbl_format.specs.Format.{Format, FormatRow}
use Rattle.tbl_format.specs.FormatRows.{AreWithin}
use Rattle.tbl_options.specs.Notes.{told_of, told_of_all}
use Rattle.tbl_format.specs.RowsServed.{all_rows, next_of, no_keys, row_at}
use Rattle.tbl_format.specs.declared.format.FormatKey.{FormatKey}
use Rattle.tbl_options.specs.declared.message.Told.{Told}
use Rattle.tbl_options.specs.declared.notes.KeptNote.{KeptNote}
use Rattle.tbl_options.specs.declared.options.Options.{Options}
use Rattle.tbl_kept.proofs.RowsKeeping.{RowBegunKept-entry, RowBegunKept-first, RowsKept-row, contents-entry, elements_of-row}
use Rattle.tbl_kept.proofs.RowsLaidOut.{length-held_by}
use Rattle.tbl_kept.specs.RowsLaying.{AreOpened, IsOpenedKind}
use Rattle.tbl_layout.specs.declared.entry.EntryKind.{EntryKind}
use Rattle.tbl_layout.specs.declared.entry.EntryKind.TheVariants.{Above as AboveKind, Block as BlockKind, Repeated as RepeatedKind, Ruled as RuledKind, Short as ShortKind, Split as SplitKind, Text as TextKind}
use Rattle.tbl_format.specs.declared.format.Key.{Key}
use Rattle.tbl_kept.specs.Rows.{AreKept, KeptElement, KeptRows, Row, elements_of, entries_in, rows_in_front, with_entry, with_row as row_kept}
use Rattle.tbl_kept.specs.TableNotes.{KeptNotes}
use Rattle.tbl_layout.specs.Entries.{Block, Content, Element, Row as OneRow, completed, key_at}
use Rattle.tbl_layout.specs.Columns.{row_stands}
use Rattle.tbl_layout.specs.KeptEntries.{IsKeptBy, block_lines, content_of, kept_kind, not_filled, opened_at, rule_entry, stands_of}
use Rattle.tbl_layout.specs.RuleKeys.{kind_of_key, rule_rows}
use Rattle.tbl_layout.specs.declared.data_lines.FieldKind.{FieldKind}
use Rattle.tbl_layout.specs.declared.data_lines.FieldKind.TheVariants.{Text as OneText}
use Rattle.tbl_layout.specs.declared.entry.Entry.{Entry}
use Rattle.tbl_text.specs.BlockWords.{lines_in}

-- messages more are told behind the others
pub table-notes : (phase : Phase) (options : Options) (bytes : List ℕ) (d : TableData) (notes : List KeptNote) (new : KeptNotes)
    → new ≡ more_notes notes d.notes
    → table_by phase options bytes (record d { notes = new }) ≡ with_notes (told_of_all bytes notes) (table_by phase options bytes d)
table-notes phase options bytes d notes new is =
    ap (λ (ns : KeptNotes). table_by phase options bytes (record d { notes = ns })) is
    ∙ ap (λ (ts : List Told). record (table_by phase options bytes d) { notes = ts }) (map-append (told_of bytes) d.notes.notes notes)

-- as many fields as of the elements of both
pub entries_in-append : (some more : List KeptElement) → entries_in (some ++ more) ≡ entries_in some + entries_in more
entries_in-append [] more = omega arith
entries_in-append (e ∷ some) more = omega (arith, entries_in-append some more)

-- the row of the last format, by its place among all, and those from one on
serving-at : (earlier rows : List FormatRow) (keys : ℕ) → length earlier ≤ keys → row_at (earlier ++ rows) keys ≡ row_at rows (keys - length earlier)
serving-at earlier rows keys behind = get_or-append_right earlier rows keys no_keys behind

rows-from : (earlier rows : List FormatRow) (at : ℕ) → length earlier ≤ at → drop (at - length earlier) rows ≡ drop at (earlier ++ rows)
rows-from earlier rows at behind =
    let here : length earlier + (at - length earlier) ≡ at = omega (arith, behind) in
    sym (drop-append-add earlier rows (at - length earlier)) ∙ ap (λ (n : ℕ). drop n (earlier ++ rows)) here

-- a row of a format serves the next row of the data, by the place of the first of those in front of it that weren't served
module _ (f : Format) (keys rules : ℕ) (served : Serves f keys rules) where
  abbrev first-left : ℕ
  first-left = keys - rules - length f.earlier

  abbrev left : List FormatRow
  left = drop first-left f.rows

  left-is : left ≡ drop (keys - rules) (all_rows f)
  left-is = rows-from f.earlier f.rows (keys - rules) (omega (arith, served.first))

  rules-are : rule_rows left ≡ rules
  rules-are = ap rule_rows left-is ∙ served.skipped

  place-is : first-left + rule_rows left ≡ keys - length f.earlier
  place-is = omega (arith, rules-are, served.first)

  front-is : take (rule_rows left) left ≡ rows_in_front (all_rows f) keys rules
  front-is = ap (λ (n : ℕ). take n left) rules-are ∙ ap (λ (rows : List FormatRow). take rules rows) left-is

  row-is : row_at f.rows (first-left + rule_rows left) ≡ row_at (all_rows f) keys
  row-is = ap (λ (n : ℕ). row_at f.rows n) place-is ∙ sym (serving-at f.earlier f.rows keys (omega (arith, served.first)))

-- the key of the cell that comes next
pub key-is : (phase : Phase) (options : Options) (bytes : List ℕ) (d : TableData) → Serves d.format.format d.keys d.rules
    → key_at (serving (table_by phase options bytes d)) (length (map (content_of bytes) d.rows.row)) ≡ key_next d
key-is phase options bytes d served =
    ap (λ (row : FormatRow). key_at row (length (map (content_of bytes) d.rows.row))) (row-is d.format.format d.keys d.rules served)
    ∙ ap (λ (n : ℕ). key_at (row_at (all_rows d.format.format) d.keys) n) (length-map d.rows.row (content_of bytes))

-- and how many cells the row has
pub cells-is : (phase : Phase) (options : Options) (bytes : List ℕ) (d : TableData) → Serves d.format.format d.keys d.rules
    → cells (table_by phase options bytes d) ≡ cells_next d
cells-is phase options bytes d served =
    ap (λ (row : FormatRow). cell_count row.keys (length d.format.format.asked)) (row-is d.format.format d.keys d.rules served)

-- another row serves the row of the data behind it
pub record IsNext (f : Format) (keys next rules : ℕ) : Type 0 where
  pub served : Serves f next rules
  pub is : next - rules - length f.earlier ≡ next_of (keys - length f.earlier) (length f.rows)

module _ (f : Format) (keys rules : ℕ) (served : Serves f keys rules) where
  abbrev from : ℕ
  from = keys - length f.earlier

  behind-earlier : length f.earlier ≤ keys
  behind-earlier = omega (arith, served.first)

  next-by : (more : Bool) → nat_lt (from + 1) (length f.rows) ≡ more → next_of from (length f.rows) ≡ (if more then from + 1 else from)
  next-by more is = ap (λ (b : Bool). if b then from + 1 else from) is

  pub next-served : keys + 1 < length (all_rows f) → (next : ℕ) → next ≡ rule_rows (drop (keys + 1) (all_rows f)) → IsNext f keys (keys + 1 + next) next
  next-served more next is =
      let left = drop (keys + 1) (all_rows f) in
      let some : length left ≡ length (all_rows f) - (keys + 1) = length-drop (keys + 1) (all_rows f) in
      let fewer = rule_rows-fewer left (omega (arith, some, more)) in
      let back : keys + 1 + next - next ≡ keys + 1 = omega arith in
      let test : nat_lt (from + 1) (length f.rows) ≡ true = grind (arith, nat_tests, more, behind-earlier, length-append f.earlier f.rows) in
      let place : keys + 1 + next - next - length f.earlier ≡ from + 1 = omega (arith, behind-earlier) in
      record {
        served = record {
          first = omega (arith, behind-earlier);
          serves = omega (arith, is, some, fewer, more);
          skipped = ap (λ (n : ℕ). rule_rows (drop n (all_rows f))) back ∙ sym is;
        };
        is = place ∙ sym (next-by true test);
      }

  pub last-served : length (all_rows f) ≤ keys + 1 → IsNext f keys keys 0
  last-served last =
      let test : nat_lt (from + 1) (length f.rows) ≡ false = grind (arith, nat_tests, last, behind-earlier, length-append f.earlier f.rows) in
      let place : keys - 0 - length f.earlier ≡ from = omega arith in
      record {
        served = record {
          first = omega (arith, behind-earlier);
          serves = served.serves;
          skipped = ap (λ (n : ℕ). rule_rows (drop n (all_rows f))) (omega arith) ∙ rule_rows-last (all_rows f) keys last;
        };
        is = place ∙ sym (next-by false test);
      }

-- the blocks of a row that is kept aren't filled
opened-by : (kind : EntryKind) (bytes : List ℕ) (key : Key) (e : Entry) → e.kind ≡ kind → IsKeptBy kind bytes key e → IsOpenedKind kind
opened-by (TextKind glyphs width) bytes key e is kept = tt
opened-by (SplitKind s) bytes key e is kept = tt
opened-by (BlockKind b) bytes key e is kept = let same : BlockKind b ≡ BlockKind not_filled = sym is ∙ kept.is in cc
opened-by (RuledKind sign) bytes key e is kept = tt
opened-by ShortKind bytes key e is kept = tt
opened-by (RepeatedKind b) bytes key e is kept = tt
opened-by AboveKind bytes key e is kept = tt

pub kept-opened : (bytes : List ℕ) (format : FormatRow) (column : ℕ) (entries : List Entry) → AreKept bytes format column entries → AreOpened entries
kept-opened bytes format column [] kept = tt
kept-opened bytes format column (e ∷ entries) kept = (opened-by e.kind bytes (key_at format column) e refl kept.0, kept-opened bytes format (suc column) entries kept.1)

pub row-opened : (bytes : List ℕ) (d : TableData) → RowFits bytes d → AreOpened d.rows.row
row-opened bytes d fits = kept-opened bytes (row_at (all_rows d.format.format) d.keys) 0 d.rows.row fits.kept.row

-- the row is whole
module _ (bytes : List ℕ) (d : TableData) where
  abbrev formats : List FormatRow
  formats = all_rows d.format.format

  abbrev pub row_ended : ℕ → ℕ → TableData
  row_ended next rules =
      record d { keys = next; rules = rules; rows = row_kept d.keys d.rules (row_at formats d.keys) d.rows; «open» = Nothing }

  pub row-ends : (next rules : ℕ) → IsNext d.format.format d.keys next rules → AreWithin (length d.format.format.asked) (row_at formats d.keys).keys
      → RowFits bytes d → EndsRow bytes d (row_ended next rules)
  row-ends next rules is cells fits =
      let f = d.format.format in
      let contents = map (content_of bytes) d.rows.row in
      let body = elements_of bytes formats d.rows.elements in
      let served = fits.served in
      let before : d.rules ≤ d.keys = omega (arith, served.first) in
      let within = subst (λ (n : ℕ). AreWithin n (row_at formats d.keys).keys) (sym fits.columns) cells in
      record {
        table = λ options.
            let t = table_by InData options bytes d in
            let ended = table_by InData options bytes (row_ended next rules) in
            let place = next_of (t.next_row + rules_next t) (length f.rows) in
            ap (λ (n : ℕ). record ended { next_row = n }) (is.is ∙ sym (ap (λ (n : ℕ). next_of n (length f.rows)) (place-is f d.keys d.rules served)))
            ∙ ap (λ (b : List Element). record ended { next_row = place; body = b }) (elements_of-row bytes formats d.rows d.keys d.rules)
            ∙ ap (λ (rows : List FormatRow). record ended { next_row = place; body = body ++ OneRow rows (row_at formats d.keys) (completed (row_at formats d.keys) contents) ∷ [] }) (sym (front-is f d.keys d.rules served))
            ∙ ap (λ (row : FormatRow). record ended { next_row = place; body = body ++ OneRow (rules_in_front t) row (completed row contents) ∷ [] }) (sym (row-is f d.keys d.rules served));
        fits = record {
          kept = RowBegunKept-first bytes formats (row_kept d.keys d.rules (row_at formats d.keys) d.rows) next refl
              (RowsKept-row bytes formats d.rows d.keys d.rules served.serves before
              (ruled-rows (drop (d.keys - d.rules) formats) d.rules (omega (arith, served.skipped))) within fits.kept);
          block = refl;
          columns = length-held_by (row_stands stands_of 0 (row_at formats d.keys).keys d.rows.row) d.rows.columns ∙ fits.columns;
          served = is.served;
          whole = fits.whole;
          notes = fits.notes;
        };
      }

pub row-grows : (d : TableData) (next skipped keys rules : ℕ) (format : FormatRow)
    → Grows 0 1 d (record d { keys = next; rules = skipped; rows = row_kept keys rules format d.rows; «open» = Nothing })
row-grows d next skipped keys rules format =
    let row : List KeptElement = Row keys rules 1 d.rows.row ∷ [] in
    record {
      entries = omega (arith, entries_in-append d.rows.elements row);
      elements = omega (arith, length-append d.rows.elements row);
      notes = omega arith;
      to_tell = refl;
      rooms = record { entries = refl; elements = refl; columns = refl; notes = refl; keys = refl; asked = refl; escapes = refl };
    }

pub row-settled : (d : TableData) (next skipped keys rules : ℕ) (format : FormatRow) (place : ℕ) → EndsBy place d
    → EndsBy place (record d { keys = next; rules = skipped; rows = row_kept keys rules format d.rows; «open» = Nothing })
row-settled d next skipped keys rules format place ends =
    record { elements = all-append (ElementEnds place) d.rows.elements (Row keys rules 1 d.rows.row) ends.elements ends.row; row = tt; notes = ends.notes }

-- a row of which the keys are known is that one
pub row-by : (keys rules : ℕ) (row : FormatRow) (ks : List FormatKey) (k new : KeptRows) → ks ≡ row.keys
    → ((bars : ℕ) → new ≡ row_kept keys rules (record { keys = ks; bars = bars }) k) → new ≡ row_kept keys rules row k
row-by keys rules row ks k new is made = made row.bars ∙ ap (λ (xs : List FormatKey). row_kept keys rules (record { keys = xs; bars = row.bars }) k) is

-- a block opens
pub block-last : (contents : List Content) (measure : ℕ) (lines : List (List ℕ))
    → row_with_block (contents ++ Block measure lines ∷ []) ≡ record { fields = contents; block = Some lines; had_surplus = false }
block-last [] measure lines = refl
block-last (content ∷ []) measure lines = refl
block-last (content ∷ next ∷ contents) measure lines =
    ap (λ (row : RowBegun). record row { fields = content ∷ row.fields }) (block-last (next ∷ contents) measure lines)

pub ends-in-block : (row : List Entry) (to : ℕ) → EndsInBlock (row ++ opened_at to ∷ [])
ends-in-block [] to = tt
ends-in-block (e ∷ []) to = tt
ends-in-block (e ∷ next ∷ row) to = ends-in-block (next ∷ row) to

pub ends-at : (row : List Entry) (to : ℕ) → LastEndsAt to (row ++ opened_at to ∷ [])
ends-at [] to = refl
ends-at (e ∷ []) to = refl
ends-at (e ∷ next ∷ row) to = ends-at (next ∷ row) to

pub opens-kept : (bytes : List ℕ) (d : TableData) (to : ℕ) → to ≤ length bytes → length d.rows.row < cells_next d → kind_of_key (key_next d) ≡ None
    → RowFits bytes d → OpensBlock bytes false d (record d { rows = with_entry (opened_at to) d.rows; «open» = Kept })
opens-kept bytes d to within cell none fits =
    let rows = with_entry (opened_at to) d.rows in
    let contents = map (content_of bytes) d.rows.row in
    let no-line : block_lines bytes to to ≡ [] = ap (λ (b : Bool). if b then [] else lines_in (slice_range bytes (to + 1) to)) (eq-eqb to to refl) in
    let block : row_with_block (map (content_of bytes) rows.row) ≡ row_opened false (key_next d) contents =
    ap row_with_block (contents-entry bytes (all_rows d.format.format) d.rows (opened_at to))
    ∙ block-last contents 0 (block_lines bytes to to)
    ∙ ap (λ (lines : List (List ℕ)). record { fields = contents; block = Some lines; had_surplus = false }) no-line
    ∙ sym (ap (λ (kind : Option FieldKind). row_opened_under kind contents) none) in
    let here : to ≤ to = omega arith in
    record {
      table = λ options. ap (λ (row : RowBegun). record (table_by InData options bytes d) { begun = Some row }) block;
      fits = record {
        kept = RowBegunKept-entry bytes (all_rows d.format.format) d.rows d.keys (opened_at to) (omega (arith, cell, fits.columns))
            (record { lies = record { order = here; within = within }; is = refl }) fits.kept;
        block = ends-in-block d.rows.row to;
        columns = fits.columns;
        served = fits.served;
        whole = fits.whole;
        notes = fits.notes;
      };
    }

-- and under a key that says what its fields are it is dropped
pub opens-said : (bytes : List ℕ) (d : TableData) (to : ℕ) (kind : FieldKind) → to ≤ length bytes → length d.rows.row < cells_next d
    → kind_of_key (key_next d) ≡ Some kind → RowFits bytes d
    → OpensBlock bytes false d (record d { rows = with_entry (rule_entry to 0 (kept_kind kind)) d.rows; «open» = Dropped false })
opens-said bytes d to kind within cell is fits =
    let e = rule_entry to 0 (kept_kind kind) in
    let contents = map (content_of bytes) d.rows.row in
    let other : kind ≢ OneText = λ text. no-text-said (key_next d) (is ∙ ap (λ (k : FieldKind). Some k) text) in
    let row : record { fields = map (content_of bytes) (with_entry e d.rows).row; block = None; had_surplus = false } ≡ row_opened false (key_next d) contents =
    ap (λ (fields : List Content). record { fields = fields; block = None; had_surplus = false }) (contents-entry bytes (all_rows d.format.format) d.rows e)
    ∙ ap (λ (content : Content). record { fields = contents ++ content ∷ []; block = None; had_surplus = false }) (other-content kind other bytes to e.to [])
    ∙ sym (ap (λ (k : Option FieldKind). row_opened_under k contents) is) in
    record {
      table = λ options. ap (λ (r : RowBegun). record (table_by InData options bytes d) { begun = Some r }) row;
      fits = record {
        kept = RowBegunKept-entry bytes (all_rows d.format.format) d.rows d.keys e (omega (arith, cell, fits.columns))
            (other-lies kind other bytes (key_next d) e (record { order = omega arith; within = omega (arith, within) })) fits.kept;
        block = tt;
        columns = fits.columns;
        served = fits.served;
        whole = fits.whole;
        notes = fits.notes;
      };
    }

-- and without a cell
pub opens-surplus : (bytes : List ℕ) (d : TableData) → RowFits bytes d → OpensBlock bytes true d (record d { «open» = Dropped true })
opens-surplus bytes d fits = record {
  table = λ options. refl;
  fits = record { kept = fits.kept; block = tt; columns = fits.columns; served = fits.served; whole = fits.whole; notes = fits.notes };
}

-- no more rows of rule keys stand in front of the row that serves than rows at all
pub rules-in-front : (bytes : List ℕ) (d : TableData) → RowFits bytes d → d.rules ≤ d.keys
rules-in-front bytes d fits = omega (arith, fits.served.first)
