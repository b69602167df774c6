-- The last line of the data has no newline: what it tells is kept, and nothing that stands in the table.
use Rattle.std.proofs.Common.{◌≡◌, ◌==◌, ℕ, ◌+◌, ◌-◌, ◌<◌, ◌≤◌, All, Bool, true, false, List, [], ◌++◌, length, take, drop, Option, Some, None, refl, sym, ap, subst, ◌∙◌, arith, length-append, if◌then◌else◌, drop_at, length-take}
use Rattle.std.proofs.lemmas.List.{length-map, length-replicate}
use Rattle.std.proofs.lemmas.List.Elements.{All-take}
use Rattle.std.specs.List.{slice_range}
use Rattle.input_source.specs.Bytes.{newline}
use Rattle.tbl_data.specs.DataRead.{closed_block, whole_line, with_pending}
use Rattle.tbl_data.specs.TableData.{FitsBehind, table_by}
use Rattle.tbl_data.specs.TableRead.{RowBegun, TableRead}
use Rattle.tbl_data.specs.declared.phase.Phase.{Phase}
use Rattle.tbl_data.specs.declared.phase.Phase.TheVariants.{AtHead, Bad, InData, InFormat}
use Rattle.tbl_data.specs.declared.table_data.TableData.{TableData}
use Rattle.tbl_options.specs.Notes.{NotesWithin, told_of, told_of_all}
use Rattle.tbl_format.specs.RowsServed.{all_rows}
use Rattle.tbl_format.specs.declared.limits.TblLimits.{TblLimits}
use Rattle.tbl_options.specs.declared.notes.KeptNote.{KeptNote}
use Rattle.tbl_kept.specs.Joined.{Joined, behind_joined, ends_joined, goes_on}
use Rattle.tbl_kept.specs.Rows.{RowBegunKept, RowsKept, cleared, no_column}
use Rattle.tbl_kept.specs.TableText.{KeptText, block_of, text_whole}
use Rattle.tbl_kept.proofs.RowsKeeping.{RowBegunKept-first, RowsKept-columns, RowsKept-none}
use Rattle.tbl_table.specs.Begun.{begun_in}
use Rattle.tbl_table.specs.Kept.{PartsFit, PhaseFits, table_of}
use Rattle.tbl_table.specs.MayTell.{line_may_tell}
use Rattle.tbl_table.specs.Passing.{without_rows}
use Rattle.tbl_table.specs.Table.{closed, closed_line, is_bad, is_bad_phase, line_in, line_read, notes}
use Rattle.tbl_table.specs.declared.begun.Begun.{Begun}
use Rattle.tbl_table.specs.declared.table.Table.TheInside.{Inside}
use Rattle.tbl_table.proofs.FewFields.{whole_pending}
use Rattle.tbl_table.proofs.FewerNotes.{whole-fewer}
use Rattle.tbl_table.proofs.FormatLines.{KeysFit-start}
use Rattle.tbl_table.proofs.LastLines.{done-line, is_bad-by, notes-by, whole-bytes, whole-longer, whole-read}
use Rattle.tbl_table.proofs.LastPlaces.{whole-last}
use Rattle.tbl_table.proofs.LineEnds.{LineTaken, block-len, block-line, data-reads, fault-most, new-counted, new-rooms, one-fault, one-read, read-most, table-taken, whole-most}
use Rattle.tbl_table.proofs.NotesKept.{NotesWithin-more}
use Rattle.tbl_table.proofs.OtherLines.{joined-cut}
use Rattle.tbl_table.proofs.TableFits.{kept-most, rooms-by}

-- the joined line, but its last backslash where it goes on
abbrev pub cut_line : Bool → Option Joined → List ℕ → List ℕ
cut_line on pending line = if on then behind_joined pending (take (length line - 1) line) else behind_joined pending line

cut-most : (on : Bool) (pending : Option Joined) (line : List ℕ) → length (cut_line on pending line) ≤ line_may_tell pending + length line
cut-most true pending line = omega (arith, whole-most pending (take (length line - 1) line), length-take (length line - 1) line)
cut-most false pending line = whole-most pending line

-- how much shorter it is
pub cut-by : (on : Bool) → (if on then 1 else 0) ≤ 1
cut-by true = omega arith
cut-by false = omega arith

-- the end of a block that is open tells nothing
block-notes : (begun : Option RowBegun) (t : TableRead) → (closed_block begun t).notes ≡ t.notes
block-notes None t = refl
block-notes (Some row) t = refl

block-phase : (begun : Option RowBegun) (t : TableRead) → (closed_block begun t).phase ≡ t.phase
block-phase None t = refl
block-phase (Some row) t = refl

-- a table without rows
module _ (bytes : List ℕ) (d : TableData) where
  none-kept : RowBegunKept bytes (all_rows d.format.format) d.keys (without_rows d).rows
  none-kept =
      let formats = all_rows d.format.format in
      let none : RowsKept bytes formats (cleared d.rows) = RowsKept-none bytes formats d.rows.entry_room d.rows.element_room d.rows.column_room in
      RowBegunKept-first bytes formats (without_rows d).rows d.keys refl (RowsKept-columns bytes formats (cleared d.rows) (length d.format.format.asked) none)

  none-columns : length (without_rows d).rows.columns ≡ length d.format.format.asked
  none-columns = omega (arith, length-replicate (length d.format.format.asked - 0) no_column)

  pub dropped-fits : (p : Phase) → FitsBehind p bytes d → PhaseFits p bytes None (without_rows d)
  dropped-fits AtHead fits = absurd fits
  dropped-fits InFormat fits = record {
    alone = refl;
    fits = record { kept = none-kept; closed = refl; none = refl; columns = omega (arith, none-columns); first = fits.first; rules = fits.rules; notes = fits.notes };
  }
  dropped-fits InData fits = record {
    fits = record {
      kept = none-kept;
      block = refl;
      columns = none-columns;
      served = fits.served;
      whole = fits.whole;
      notes = fits.notes;
    };
    behind = tt;
  }
  dropped-fits Bad fits = record { alone = refl; lies = tt; fits = record { closed = refl; notes = fits.notes } }

module _ {l : TblLimits} {phase : Phase} {begun : Begun} {text : KeptText} {d : TableData} (fits : PartsFit l phase begun text d) (is : phase ≡ InData) (from to : ℕ) (from_is : from ≡ length text.settled) where
  -- there is a column
  has-column : 1 ≤ length d.format.format.asked
  has-column =
      let serves = (data-reads fits is).fits.served.serves in
      let wide = fits.keys.rows.wide (omega (arith, serves, length-append d.format.format.earlier d.format.format.rows)) in
      omega (arith, wide)

  -- where the line lies
  slice-by : (on : Bool) → to ≡ length (block_of text) - (if on then 1 else 0) → 0 < length text.line
      → slice_range (block_of text) from to ≡ cut_line on text.pending text.line
  slice-by true to_is some =
      let whole = behind_joined text.pending text.line in
      let size : to - length text.settled ≡ length whole - 1 = omega (arith, to_is, block-len fits is) in
      ap (λ (n : ℕ). slice_range (block_of text) n to) from_is
      ∙ ap (λ (xs : List ℕ). take (to - length text.settled) xs) (drop_at text.settled whole (length text.settled) refl)
      ∙ ap (λ (k : ℕ). take k whole) size
      ∙ joined-cut text.pending text.line some
  slice-by false to_is some =
      ap (λ (n : ℕ). slice_range (block_of text) n to) from_is ∙ block-line fits is to (omega (arith, to_is))

  -- it has no newline
  pub slice-whole : All (λ b. (b == newline) ≡ false) (slice_range (block_of text) from to)
  slice-whole =
      let whole = behind_joined text.pending text.line in
      subst (λ (xs : List ℕ). All (λ b. (b == newline) ≡ false) (take (to - from) xs))
      (sym (ap (λ (n : ℕ). drop n (block_of text)) from_is ∙ drop_at text.settled whole (length text.settled) refl))
      (All-take (λ b. (b == newline) ≡ false) (to - from) whole fits.bytes.one_line)

module _ {a : Inside} {from to number : ℕ} {p : Phase} {mid : TableData} (line : LineTaken a from to number p mid) (to_is : to ≡ length (block_of a.text) - (if goes_on a.text.line then 1 else 0)) (some : 0 < length a.text.line) where
  abbrev before : TableRead
  before = table_of a.phase a.options a.text a.kept

  abbrev behind : TableRead
  behind = whole_line (ends_joined a.text.pending) number (cut_line (goes_on a.text.line) a.text.pending a.text.line) before

  column : 1 ≤ length a.kept.format.format.asked
  column = has-column line.fits line.is from to line.from_is

  table-is : table_by p a.options (block_of a.text) mid ≡ behind
  table-is =
      table-taken line
      ∙ ap (λ (bytes : List ℕ). whole_line (ends_joined a.text.pending) number bytes before)
      (slice-by line.fits line.is from to line.from_is (goes_on a.text.line) to_is some)

  -- the line is done, also where it would go on
  closed-by : (on : Bool)
      → (let u = (if on then with_pending number a.text.line before else whole_line (ends_joined a.text.pending) number (behind_joined a.text.pending a.text.line) before) in
      let whole = closed_line u.pending u in
      closed_block whole.begun whole)
      ≡ (let whole = whole_line (ends_joined a.text.pending) number (cut_line on a.text.pending a.text.line) before in closed_block whole.begun whole)
  closed-by true =
      let bytes = behind_joined a.text.pending (take (length a.text.line - 1) a.text.line) in
      ap (λ (t : TableRead). closed_block t.begun t) (whole-last (ends_joined a.text.pending) number bytes (with_pending number a.text.line before) column)
  closed-by false =
      let u = whole_line (ends_joined a.text.pending) number (behind_joined a.text.pending a.text.line) before in
      ap (λ (t : TableRead). closed_block t.begun t)
      (done-line u.pending u (whole_pending (ends_joined a.text.pending) number (behind_joined a.text.pending a.text.line) before))

  closed-is : closed (line_read number a.text.line before) ≡ closed_block behind.begun behind
  unfolding closed line_read
  closed-is = ap (λ (q : Phase). closed (line_in q number a.text.line before)) line.is ∙ closed-by (goes_on a.text.line)

  -- what it tells
  pub last-notes : told_of_all (block_of a.text) mid.notes.notes ≡ notes (closed (line_read number a.text.line before))
  last-notes =
      ap (λ (t : TableRead). t.notes) table-is
      ∙ sym (block-notes behind.begun behind)
      ∙ sym (notes-by (closed_block behind.begun behind) (closed_block behind.begun behind).notes refl)
      ∙ ap notes (sym closed-is)

  pub last-bad : is_bad_phase p ≡ is_bad (closed (line_read number a.text.line before))
  last-bad =
      ap (λ (t : TableRead). is_bad_phase t.phase) table-is
      ∙ ap is_bad_phase (sym (block-phase behind.begun behind))
      ∙ sym (is_bad-by (closed_block behind.begun behind) (closed_block behind.begun behind).phase refl)
      ∙ ap is_bad (sym closed-is)

  last-few : length mid.notes.notes ≤ length a.kept.notes.notes + line_may_tell a.text.pending + length a.text.line
  last-few =
      omega (
        arith,
        length-map mid.notes.notes (told_of (block_of a.text)),
        ap (λ (t : TableRead). length t.notes) table-is,
        whole-fewer (ends_joined a.text.pending) number (cut_line (goes_on a.text.line) a.text.pending a.text.line) before column,
        length-map a.kept.notes.notes (told_of a.text.settled),
        cut-most (goes_on a.text.line) a.text.pending a.text.line,
      )

  pub last-columns : length mid.format.format.asked ≤ mid.rows.column_room
  last-columns =
      let counted = new-counted line (length a.text.read) (omega arith) in
      omega (arith, counted.asked, counted.columns, (new-rooms line).columns, line.fits.bytes.few)

  pub last-fits : length (a.text.read ++ a.text.line) ≤ a.limits.text → PartsFit a.limits p (begun_in p mid.format.format []) (text_whole a.text) (without_rows mid)
  last-fits room =
      let fits = line.fits in
      let read = whole-read fits in
      let one = one-read fits line.is in
      record {
        rooms = rooms-by (new-rooms line) refl refl refl refl refl refl;
        bytes = whole-bytes fits room;
        keys = KeysFit-start a.limits (text_whole a.text).read p mid.format.format (new-counted line (length (text_whole a.text).read) (omega (arith, read)));
        rows = record {
          entries = omega (arith, kept-most p 0, read-most p, fits.rows.entries, one, read);
          elements = omega (arith, kept-most p 0, read-most p, fits.rows.entries, one, read);
        };
        messages = record {
          few = omega (arith, last-few, fits.messages.few, one-fault fits line.is, fault-most p, read);
          telling =
              subst (λ (ns : List KeptNote). NotesWithin (length (block_of a.text)) ns) (sym line.to_tell)
              (NotesWithin-more (length a.text.settled) (length (block_of a.text)) a.kept.notes.to_tell (whole-longer fits) fits.messages.telling);
        };
        by_phase = dropped-fits (block_of a.text) mid p line.behind;
      }
