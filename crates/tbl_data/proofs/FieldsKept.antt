-- A field that is kept in the row that is begun.
use Rattle.std.proofs.Common.{◌≡◌, ℕ, ◌+◌, ◌-◌, ◌<◌, ◌≤◌, List, [], ◌∷◌, ◌++◌, length, Option, None, refl, sym, ap, subst, ◌∙◌, arith, append-nil, length-append}
use Rattle.std.specs.List.{slice_range}
use Rattle.tbl_data.specs.DataRead.{notes_of_field}
use Rattle.tbl_data.specs.LineTaken.{RowFits, TakesField, cells_next, contents_in, key_next, more_notes}
use Rattle.tbl_data.specs.TableData.{EntryEnds, begun_by, table_by}
use Rattle.tbl_data.specs.TableRead.{RowBegun, with_notes}
use Rattle.tbl_data.specs.declared.data_line.DataLine.{DataLine}
use Rattle.tbl_data.specs.declared.phase.Phase.TheVariants.{InData}
use Rattle.tbl_data.specs.declared.table_data.OpenBlock.{OpenBlock}
use Rattle.tbl_data.specs.declared.table_data.OpenBlock.TheVariants.{Nothing}
use Rattle.tbl_data.specs.declared.table_data.TableData.{TableData}
use Rattle.tbl_data.proofs.EndsKept.{all-append, notes-end, within-append}
use Rattle.tbl_data.proofs.RowSteps.{table-notes}
use Rattle.tbl_options.specs.Notes.{NotesWithin, told_of_all}
use Rattle.tbl_format.specs.RowsServed.{all_rows}
use Rattle.tbl_format.specs.declared.format.Key.{Key}
use Rattle.tbl_options.specs.declared.message.Told.{Told}
use Rattle.tbl_options.specs.declared.notes.KeptNote.{KeptNote}
use Rattle.tbl_options.specs.declared.options.Options.{Options}
use Rattle.tbl_kept.proofs.RowsKeeping.{RowBegunKept-entry, contents-entry}
use Rattle.tbl_kept.specs.Joined.{ends_joined}
use Rattle.tbl_kept.specs.Rows.{with_entry}
use Rattle.tbl_kept.specs.TableNotes.{KeptNotes}
use Rattle.tbl_kept.specs.TableText.{KeptText, block_of}
use Rattle.tbl_layout.specs.Entries.{Content, content_under}
use Rattle.tbl_layout.specs.KeptEntries.{IsKept, content_of}
use Rattle.tbl_layout.specs.declared.entry.Entry.{Entry}

-- no message is none
pub more-none : (k : KeptNotes) → k ≡ more_notes [] k
more-none k = sym (ap (λ (ns : List KeptNote). record k { notes = ns }) (append-nil k.notes))

-- an entry is what a part of a line is, and is kept as that
pub record IsField (k : KeptText) (line : DataLine) (at end : ℕ) (d : TableData) (e : Entry) : Type 0 where
  pub content : content_of (block_of k) e ≡ content_under (key_next d) (slice_range (block_of k) at end)
  pub kept : IsKept (block_of k) (key_next d) e
  pub to : e.to ≡ end
  pub on_line : end ≤ line.to
  pub closed : d.open ≡ Nothing
  pub cell : length d.rows.row < cells_next d
  pub fits : RowFits (block_of k) d

-- these messages are those of that part
pub record ToldOf (k : KeptText) (line : DataLine) (at end : ℕ) (key : Key) (old new : KeptNotes) (told : List KeptNote) : Type 0 where
  pub is : new ≡ more_notes told old
  pub all : told_of_all (block_of k) told ≡ notes_of_field key (ends_joined k.pending) line.number (at - line.from) (slice_range (block_of k) at end)
  pub within : (len : ℕ) → NotesWithin len told
  pub few : length new.notes ≤ length old.notes + (end - at)

-- it is one more of the row
module _ (k : KeptText) (line : DataLine) (at end : ℕ) (d : TableData) (e : Entry) (is : IsField k line at end d e) (notes : KeptNotes) (told : List KeptNote) (of : ToldOf k line at end (key_next d) d.notes notes told) (new : TableData) (made : new ≡ record d { rows = with_entry e d.rows; notes = notes; escapes = new.escapes }) (room : new.escapes.room ≡ d.escapes.room) where
  abbrev bytes : List ℕ
  bytes = block_of k

  abbrev field : List ℕ
  field = slice_range bytes at end

  abbrev made_so : TableData
  made_so = record d { rows = with_entry e d.rows; notes = notes; escapes = new.escapes }

  row-is : contents_in k made_so ≡ contents_in k d ++ content_under (key_next d) field ∷ []
  row-is =
      contents-entry bytes (all_rows d.format.format) d.rows e
      ∙ ap (λ (content : Content). contents_in k d ++ content ∷ []) is.content

  none-begun : (contents : List Content) → begun_by d.open contents ≡ None
  none-begun contents = ap (λ (o : OpenBlock). begun_by o contents) is.closed

  table-is : (options : Options) → table_by InData options bytes made_so
      ≡ with_notes (notes_of_field (key_next d) (ends_joined k.pending) line.number (at - line.from) field) (table_by InData options bytes d)
  table-is options =
      let t = table_by InData options bytes d in
      table-notes InData options bytes (record d { rows = with_entry e d.rows; escapes = new.escapes }) told notes of.is
      ∙ ap (λ (b : Option RowBegun). with_notes (told_of_all bytes told) (record t { begun = b })) (none-begun _ ∙ sym (none-begun (contents_in k d)))
      ∙ ap (λ (ts : List Told). with_notes ts t) of.all

  notes-within : NotesWithin (length bytes) notes.notes
  notes-within =
      subst (λ (n : KeptNotes). NotesWithin (length bytes) n.notes) (sym of.is)
      (within-append (length bytes) d.notes.notes told is.fits.notes (of.within (length bytes)))

  taken : TakesField k line at end d made_so
  taken = record {
    table = table-is;
    row = row-is;
    fits = record {
      kept = RowBegunKept-entry bytes (all_rows d.format.format) d.rows d.keys e (omega (arith, is.cell, is.fits.columns)) is.kept is.fits.kept;
      columns = is.fits.columns;
      served = is.fits.served;
      small = is.fits.small;
      whole = is.fits.whole;
      notes = notes-within;
    };
    cells = refl;
    closed = refl;
    settled = λ ends. record {
      elements = ends.elements;
      row = all-append (EntryEnds line.to) d.rows.row e ends.row (omega (arith, is.to, is.on_line));
      notes = notes-end line.to d.notes notes told of.is (of.within line.to) ends.notes;
    };
    grown = record {
      entries = omega (arith, length-append d.rows.row (e ∷ []));
      elements = omega arith;
      notes = omega (arith, of.few);
      to_tell = ap (λ (n : KeptNotes). n.to_tell) of.is;
      rooms = record { entries = refl; elements = refl; columns = refl; notes = ap (λ (n : KeptNotes). n.note_room) of.is; keys = refl; asked = refl; escapes = room };
    };
  }

  pub takes-entry : TakesField k line at end d new
  takes-entry = subst (TakesField k line at end d) (sym made) taken
