-- What is kept of a table ends by a place, through each step of its data.
use Rattle.std.proofs.Common.{◌≡◌, ℕ, ◌≤◌, List, [], ◌∷◌, ◌++◌, sym, subst, arith}
use Rattle.std.specs.List.{AllByRecursion}
use Rattle.tbl_data.specs.LineTaken.{more_notes}
use Rattle.tbl_data.specs.TableData.{ElementEnds, EndsBy, EntryEnds}
use Rattle.tbl_data.specs.declared.table_data.TableData.{TableData}
use Rattle.tbl_options.specs.Notes.{IsWithin, NotesWithin}
use Rattle.tbl_options.specs.declared.notes.Cause.{Cause}
use Rattle.tbl_options.specs.declared.notes.Cause.TheVariants.{BadFormat, EntryCut, LeftOut, NotMeasured, OptionIgnored, RequestInTextBlock, TooManyFields}
use Rattle.tbl_options.specs.declared.notes.KeptNote.{KeptNote}
use Rattle.tbl_kept.specs.Rows.{Command, KeptElement, Row, Rule, last_changed}
use Rattle.tbl_kept.specs.TableNotes.{KeptNotes}
use Rattle.tbl_layout.specs.KeptEntries.{with_end}
use Rattle.tbl_layout.specs.declared.entry.Entry.{Entry}

-- what holds of all of a list holds with one more
pub all-append : {A : Type 0} (P : A → Type 0) (xs : List A) (x : A) → AllByRecursion P xs → P x → AllByRecursion P (xs ++ x ∷ [])
all-append P [] x all one = (one, tt)
all-append P (y ∷ xs) x all one = (all.0, all-append P xs x all.1 one)

-- what ends by a place ends by a later one
module _ (from to : ℕ) (order : from ≤ to) where
  entries-later : (entries : List Entry) → AllByRecursion (EntryEnds from) entries → AllByRecursion (EntryEnds to) entries
  entries-later [] all = tt
  entries-later (e ∷ entries) all = (omega (arith, order, all.0), entries-later entries all.1)

  element-later : (e : KeptElement) → ElementEnds from e → ElementEnds to e
  element-later (Row keys rules height entries) ends = entries-later entries ends
  element-later (Rule sign) ends = tt
  element-later (Command at end) ends = omega (arith, order, ends)

  elements-later : (elements : List KeptElement) → AllByRecursion (ElementEnds from) elements → AllByRecursion (ElementEnds to) elements
  elements-later [] all = tt
  elements-later (e ∷ elements) all = (element-later e all.0, elements-later elements all.1)

  cause-later : (cause : Cause) → IsWithin from cause → IsWithin to cause
  cause-later BadFormat within = tt
  cause-later TooManyFields within = tt
  cause-later (OptionIgnored at end) within = (within.0, omega (arith, order, within.1))
  cause-later (LeftOut letter) within = tt
  cause-later (NotMeasured b) within = tt
  cause-later RequestInTextBlock within = tt
  cause-later EntryCut within = tt

  notes-later : (notes : List KeptNote) → NotesWithin from notes → NotesWithin to notes
  notes-later [] all = tt
  notes-later (note ∷ notes) all = (cause-later note.cause all.0, notes-later notes all.1)

  pub ends-later : (d : TableData) → EndsBy from d → EndsBy to d
  ends-later d ends = record {
    elements = elements-later d.rows.elements ends.elements;
    row = entries-later d.rows.row ends.row;
    notes = notes-later d.notes.notes ends.notes;
  }

-- fields of which the last one ends there now
pub changed-ends : (to : ℕ) (entries : List Entry) → AllByRecursion (EntryEnds to) entries → AllByRecursion (EntryEnds to) (last_changed (with_end to) entries)
changed-ends to [] all = tt
changed-ends to (e ∷ []) all = (omega arith, tt)
changed-ends to (e ∷ next ∷ entries) all = (all.0, changed-ends to (next ∷ entries) all.1)

-- messages more within so many bytes
pub within-append : (len : ℕ) (some more : List KeptNote) → NotesWithin len some → NotesWithin len more → NotesWithin len (some ++ more)
within-append len [] more all further = further
within-append len (note ∷ some) more all further = (all.0, within-append len some more all.1 further)

pub notes-end : (to : ℕ) (old new : KeptNotes) (more : List KeptNote) → new ≡ more_notes more old → NotesWithin to more → NotesWithin to old.notes → NotesWithin to new.notes
notes-end to old new more is further all = subst (λ (n : KeptNotes). NotesWithin to n.notes) (sym is) (within-append to old.notes more all further)
