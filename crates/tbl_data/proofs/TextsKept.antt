-- A text that is kept as a field of the row that is begun.
use Rattle.std.proofs.Common.{◌≡◌, ℕ, ◌+◌, ◌-◌, ◌<◌, ◌≤◌, Bool, true, false, List, [], ◌∷◌, length, Option, None, Some, refl, sym, ap, ◌∙◌, arith, if◌then◌else◌}
use Rattle.std.specs.List.{slice_range}
use Rattle.tbl_data.specs.DataRead.{notes_by_kind, notes_of_field}
use Rattle.tbl_data.specs.LineTaken.{RowFits, TakesField, cells_next, key_next, more_notes, notes_kept}
use Rattle.tbl_data.specs.declared.data_line.DataLine.{DataLine}
use Rattle.tbl_data.specs.declared.table_data.OpenBlock.TheVariants.{Nothing}
use Rattle.tbl_data.specs.declared.table_data.TableData.{TableData}
use Rattle.tbl_data.proofs.FieldsKept.{takes-entry}
use Rattle.tbl_data.proofs.NotesTold.{items-told, items-within, none-told}
use Rattle.tbl_options.specs.Notes.{told_of_all}
use Rattle.tbl_format.specs.declared.format.Key.{Key}
use Rattle.tbl_options.specs.declared.notes.KeptNote.{KeptNote}
use Rattle.tbl_kept.specs.Joined.{ends_joined}
use Rattle.tbl_kept.specs.Rows.{with_entry}
use Rattle.tbl_kept.specs.TableNotes.{KeptNotes}
use Rattle.tbl_kept.specs.TableText.{KeptText, block_of}
use Rattle.tbl_layout.proofs.Fields.{length-part}
use Rattle.tbl_layout.specs.DataLines.{kind_under}
use Rattle.tbl_layout.specs.Entries.{Text as OneText, content_by_kind, content_under, is_number}
use Rattle.tbl_layout.specs.KeptEntries.{IsKept, IsKeptBy, IsText, content_by, content_of, entry_by, kind_with}
use Rattle.tbl_layout.specs.declared.data_lines.FieldKind.{FieldKind}
use Rattle.tbl_layout.specs.declared.data_lines.FieldKind.TheVariants.{Text as TextField}
use Rattle.tbl_layout.specs.declared.entry.Entry.{Entry}
use Rattle.tbl_text.specs.Items.{Item, is_ampersand, items}
use Rattle.tbl_text.specs.Measuring.{has_notes, measured, notes_from, without_ampersand}
use Rattle.tbl_text.specs.declared.items.What.{What}
use Rattle.tbl_text.specs.declared.items.What.TheVariants.{Ampersand, Blank, Byte, Dropped, Glyph, NotMeasured, Nothing as PrintsNothing}
use Rattle.tbl_text.specs.declared.measure.Measured.{Measured}
use Rattle.tbl_text.specs.declared.measure.Split.{Split}

-- an ampersand that splits isn't told, and so nothing is told less of a number
without-by : (w : What) (bytes : List ℕ) (its : List Item) → has_notes (without_ampersand its) ≡ has_notes its
    → has_notes (if is_ampersand w then record { bytes = bytes; what = PrintsNothing } ∷ its else record { bytes = bytes; what = w } ∷ without_ampersand its)
    ≡ has_notes (record { bytes = bytes; what = w } ∷ its)
without-by Blank bytes its same = same
without-by (Byte b) bytes its same = same
without-by (Glyph n) bytes its same = same
without-by Ampersand bytes its same = refl
without-by (NotMeasured b) bytes its same = refl
without-by PrintsNothing bytes its same = same
without-by Dropped bytes its same = same

number-notes : (its : List Item) → has_notes (without_ampersand its) ≡ has_notes its
number-notes [] = refl
number-notes (item ∷ its) = without-by item.what item.bytes its (number-notes its)

measured-notes : (is_number : Bool) (text : List ℕ) → (measured is_number text).has_notes ≡ has_notes (items text)
measured-notes true text = number-notes (items text)
measured-notes false text = refl

-- a text without a message
pub nothing-told : (is_number : Bool) (text : List ℕ) (m : Measured) → m ≡ measured is_number text → m.has_notes ≡ false → notes_from 0 (items text) ≡ []
nothing-told is_number text m is none = none-told (items text) 0 (sym (measured-notes is_number text) ∙ ap (λ (n : Measured). n.has_notes) (sym is) ∙ none)

-- a text that is kept, by whether it is split
kept-by : (split : Option Split) (from glyphs width : ℕ) (bytes : List ℕ) (key : Key) (e : Entry) → IsText bytes (is_number key) e
    → IsKeptBy (kind_with from glyphs width split) bytes key e
kept-by None from glyphs width bytes key e text = text
kept-by (Some s) from glyphs width bytes key e text = text

content-as : (split : Option Split) (from glyphs width : ℕ) (bytes : List ℕ) (a b : ℕ)
    → content_by (kind_with from glyphs width split) bytes a b ≡ OneText (slice_range bytes a b)
content-as None from glyphs width bytes a b = refl
content-as (Some s) from glyphs width bytes a b = refl

-- a text is one field more of the row
module _ (k : KeptText) (line : DataLine) (at end : ℕ) (order : at ≤ end) (within : end ≤ length (block_of k)) (d : TableData) where
  abbrev bytes : List ℕ
  bytes = block_of k

  abbrev field : List ℕ
  field = slice_range bytes at end

  abbrev key : Key
  key = key_next d

  abbrev pub field_entry : Entry
  field_entry = entry_by at (end - at) (measured (is_number key) field)

  ends-there : at + (end - at) ≡ end
  ends-there = omega (arith, order)

  is-text : IsText bytes (is_number key) field_entry
  is-text =
      let len : end - at ≡ length (slice_range bytes at (at + (end - at))) = sym (ap (λ (n : ℕ). length (slice_range bytes at n)) ends-there ∙ length-part bytes at end order within) in
      let text : field ≡ slice_range bytes at (at + (end - at)) = ap (slice_range bytes at) (sym ends-there) in
      record {
        order = omega arith;
        within = omega (arith, ends-there, within);
        is = ap (λ (n : ℕ). entry_by at n (measured (is_number key) field)) len
            ∙ ap (λ (t : List ℕ). entry_by at (length (slice_range bytes at (at + (end - at)))) (measured (is_number key) t)) text;
      }

  is-kept : IsKept bytes key field_entry
  is-kept = let m = measured (is_number key) field in kept-by m.split at (at + m.glyphs) m.width bytes key field_entry is-text

  module _ (is : kind_under key field ≡ TextField) where
    content-is : content_of bytes field_entry ≡ content_under key field
    content-is =
        let m = measured (is_number key) field in
        content-as m.split at (at + m.glyphs) m.width bytes at (at + (end - at))
        ∙ ap (λ (n : ℕ). OneText (slice_range bytes at n)) ends-there
        ∙ ap (λ (kind : FieldKind). content_by_kind kind field) (sym is)

    abbrev told : List KeptNote
    told = notes_kept (ends_joined k.pending) line.number (at - line.from) (notes_from 0 (items field))

    told-is : told_of_all bytes told ≡ notes_of_field key (ends_joined k.pending) line.number (at - line.from) field
    told-is =
        items-told (ends_joined k.pending) line.number (at - line.from) bytes (items field)
        ∙ ap (λ (kind : FieldKind). notes_by_kind kind (ends_joined k.pending) line.number (at - line.from) field) (sym is)

    pub takes-field : (notes : KeptNotes) → notes ≡ more_notes told d.notes → length notes.notes ≤ length d.notes.notes + (end - at)
        → (new : TableData) → new ≡ record d { rows = with_entry field_entry d.rows; notes = notes; escapes = new.escapes } → new.escapes.room ≡ d.escapes.room
        → d.open ≡ Nothing → length d.rows.row < cells_next d → RowFits bytes d → end ≤ line.to → TakesField k line at end d new
    takes-field notes more few new made room closed cell fits on-line =
        takes-entry k line at end d field_entry (record {
          content = content-is;
          kept = is-kept;
          to = ends-there;
          on_line = on-line;
          closed = closed;
          cell = cell;
          fits = fits;
        }) notes told (record {
          is = more;
          all = told-is;
          within = λ len. items-within (ends_joined k.pending) line.number (at - line.from) len (notes_from 0 (items field));
          few = few;
        }) new made room
