use Rattle.std.proofs.Common.{◌≡◌, ◌-◌, ◌≤◌, ℕ, List, Bool, length, sym, ap, ◌∙◌, arith}
use Rattle.std.specs.List.{slice_range}
use Rattle.tbl_data.specs.LineTaken.{key_next, more_notes, notes_kept}
use Rattle.tbl_data.proofs.FieldsKept.{more-none}
use Rattle.tbl_data.proofs.TextsKept.{field_entry, nothing-told, takes-field}
use Rattle.tbl_format.specs.declared.format.Key.{Key}
use Rattle.tbl_kept.specs.Joined.{ends_joined}
use Rattle.tbl_kept.specs.Rows.{KeptRows, with_entry}
use Rattle.tbl_kept.specs.TableText.{block_of}
use Rattle.tbl_layout.specs.DataLines.{kind_under}
use Rattle.tbl_layout.specs.Entries.{is_number}
use Rattle.tbl_layout.specs.KeptEntries.{entry_by}
use Rattle.tbl_layout.specs.declared.entry.Entry.{Entry}
use Rattle.tbl_text.specs.Measuring.{measured}
use Rattle.tbl_text.specs.declared.measure.Note.{Note}
use Rattle.tbl_data.proofs.table_data.TableData.take_text_field.Goals as goal

pub returns-then-measured-clause-taken : goal.returns-then-measured-clause-taken
returns-then-measured-clause-taken c =
    let d = c.args.self.now in
    let k = c.args.text.now in
    let at = c.args.at in
    let end = c.args.end in
    let key = key_next d in
    let within : end ≤ length (block_of k) = omega (arith, c.requires.end, c.requires.lies.within) in
    let kind = ap (λ (x : Key). kind_under x (slice_range (block_of k) at end)) (sym c.requires.key) ∙ c.requires.kind in
    let num : c.is_number.result ≡ is_number key = c.is_number.ensures ∙ ap is_number c.requires.key in
    let m : c.measure-measured.result ≡ measured (is_number key) (slice_range (block_of k) at end) =
    c.measure-measured.ensures.value ∙ ap (λ (b : Bool). measured b (slice_range c.block.result.now at end)) num ∙ ap (λ (bytes : List ℕ). measured (is_number key) (slice_range bytes at end)) c.block.ensures in
    let rows : c.keep.new.self ≡ with_entry (field_entry k c.args.line at end c.requires.order within d) d.rows =
    c.keep.ensures ∙ ap (λ (e : Entry). with_entry e d.rows) (c.of_text.ensures ∙ ap (entry_by at (end - at)) m) in
    let made = ap (λ (r : KeptRows). record d { rows = r; notes = c.tell_items.new.notes; escapes = c.tell_items.new.escapes }) rows in
    takes-field k c.args.line at end c.requires.order within d kind c.tell_items.new.notes c.tell_items.ensures.notes c.tell_items.ensures.few
    (record d { rows = c.keep.new.self; notes = c.tell_items.new.notes; escapes = c.tell_items.new.escapes }) made
    (c.tell_items.ensures.room ∙ c.measure-measured.ensures.room) c.requires.closed c.requires.cell c.requires.fits c.requires.end

pub returns-else-measured-clause-taken : goal.returns-else-measured-clause-taken
returns-else-measured-clause-taken c =
    let d = c.args.self.now in
    let k = c.args.text.now in
    let at = c.args.at in
    let end = c.args.end in
    let key = key_next d in
    let within : end ≤ length (block_of k) = omega (arith, c.requires.end, c.requires.lies.within) in
    let kind = ap (λ (x : Key). kind_under x (slice_range (block_of k) at end)) (sym c.requires.key) ∙ c.requires.kind in
    let num : c.is_number.result ≡ is_number key = c.is_number.ensures ∙ ap is_number c.requires.key in
    let m : c.measure-measured.result ≡ measured (is_number key) (slice_range (block_of k) at end) =
    c.measure-measured.ensures.value ∙ ap (λ (b : Bool). measured b (slice_range c.block.result.now at end)) num ∙ ap (λ (bytes : List ℕ). measured (is_number key) (slice_range bytes at end)) c.block.ensures in
    let rows : c.keep.new.self ≡ with_entry (field_entry k c.args.line at end c.requires.order within d) d.rows =
    c.keep.ensures ∙ ap (λ (e : Entry). with_entry e d.rows) (c.of_text.ensures ∙ ap (entry_by at (end - at)) m) in
    let none = nothing-told (is_number key) (slice_range (block_of k) at end) c.measure-measured.result m c.if-measured.false in
    let told = more-none d.notes ∙ ap (λ (ns : List Note). more_notes (notes_kept (ends_joined k.pending) c.args.line.number (at - c.args.line.from) ns) d.notes) (sym none) in
    let made = ap (λ (r : KeptRows). record d { rows = r; escapes = c.measure-measured.new.escapes }) rows in
    takes-field k c.args.line at end c.requires.order within d kind d.notes told (omega arith)
    (record d { rows = c.keep.new.self; escapes = c.measure-measured.new.escapes }) made
    c.measure-measured.ensures.room c.requires.closed c.requires.cell c.requires.fits c.requires.end
