use Rattle.std.proofs.Common.{◌≡◌, ℕ, List, map, append-nil, length-append, [], ◌∷◌, ◌++◌, length, refl, sym, ap, ◌∙◌, arith}
use Rattle.std.proofs.lemmas.List.{length-map}
use Rattle.input_source.specs.Bytes.{newline}
use Rattle.tbl_data.specs.TableRead.{TableRead}
use Rattle.tbl_data.specs.declared.phase.Phase.{Phase}
use Rattle.tbl_data.specs.declared.phase.Phase.TheVariants.{InFormat}
use Rattle.tbl_format.specs.Format.{format_read, letters_left_out}
use Rattle.tbl_options.specs.Notes.{left_out_note, told_of_all}
use Rattle.tbl_format.proofs.LeftOut.{letters-few}
use Rattle.tbl_kept.specs.Joined.{behind_joined}
use Rattle.tbl_kept.specs.TableNotes.{KeptNotes}
use Rattle.tbl_kept.specs.TableText.{block_of}
use Rattle.tbl_table.specs.Begun.{begun_in}
use Rattle.tbl_table.specs.Kept.{table_of}
use Rattle.tbl_table.specs.Steps.{fault_noted, is_front, letters_noted, phase_at_last}
use Rattle.tbl_table.specs.Table.{closed, is_bad, notes}
use Rattle.tbl_table.proofs.BegunLines.{count_is}
use Rattle.tbl_table.proofs.LastLines.{bad-format, done-by, is_bad-by, line-by, notes-by, told-format, whole-keys, whole-longer}
use Rattle.tbl_table.proofs.NotesKept.{NotesWithin-letters, NotesWithin-more, letters-said, told-longer}
use Rattle.tbl_table.proofs.TableFits.{front-fault, front-kept, front-reads}
use Rattle.tbl_table.proofs.table.Table.tell_last_keys.Goals as goal

pub invariant_of-self : goal.invariant_of-self
invariant_of-self c =
    let a = c.self.inside in
    let fits = c.self.invariant.parts in
    let room = rw (← c.self.view_is) at c.requires.room in
    let is = rw (← c.self.view_is) at c.requires.phase in
    let front = ap is_front is in
    let reads = front-reads a.phase a.text.settled a.text.pending a.kept front fits.by_phase in
    let f = a.kept.format.format in
    let phase = c.tell_keys-self-inside.ensures.phase in
    let line = a.text.line in
    let letters = letters_left_out f line in
    let told : KeptNotes = letters_noted c.args.number letters a.kept.notes in
    let noted : c.push_left_out.new.self ≡ told =
    c.push_left_out.ensures f c.count.ensures.value ∙ ap (λ (xs : List ℕ). letters_noted c.args.number (letters_left_out f xs) a.kept.notes) c.line-2.ensures in
    let notes = rw noted at c.tell_keys-self-inside.ensures.notes in
    let place = c.place_at_end-place.result in
    let begun : c.at_start-self-inside.result ≡ begun_in (phase_at_last place) f [] =
    c.at_start-self-inside.ensures f (count_is f c.count-2.result c.count-2.ensures.value) ∙ ap (λ (p : Phase). begun_in p f []) phase in
    let longer = whole-longer fits in
    record {
      parts = rw (c.complete.ensures, notes, phase, begun)
          (whole-keys fits reads (λ n. front-kept a.phase n front) told c.args.number room
          (omega (arith, fits.messages.few, front-fault a.phase front, length-append a.kept.notes.notes (map (left_out_note c.args.number) letters), length-map letters (left_out_note c.args.number), letters-few f line))
          (NotesWithin-letters (length (block_of a.text)) c.args.number a.kept.notes.notes letters
          (NotesWithin-more (length a.text.settled) (length (block_of a.text)) a.kept.notes.notes longer reads.fits.notes))
          (NotesWithin-more (length a.text.settled) (length (block_of a.text)) a.kept.notes.to_tell longer fits.messages.telling)
          refl place);
      giving = c.give_nothing.ensures.nothing.can c.complete.new.self a.kept.rows a.kept.format;
      columns = c.give_nothing.ensures.room ∙ c.self.invariant.columns;
    }

pub returns : goal.returns
returns c =
    let a = c.self.inside in
    let fits = c.self.invariant.parts in
    let is = rw (← c.self.view_is) at c.requires.phase in
    let reads = front-reads a.phase a.text.settled a.text.pending a.kept (ap is_front is) fits.by_phase in
    let f = a.kept.format.format in
    let line = a.text.line in
    let letters = letters_left_out f line in
    let told : KeptNotes = letters_noted c.args.number letters a.kept.notes in
    let noted : c.push_left_out.new.self ≡ told =
    c.push_left_out.ensures f c.count.ensures.value ∙ ap (λ (xs : List ℕ). letters_noted c.args.number (letters_left_out f xs) a.kept.notes) c.line-2.ensures in
    let format = rw c.line.ensures at c.place_at_end-place.ensures.format in
    let place = (format_read f (line ++ newline ∷ [])).place in
    let place_is : c.place_at_end-place.result ≡ place = format f fits.keys.made (fits.keys.is ∙ ap (λ (p : Phase). begun_in p f line) is) in
    let t : TableRead = table_of a.phase a.options a.text a.kept in
    let new : TableRead = table_of c.tell_keys-self-inside.result a.options c.complete.new.self (record a.kept { notes = c.tell_keys-self-inside.new.notes }) in
    let faulty : c.tell_keys-self-inside.new.notes ≡ fault_noted place c.args.number told =
    c.tell_keys-self-inside.ensures.notes ∙ (λ i. fault_noted (place_is i) c.args.number (noted i)) in
    let done = done-by a reads.alone reads.fits.closed in
    rw (← c.self.view_is)
    (record {
      answer = is_bad-by new (phase_at_last place) (c.tell_keys-self-inside.ensures.phase ∙ ap phase_at_last place_is)
          ∙ bad-format c.args.number line t done
          ∙ ap (λ (u : TableRead). is_bad (closed u)) (sym (line-by t InFormat c.args.number line is));
      told = notes-by new (told_of_all (block_of a.text) (fault_noted place c.args.number told).notes)
          (ap (λ k. told_of_all k.settled c.tell_keys-self-inside.new.notes.notes) c.complete.ensures
          ∙ ap (λ (k : KeptNotes). told_of_all (block_of a.text) k.notes) faulty)
          ∙ told-format (block_of a.text) told c.args.number line t done
          (letters-said (block_of a.text) a.kept.notes.notes c.args.number letters t.notes
          (told-longer a.text.settled (behind_joined a.text.pending line) a.kept.notes.notes reads.fits.notes))
          ∙ ap (λ (u : TableRead). notes (closed u)) (sym (line-by t InFormat c.args.number line is));
      bytes = rw c.complete.ensures (append-nil (a.text.read ++ a.text.line));
      limits = refl;
    })

pub tell_keys-self-inside-requires : goal.tell_keys-self-inside-requires
tell_keys-self-inside-requires c =
    let a = c.self.inside in
    let fits = c.self.invariant.parts in
    let room = rw (← c.self.view_is) at c.requires.room in
    let is = rw (← c.self.view_is) at c.requires.phase in
    let f = a.kept.format.format in
    let line = a.text.line in
    let letters = letters_left_out f line in
    let noted : c.push_left_out.new.self ≡ letters_noted c.args.number letters a.kept.notes =
    c.push_left_out.ensures f c.count.ensures.value ∙ ap (λ (xs : List ℕ). letters_noted c.args.number (letters_left_out f xs) a.kept.notes) c.line-2.ensures in
    omega (
      arith,
      ap (λ (k : KeptNotes). length k.notes) noted,
      ap (λ (k : KeptNotes). k.note_room) noted,
      fits.rooms.notes,
      fits.messages.few,
      front-fault a.phase (ap is_front is),
      room,
      letters-few f line,
      length-append a.text.read line,
      length-append a.kept.notes.notes (map (left_out_note c.args.number) letters),
      length-map letters (left_out_note c.args.number),
    )
