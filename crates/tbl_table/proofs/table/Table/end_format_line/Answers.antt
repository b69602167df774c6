use Rattle.std.proofs.Common.{◌≡◌, ◌-◌, ℕ, List, [], ◌∷◌, ◌++◌, map, take, drop, length, length-append, refl, sym, ap, ◌∙◌, arith}
use Rattle.std.proofs.lemmas.List.{length-map}
use Rattle.std.specs.List.{slice_range}
use Rattle.input_source.specs.Bytes.{newline}
use Rattle.tbl_data.specs.declared.phase.Phase.{Phase}
use Rattle.tbl_format.specs.Format.{Format, format_read, letters_left_out}
use Rattle.tbl_options.specs.Notes.{left_out_note, told_of_all}
use Rattle.tbl_format.proofs.FormatReading.{columns-read}
use Rattle.tbl_format.proofs.LeftOut.{letters-few}
use Rattle.tbl_kept.specs.Joined.{behind_joined}
use Rattle.tbl_kept.specs.TableNotes.{KeptNotes}
use Rattle.tbl_kept.specs.TableText.{KeptText, block_of, text_ended}
use Rattle.tbl_table.specs.Begun.{begun_in}
use Rattle.tbl_table.specs.Steps.{letters_noted, phase_behind, with_keys}
use Rattle.tbl_table.proofs.BegunLines.{count_is}
use Rattle.tbl_table.proofs.FormatEnds.{format-extends}
use Rattle.tbl_table.proofs.FormatLines.{KeysTaken, format-behind, keys-fits, keys-line, keys-read, longer-settled, untold-behind}
use Rattle.tbl_table.proofs.NotesKept.{NotesWithin-letters, NotesWithin-more, letters-said, told-longer, told_of_letters}
use Rattle.tbl_table.proofs.TableFits.{counted-keys, front-fault, front-kept, front-reads}
use Rattle.tbl_table.proofs.TableOptions.{keys-counted}
use Rattle.tbl_table.proofs.table.Table.end_format_line.Goals.{After-block}
use Rattle.tbl_table.proofs.table.Table.end_format_line.Goals as goal

-- the line with its newline
abbrev whole : After-block → List ℕ
whole c = c.self.inside.text.line ++ newline ∷ []

abbrev noted : After-block → KeptNotes
noted c = letters_noted c.args.number (letters_left_out c.self.inside.kept.format.format (whole c)) c.self.inside.kept.notes

here : (c : After-block) → KeysTaken c.self.inside (noted c) (format_read c.self.inside.kept.format.format (whole c))
here c =
    let a = c.self.inside in
    let fits = c.self.invariant.parts in
    let front = rw (← c.self.view_is) at c.requires.phase in
    let reads = front-reads a.phase a.text.settled a.text.pending a.kept front fits.by_phase in
    let line = whole c in
    let f : Format = a.kept.format.format in
    let letters = letters_left_out f line in
    let longer = longer-settled fits in
    record {
      fits = fits;
      reads = reads;
      all = λ n. front-kept a.phase n front;
      is = format-extends f line;
      wider = columns-read [] f line;
      room = rw (← c.self.view_is) at c.requires.room;
      counted = keys-counted a.text.line (counted-keys fits.keys) (rw (← c.self.view_is) at c.requires.columns);
      few = omega (arith, fits.messages.few, front-fault a.phase front, length-append a.kept.notes.notes (map (left_out_note c.args.number) letters), length-map letters (left_out_note c.args.number), letters-few f line, length-append a.text.line (newline ∷ []));
      within = NotesWithin-letters (length (text_ended a.text).settled) c.args.number a.kept.notes.notes letters
          (NotesWithin-more (length a.text.settled) (length (text_ended a.text).settled) a.kept.notes.notes longer reads.fits.notes);
      to_tell = NotesWithin-more (length a.text.settled) (length (text_ended a.text).settled) a.kept.notes.to_tell longer fits.messages.telling;
      same = refl;
    }

-- where the line lies
keys : (c : After-block) → take (length c.block.result.now - c.line_start-from.result) (drop c.line_start-from.result c.block.result.now) ≡ whole c
keys c =
    let block = c.block.ensures ∙ ap (λ (t : KeptText). block_of t) c.end_line.ensures in
    ap (λ (b : List ℕ). slice_range b c.line_start-from.result (length b)) block
    ∙ keys-line c.self.inside.text c.line_start-from.result (here c).reads.alone c.line_start-from.ensures.value

pub take_keys-self-inside-requires : goal.take_keys-self-inside-requires
take_keys-self-inside-requires c =
    let w = (goal.at.take_keys-self-inside-requires c).After-block in
    let text = c.self.inside.text in
    let fits = c.self.invariant.parts in
    let room = (here w).room in
    let read = length-append text.read text.line in
    let one = length-append text.line (newline ∷ []) in
    record {
      keys = rw (keys w) (omega (arith, fits.keys.keys, fits.rooms.keys, room, read, one));
      columns = rw (keys w) (omega (arith, (here w).counted.columns, (here w).counted.asked, fits.rooms.asked, room, read));
      row_columns = fits.rooms.columns ∙ sym fits.rooms.asked;
      place = fits.keys.stands;
      few = rw (keys w) (omega (arith, fits.keys.asked, fits.bytes.most, fits.rooms.small, one));
      notes = rw (keys w) (omega (arith, fits.messages.few, fits.rooms.notes, room, read, one));
    }

pub invariant_of-self : goal.invariant_of-self
invariant_of-self c =
    let w = (goal.at.invariant_of-self c).After-block in
    let g : Format = format_read c.self.inside.kept.format.format (whole w) in
    let kept = rw (keys w) at c.take_keys-self-inside.ensures.kept in
    let phase = rw (keys w) at c.take_keys-self-inside.ensures.phase in
    let counts = rw (kept, format-behind g.place c.args.number (noted w) g c.self.inside.kept) at c.count.ensures.value in
    let begun : c.at_start-self-inside.result ≡ begun_in (phase_behind g.place) g [] =
    c.at_start-self-inside.ensures g (count_is g c.count.result counts) ∙ ap (λ (p : Phase). begun_in p g []) phase in
    record {
      parts = rw (c.end_line.ensures, kept, phase, begun) (keys-fits (here w) c.args.number);
      giving = c.give_nothing.ensures.nothing.can c.end_line.new.self c.take_keys-self-inside.new.kept.rows c.take_keys-self-inside.new.kept.format;
      columns = c.give_nothing.ensures.room ∙ c.self.invariant.columns;
    }

pub returns : goal.returns
returns c =
    let w = (goal.at.returns c).After-block in
    let a = c.self.inside in
    let kept = rw (keys w) at c.take_keys-self-inside.ensures.kept in
    let phase = rw (keys w) at c.take_keys-self-inside.ensures.phase in
    let settled : List ℕ = (text_ended a.text).settled in
    let more = behind_joined a.text.pending a.text.line ++ newline ∷ [] in
    let g : Format = format_read a.kept.format.format (whole w) in
    let new = with_keys c.args.number (whole w) a.kept in
    let letters = letters_left_out a.kept.format.format (whole w) in
    let before = told_of_all a.text.settled a.kept.notes.notes in
    let says = letters-said settled a.kept.notes.notes c.args.number letters before (told-longer a.text.settled more a.kept.notes.notes (here w).reads.fits.notes) in
    let told =
    ap (λ to_tell. told_of_all settled to_tell) (untold-behind g.place c.args.number (noted w) g a.kept)
    ∙ told-longer a.text.settled more a.kept.notes.to_tell c.self.invariant.parts.messages.telling in
    rw (← c.self.view_is, c.end_line.ensures, kept, phase)
    (λ i. record {
      limits = a.limits;
      reading = keys-read (here w) c.args.number a.options (before ++ told_of_letters c.args.number letters) says i;
      told = told i;
      to_come = c.give_nothing.ensures.nothing.coming (text_ended a.text) new.rows new.format i;
    })
