use Rattle.std.proofs.Common.{◌≡◌, suc, ◌+◌, ◌-◌, ◌≤◌, ℕ, List, [], ◌∷◌, ◌++◌, map, take, drop, length, length-append, length-drop, sym, ap, subst, ◌∙◌, arith}
use Rattle.std.proofs.lemmas.List.{length-map}
use Rattle.std.specs.List.{slice_range}
use Rattle.input_source.specs.Bytes.{newline}
use Rattle.tbl_data.specs.TableData.{begun_by}
use Rattle.tbl_data.specs.TableRead.{TableRead}
use Rattle.tbl_data.specs.declared.phase.Phase.{Phase}
use Rattle.tbl_data.specs.declared.table_data.TableData.{TableData}
use Rattle.tbl_format.specs.Format.{Format, format_read, letters_left_out}
use Rattle.tbl_options.specs.Notes.{NotesWithin, ignored_message, left_out_note, told_at, told_of_all}
use Rattle.tbl_options.specs.Options.{ignored_options, options_read}
use Rattle.tbl_format.specs.RowsServed.{all_rows}
use Rattle.tbl_options.specs.declared.message.Told.{Told}
use Rattle.tbl_options.specs.declared.options.Options.{Options}
use Rattle.tbl_format.proofs.FormatReading.{columns-read}
use Rattle.tbl_format.proofs.LeftOut.{letters-few}
use Rattle.tbl_kept.specs.Rows.{elements_of}
use Rattle.tbl_kept.specs.TableNotes.{KeptNotes}
use Rattle.tbl_kept.specs.TableText.{KeptText, block_of, text_ended}
use Rattle.tbl_layout.specs.KeptEntries.{content_of}
use Rattle.tbl_table.specs.Begun.{begun_in}
use Rattle.tbl_table.specs.Kept.{NothingRead, reading_of}
use Rattle.tbl_table.specs.Steps.{ended_with, is_front, letters_noted, phase_behind, with_keys}
use Rattle.tbl_table.specs.Table.{format_line}
use Rattle.tbl_table.proofs.BegunLines.{count_is}
use Rattle.tbl_table.proofs.FormatEnds.{format-extends}
use Rattle.tbl_table.proofs.FormatLines.{KeysTaken, keys-fits, keys-read}
use Rattle.tbl_table.proofs.FormatTaken.{made}
use Rattle.tbl_table.proofs.NotesKept.{NotesWithin-letters, letters-said, told_of_letters}
use Rattle.tbl_table.proofs.TableFits.{counted-keys, counted-longer, front-kept}
use Rattle.tbl_table.proofs.TableOptions.{at-head, head-block, head-keys, head-options, head-settled, keys-counted, keys-format, keys-untold}
use Rattle.tbl_table.proofs.table.Table.end_options_line.Goals.{After-block-2}
use Rattle.tbl_table.proofs.table.Table.end_options_line.Goals as goal

-- the keys behind the options, with their newline
abbrev rest : After-block-2 → List ℕ
rest c = drop (suc c.args.end) c.self.inside.text.line ++ newline ∷ []

abbrev noted : After-block-2 → KeptNotes
noted c = letters_noted c.args.number (letters_left_out c.self.inside.kept.format.format (rest c)) c.push_ignored.new.self

nothing : (c : After-block-2) → NothingRead c.self.inside.text.settled c.self.inside.text.pending c.self.inside.kept
nothing c = at-head c.self.invariant.parts (rw (← c.self.view_is) at c.requires.phase)

settled : (c : After-block-2) → (text_ended c.self.inside.text).settled ≡ c.self.inside.text.line ++ newline ∷ []
settled c = head-settled c.self.inside.text (nothing c).no_bytes (nothing c).alone

block : (c : After-block-2) → c.block.result.now ≡ c.self.inside.text.line ++ newline ∷ []
block c = c.block.ensures ∙ ap (λ (t : KeptText). block_of t) c.end_line.ensures ∙ head-block c.self.inside.text (nothing c).no_bytes (nothing c).alone

-- where they lie
keys : (c : After-block-2) → take (length c.block-2.result.now - (c.args.end + 1)) (drop (c.args.end + 1) c.block-2.result.now) ≡ rest c
keys c =
    let is = c.block-2.ensures ∙ ap (λ (t : KeptText). block_of t) c.end_line.ensures ∙ head-block c.self.inside.text (nothing c).no_bytes (nothing c).alone in
    head-keys c.self.inside.text.line c.block-2.result.now c.args.end is (rw (← c.self.view_is) at c.requires.end)

here : (c : After-block-2) → KeysTaken c.self.inside (noted c) (format_read c.self.inside.kept.format.format (rest c))
here c =
    let a = c.self.inside in
    let fits = c.self.invariant.parts in
    let none = nothing c in
    let columns = rw (← c.self.view_is) at c.requires.columns in
    let inside_line = rw (← c.self.view_is) at c.requires.end in
    let line = drop (suc c.args.end) a.text.line in
    let f : Format = a.kept.format.format in
    let letters = letters_left_out f (rest c) in
    let len = length-drop (suc c.args.end) a.text.line in
    let front = ap is_front (rw (← c.self.view_is) at c.requires.phase) in
    let told_len : length (text_ended a.text).settled ≡ length c.block.result.now = ap (λ (xs : List ℕ). length xs) (settled c ∙ sym (block c)) in
    let bound : length (format_read f (rest c)).asked ≤ a.limits.columns = subst (λ (g : Format). length (format_read g (rest c)).asked ≤ a.limits.columns) (sym none.no_keys) columns in
    record {
      fits = fits;
      reads = record { alone = none.alone; fits = none.fits };
      all = λ n. front-kept a.phase n front;
      is = format-extends f (rest c);
      wider = columns-read [] f (rest c);
      room = rw (← c.self.view_is) at c.requires.room;
      counted = counted-longer (keys-counted line (counted-keys fits.keys) bound) (omega (arith, inside_line, len));
      few = omega (arith, c.push_ignored.ensures.few, ap (λ ns. length ns) none.no_notes, inside_line, length-append c.push_ignored.new.self.notes (map (left_out_note c.args.number) letters), length-map letters (left_out_note c.args.number), letters-few f (rest c), length-append line (newline ∷ []), len);
      within = NotesWithin-letters (length (text_ended a.text).settled) c.args.number c.push_ignored.new.self.notes letters (rw (← told_len) at c.push_ignored.ensures.within);
      to_tell = subst (λ ns. NotesWithin (length (text_ended a.text).settled) ns) (sym c.push_ignored.ensures.none) tt;
      same = c.push_ignored.ensures.room;
    }

pub take_keys-self-inside-requires-clause-columns : goal.take_keys-self-inside-requires-clause-columns
take_keys-self-inside-requires-clause-columns c =
    let w = (goal.at.take_keys-self-inside-requires-clause-columns c).After-block-2 in
    let counted = (here w).counted in
    rw (keys w) (omega (arith, counted.columns, counted.asked, c.self.invariant.parts.rooms.asked, (here w).room, length-append c.self.inside.text.read c.self.inside.text.line))

pub invariant_of-self : goal.invariant_of-self
invariant_of-self c =
    let w = (goal.at.invariant_of-self c).After-block-2 in
    let g : Format = format_read c.self.inside.kept.format.format (rest w) in
    let kept = rw (keys w) at c.take_keys-self-inside.ensures.kept in
    let phase = rw (keys w) at c.take_keys-self-inside.ensures.phase in
    let counts = rw (kept, keys-format c.args.number (rest w) (record c.self.inside.kept { notes = c.push_ignored.new.self })) at c.count.ensures.value in
    let begun : c.at_start-self-inside.result ≡ begun_in (phase_behind g.place) g [] =
    c.at_start-self-inside.ensures g (count_is g c.count.result counts) ∙ ap (λ (p : Phase). begun_in p g []) phase in
    record {
      parts = rw (c.end_line.ensures, kept, phase, begun) (keys-fits (here w) c.args.number);
      giving = c.give_nothing.ensures.nothing.can c.end_line.new.self c.take_keys-self-inside.new.kept.rows c.take_keys-self-inside.new.kept.format;
      columns = c.give_nothing.ensures.room ∙ c.self.invariant.columns;
    }

pub returns : goal.returns
returns c =
    let w = (goal.at.returns c).After-block-2 in
    let a = c.self.inside in
    let line : List ℕ = a.text.line in
    let end = c.args.end in
    let inside_line = rw (← c.self.view_is) at c.requires.end in
    let f : Format = a.kept.format.format in
    let kept = rw (keys w) at c.take_keys-self-inside.ensures.kept in
    let phase = rw (keys w) at c.take_keys-self-inside.ensures.phase in
    let place = (format_read f (rest w)).place in
    let notes = c.push_ignored.new.self in
    let old : TableData = record a.kept { notes = notes } in
    let new = with_keys c.args.number (rest w) old in
    let messages = λ (xs : List ℕ). map (λ (word : List ℕ). told_at c.args.number (ignored_message word)) (ignored_options xs) in
    let said : List Told = told_of_all a.text.settled a.kept.notes.notes ++ messages (take end line) in
    let blk = c.block.result.now in
    let says : told_of_all (text_ended a.text).settled notes.notes ≡ said =
    ap (λ (b : List ℕ). told_of_all b notes.notes) (settled w ∙ sym (block w))
    ∙ c.push_ignored.ensures.told
    ∙ ap (λ ns. told_of_all blk ns ++ messages (slice_range blk 0 end)) (nothing w).no_notes
    ∙ ap (λ ns. told_of_all a.text.settled ns ++ messages (slice_range blk 0 end)) (sym (nothing w).no_notes)
    ∙ ap (λ (xs : List ℕ). told_of_all a.text.settled a.kept.notes.notes ++ messages xs) (head-options line blk end (block w) inside_line) in
    let letters = letters_left_out f (rest w) in
    let with_read = λ (o : Options). let t : TableRead = made a.phase o f (a.kept.keys - a.kept.rules - length f.earlier) a.text.pending (begun_by a.kept.open (map (content_of a.text.settled) a.kept.rows.row)) (elements_of a.text.settled (all_rows f) a.kept.rows.elements) said in
    ended_with (format_line c.args.number (drop (suc end) line) t) (reading_of a.phase a.options a.text a.kept) in
    let options_is : c.read_options-options.result ≡ options_read (take end line) =
    c.read_options-options.ensures ∙ ap (λ (xs : List ℕ). options_read (take end xs)) c.line.ensures in
    let read : reading_of (phase_behind place) c.read_options-options.result (text_ended a.text) new ≡ with_read (options_read (take end line)) =
    keys-read (here w) c.args.number c.read_options-options.result (said ++ told_of_letters c.args.number letters)
    (letters-said (text_ended a.text).settled notes.notes c.args.number letters said says)
    ∙ ap with_read options_is in
    let told =
    ap (λ ns. told_of_all (text_ended a.text).settled ns) (keys-untold c.args.number (rest w) old ∙ c.push_ignored.ensures.none)
    ∙ ap (λ ns. told_of_all a.text.settled ns) (sym (nothing w).untold) in
    rw (← c.self.view_is, c.end_line.ensures, kept, phase)
    (λ i. record {
      limits = a.limits;
      reading = read i;
      told = told i;
      to_come = c.give_nothing.ensures.nothing.coming (text_ended a.text) new.rows new.format i;
    })
