use Rattle.std.proofs.Common.{◌≡◌, ℕ, map, List, [], ◌++◌, length, length-append, append-nil, refl, sym, ap, subst, ◌∙◌, arith}
use Rattle.tbl_table.specs.Begun.{begun_in, head_begun}
use Rattle.tbl_table.specs.Kept.{NothingRead, table_of}
use Rattle.std.proofs.lemmas.List.{length-map}
use Rattle.tbl_format.specs.KeyCounts.{StandsOnLine}
use Rattle.tbl_options.specs.Notes.{NotesWithin, left_out_note, told_of_all}
use Rattle.tbl_options.specs.Options.{options_end}
use Rattle.tbl_table.specs.Steps.{fault_noted, head_letters, letters_noted, is_front, options_told, phase_at_last}
use Rattle.tbl_data.specs.TableRead.{TableRead}
use Rattle.tbl_table.specs.Table.{closed, head_place, is_bad, notes}
use Rattle.tbl_kept.specs.TableNotes.{KeptNotes}
use Rattle.tbl_kept.specs.TableText.{KeptText, block_of}
use Rattle.tbl_format.specs.declared.format.FormatPlace.{FormatPlace}
use Rattle.tbl_data.specs.declared.phase.Phase.{Phase}
use Rattle.tbl_data.specs.declared.phase.Phase.TheVariants.{AtHead}
use Rattle.tbl_table.proofs.BegunLines.{count_is}
use Rattle.tbl_table.proofs.TableOptions.{at-head, head-letters-bound}
use Rattle.tbl_table.proofs.NotesKept.{NotesWithin-letters, letters-said}
use Rattle.tbl_table.proofs.TableFits.{front-kept}
use Rattle.tbl_table.proofs.LastLines.{bad-head, done-by, end-few, end-less, end-within, head-whole, is_bad-by, line-by, notes-by, told-head, whole-keys}
use Rattle.tbl_table.proofs.table.Table.tell_last_head.Goals.{After-complete}
use Rattle.tbl_table.proofs.table.Table.tell_last_head.Goals as goal

nothing : (c : After-complete) → NothingRead c.self.inside.text.settled c.self.inside.text.pending c.self.inside.kept
nothing c = at-head c.self.invariant.parts (rw (← c.self.view_is) at c.requires.phase)

-- the block of the line alone
whole : (c : After-complete) → block_of c.complete.new.self ≡ c.self.inside.text.line
whole c =
    let text = c.self.inside.text in
    ap (λ (t : KeptText). block_of t) c.complete.ensures ∙ append-nil (block_of text) ∙ head-whole text (nothing c).no_bytes (nothing c).alone

end_is : (c : After-complete) → c.options_end-end.result ≡ options_end c.self.inside.text.line
end_is c = c.options_end-end.ensures ∙ ap (λ (xs : List ℕ). options_end xs) c.line.ensures

-- where the reading of its keys stands
place_is : (c : After-complete) → c.place_at_end-place.result ≡ head_place (options_end c.self.inside.text.line) c.self.inside.text.line
place_is c =
    let a = c.self.inside in
    let is = rw (← c.self.view_is) at c.requires.phase in
    let begun : a.begun ≡ head_begun (options_end a.text.line) a.text.line =
    c.self.invariant.parts.keys.is ∙ ap (λ (p : Phase). begun_in p a.kept.format.format a.text.line) is in
    let head = rw c.line-2.ensures at c.place_at_end-place.ensures.head in
    head begun

pub tell_options-requires-clause-block : goal.tell_options-requires-clause-block
tell_options-requires-clause-block c =
    let w = (goal.at.tell_options-requires-clause-block c).After-complete in
    rw (c.block.ensures ∙ whole w) (end-within c.options_end-end.result c.self.inside.text.line (end_is w))

pub tell_head_letters-requires : goal.tell_head_letters-requires
tell_head_letters-requires c =
    let w = (goal.at.tell_head_letters-requires c).After-complete in
    let fits = c.self.invariant.parts in
    let text = c.self.inside.text in
    let room = rw (← c.self.view_is) at c.requires.room in
    let block = c.block-2.ensures ∙ whole w in
    record {
      end = rw block (end-less c.options_end-end.result text.line (end_is w));
      is = record { row = c.count.ensures.row; place = subst (StandsOnLine 0) c.count.ensures.value.place fits.keys.stands };
      few = rw block (omega (arith, c.count.ensures.value.columns, fits.keys.asked, fits.bytes.most, fits.rooms.small));
      room = rw block
          (omega (arith, c.tell_options.ensures.few, c.tell_options.ensures.room, fits.rooms.notes, ap (λ ns. length ns) (nothing w).no_notes, end-few c.options_end-end.result text.line (end_is w), room, length-append text.read text.line));
    }

pub tell_keys-self-inside-requires : goal.tell_keys-self-inside-requires
tell_keys-self-inside-requires c =
    let w = (goal.at.tell_keys-self-inside-requires c).After-complete in
    let text = c.self.inside.text in
    let room = rw (← c.self.view_is) at c.requires.room in
    let block = c.block-2.ensures ∙ whole w in
    let f = c.self.inside.kept.format.format in
    let noted = c.tell_head_letters.ensures f c.count.ensures.value in
    let letters = head_letters c.options_end-end.result f c.block-2.result.now in
    let most = head-letters-bound c.options_end-end.result f c.block-2.result.now (rw block (end-less c.options_end-end.result text.line (end_is w))) in
    omega (
      arith,
      c.tell_options.ensures.few,
      c.tell_options.ensures.room,
      c.self.invariant.parts.rooms.notes,
      ap (λ ns. length ns) (nothing w).no_notes,
      room,
      length-append text.read text.line,
      ap (λ (k : KeptNotes). length k.notes) noted,
      ap (λ (k : KeptNotes). k.note_room) noted,
      most,
      ap (λ (xs : List ℕ). length xs) block,
      length-append c.tell_options.new.notes.notes (map (left_out_note c.args.number) letters),
      length-map letters (left_out_note c.args.number),
    )

pub invariant_of-self : goal.invariant_of-self
invariant_of-self c =
    let w = (goal.at.invariant_of-self c).After-complete in
    let a = c.self.inside in
    let none = nothing w in
    let room = rw (← c.self.view_is) at c.requires.room in
    let front = ap is_front (rw (← c.self.view_is) at c.requires.phase) in
    let block : c.block.result.now ≡ block_of a.text = c.block.ensures ∙ ap (λ (t : KeptText). block_of t) c.complete.ensures ∙ append-nil (block_of a.text) in
    let kept : KeptNotes = c.tell_options.new.notes in
    let phase = c.tell_keys-self-inside.ensures.phase in
    let f = a.kept.format.format in
    let letters = head_letters c.options_end-end.result f c.block-2.result.now in
    let noted : c.tell_head_letters.new.notes ≡ letters_noted c.args.number letters kept = c.tell_head_letters.ensures f c.count.ensures.value in
    let notes = rw noted at c.tell_keys-self-inside.ensures.notes in
    let block_line = c.block-2.ensures ∙ whole w in
    let most = head-letters-bound c.options_end-end.result f c.block-2.result.now (rw block_line (end-less c.options_end-end.result a.text.line (end_is w))) in
    let begun : c.at_start-self-inside.result ≡ begun_in (phase_at_last c.place_at_end-place.result) f [] =
    c.at_start-self-inside.ensures f (count_is f c.count-2.result c.count-2.ensures.value) ∙ ap (λ (p : Phase). begun_in p f []) phase in
    let within : NotesWithin (length (block_of a.text)) kept.notes = rw block at c.tell_options.ensures.within in
    let to_tell : NotesWithin (length (block_of a.text)) kept.to_tell = subst (λ ns. NotesWithin (length (block_of a.text)) ns) (sym c.tell_options.ensures.none) tt in
    record {
      parts = rw (c.complete.ensures, notes, phase, begun)
          (whole-keys c.self.invariant.parts (record { alone = none.alone; fits = none.fits }) (λ n. front-kept a.phase n front) (letters_noted c.args.number letters kept) c.args.number room
          (omega (arith, c.tell_options.ensures.few, ap (λ ns. length ns) none.no_notes, most, ap (λ (xs : List ℕ). length xs) block_line, length-append kept.notes (map (left_out_note c.args.number) letters), length-map letters (left_out_note c.args.number)))
          (NotesWithin-letters (length (block_of a.text)) c.args.number kept.notes letters within) to_tell c.tell_options.ensures.room c.place_at_end-place.result);
      giving = c.give_nothing.ensures.nothing.can c.complete.new.self a.kept.rows a.kept.format;
      columns = c.give_nothing.ensures.room ∙ c.self.invariant.columns;
    }

pub returns : goal.returns
returns c =
    let w = (goal.at.returns c).After-complete in
    let a = c.self.inside in
    let none = nothing w in
    let line : List ℕ = a.text.line in
    let is = rw (← c.self.view_is) at c.requires.phase in
    let t : TableRead = table_of a.phase a.options a.text a.kept in
    let new : TableRead = table_of c.tell_keys-self-inside.result a.options c.complete.new.self (record a.kept { notes = c.tell_keys-self-inside.new.notes }) in
    let blk : List ℕ = c.block.result.now in
    let block : blk ≡ block_of a.text = c.block.ensures ∙ ap (λ (t : KeptText). block_of t) c.complete.ensures ∙ append-nil (block_of a.text) in
    let end = c.options_end-end.result in
    let kept : KeptNotes = c.tell_options.new.notes in
    let says : told_of_all (block_of a.text) kept.notes ≡ t.notes ++ options_told (options_end line) c.args.number line =
    ap (λ (b : List ℕ). told_of_all b kept.notes) (sym block)
    ∙ c.tell_options.ensures.told
    ∙ ap (λ ns. told_of_all blk ns ++ options_told end c.args.number blk) none.no_notes
    ∙ ap (λ ns. told_of_all a.text.settled ns ++ options_told end c.args.number blk) (sym none.no_notes)
    ∙ (λ i. t.notes ++ options_told (end_is w i) c.args.number ((c.block.ensures ∙ whole w) i)) in
    let place : FormatPlace = head_place (options_end line) line in
    let f = a.kept.format.format in
    let letters = head_letters (options_end line) f line in
    let all : KeptNotes = letters_noted c.args.number letters kept in
    let left : c.tell_head_letters.new.notes ≡ all =
    c.tell_head_letters.ensures f c.count.ensures.value
    ∙ (λ i. letters_noted c.args.number (head_letters (end_is w i) f ((c.block-2.ensures ∙ whole w) i)) kept) in
    let noted : c.tell_keys-self-inside.new.notes ≡ fault_noted place c.args.number all =
    c.tell_keys-self-inside.ensures.notes ∙ (λ i. fault_noted (place_is w i) c.args.number (left i)) in
    let done = done-by a none.alone none.fits.closed in
    rw (← c.self.view_is)
    (record {
      answer = is_bad-by new (phase_at_last place) (c.tell_keys-self-inside.ensures.phase ∙ ap phase_at_last (place_is w))
          ∙ bad-head (options_end line) c.args.number line t done none.no_keys
          ∙ ap (λ (u : TableRead). is_bad (closed u)) (sym (line-by t AtHead c.args.number line is));
      told = notes-by new (told_of_all (block_of a.text) (fault_noted place c.args.number all).notes)
          (ap (λ (k : KeptText). told_of_all k.settled c.tell_keys-self-inside.new.notes.notes) c.complete.ensures
          ∙ ap (λ (k : KeptNotes). told_of_all (block_of a.text) k.notes) noted)
          ∙ told-head (block_of a.text) all (options_end line) c.args.number line t done none.no_keys
          (letters-said (block_of a.text) kept.notes c.args.number letters (t.notes ++ options_told (options_end line) c.args.number line) says)
          ∙ ap (λ (u : TableRead). notes (closed u)) (sym (line-by t AtHead c.args.number line is));
      bytes = rw c.complete.ensures (append-nil (a.text.read ++ a.text.line));
      limits = refl;
    })
