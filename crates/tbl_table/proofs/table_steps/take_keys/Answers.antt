use Rattle.std.proofs.Common.{length, map, ap, arith, length-append}
use Rattle.std.proofs.lemmas.List.{length-map}
use Rattle.tbl_format.specs.Format.{letters_left_out}
use Rattle.tbl_options.specs.Notes.{left_out_note}
use Rattle.tbl_kept.specs.TableNotes.{KeptNotes}
use Rattle.tbl_format.proofs.LeftOut.{letters-few}
use Rattle.tbl_table.proofs.table_steps.take_keys.Goals as goal

pub go_behind_keys-requires-clause-notes : goal.go_behind_keys-requires-clause-notes
go_behind_keys-requires-clause-notes c =
    let f = c.args.kept.now.format.format in
    let keys = c.args.keys.now in
    let letters = letters_left_out f keys in
    let noted = c.push_left_out.ensures f c.count.ensures.value in
    omega (
      arith,
      ap (λ (k : KeptNotes). length k.notes) noted,
      ap (λ (k : KeptNotes). k.note_room) noted,
      c.requires.notes,
      letters-few f keys,
      length-append c.args.kept.now.notes.notes (map (left_out_note c.args.line) letters),
      length-map letters (left_out_note c.args.line),
    )
