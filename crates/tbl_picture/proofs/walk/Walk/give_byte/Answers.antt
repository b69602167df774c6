use Rattle.std.proofs.Common.{◌≡◌, ap}
use Rattle.tbl_layout.specs.declared.entry.EntryKind.{EntryKind}
use Rattle.tbl_layout.specs.declared.entry.EntryKind.TheVariants.{Repeated}
use Rattle.tbl_lines.specs.RowsLeft.{lines_left_by}
use Rattle.tbl_picture.proofs.walk.Walk.give_byte.Goals as goal

pub give_repeated-requires-clause-repeats : goal.give_repeated-requires-clause-repeats
give_repeated-requires-clause-repeats c =
    let r = c.column-held.result in
    let kind : r.entry.kind ≡ Repeated c.args.byte = c.requires.kind r c.column-held.ensures in
    record { lines = λ bytes line. ap (λ (k : EntryKind). lines_left_by k bytes line r.column r.end r.entry r.place) kind }
