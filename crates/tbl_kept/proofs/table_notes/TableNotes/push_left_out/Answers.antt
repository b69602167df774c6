use Rattle.std.proofs.Common.{◌++◌, List, length, map, replicate, ap, arith, length-append}
use Rattle.tbl_format.specs.Format.{letters_left_out}
use Rattle.tbl_options.specs.Notes.{cut_note, left_out_note}
use Rattle.tbl_options.specs.declared.notes.KeptNote.{KeptNote}
use Rattle.tbl_kept.specs.TableNotes.{KeptNotes}
use Rattle.tbl_format.proofs.KeyCounting.{counted, counted-is}
use Rattle.tbl_format.proofs.Parts.{slice_range-append}
use Rattle.tbl_kept.proofs.table_notes.TableNotes.push_left_out.Goals as goal

pub invariant_of-self : goal.invariant_of-self
invariant_of-self c =
    let a = c.self.inside in
    let f = counted c.args.count in
    let more = map (left_out_note c.args.line) (letters_left_out f c.args.bytes.now) in
    let items = c.push_left_out.ensures.items f (counted-is c.args.count) in
    record {
      room = omega (arith, c.self.invariant.room, c.push_left_out.ensures.capacity);
      order = c.self.invariant.order;
      within = omega (arith, c.self.invariant.within, ap length items, length-append a.notes.items more);
    }

pub returns : goal.returns
returns c = λ f counts.
    let a = c.self.inside in
    let more = map (left_out_note c.args.line) (letters_left_out f c.args.bytes.now) in
    let items = c.push_left_out.ensures.items f counts in
    rw (← c.self.view_is, items)
    (ap (λ (rest : List KeptNote). let k : KeptNotes = record { notes = a.notes.items ++ more; to_tell = rest ++ replicate a.cut (cut_note a.cut_line); note_room = a.note_room } in k)
    (slice_range-append a.notes.items more a.next a.end c.self.invariant.order c.self.invariant.within))
