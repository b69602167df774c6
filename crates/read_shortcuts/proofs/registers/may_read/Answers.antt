use Rattle.std.proofs.Common.{◌≡◌, [], sym, ◌∙◌}
use Rattle.read_shortcuts.proofs.RegistersPut.{none_open}
use Rattle.read_shortcuts.proofs.registers.may_read.Goals as goal

pub returns : goal.returns
returns c = λ so.
    let none_half : c.args.unread.now.input.escapes ≡ [] = none_open c.args.unread.now.input.escapes (sym c.has_open_escape.ensures ∙ c.if-has_open_escape.false) in
    let room = c.has_room.ensures in
    record {
      reads = c.reads_names.ensures c.if-not-reads_names.false;
      none_half = none_half;
      room = room.room c.if-not-has_room.false;
      shallow = room.shallow c.if-not-has_room.false;
      bytes = room.bytes c.if-not-has_room.false;
      short = c.is_short.ensures so;
    }
