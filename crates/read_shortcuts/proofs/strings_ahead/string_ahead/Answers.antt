use Rattle.std.proofs.Common.{◌≡◌, [], sym, ◌∙◌}
use Rattle.read_shortcuts.proofs.RegistersPut.{is_string_ahead, none_open}
use Rattle.read_shortcuts.proofs.strings_ahead.string_ahead.Goals as goal

pub returns-then-has_room_for : goal.returns-then-has_room_for
returns-then-has_room_for g c =
    let none_half : c.args.unread.now.input.escapes ≡ [] = none_open c.args.unread.now.input.escapes (sym c.has_open_escape.ensures ∙ c.if-has_open_escape.false) in
    let room = c.has_room_for.ensures in
    is_string_ahead c.in-Some.name c.front.result.now _ c.args.reader.now.reading c.args.unread.now c.in-Some.ensures c.front.ensures.bytes c.front.ensures.front
    (c.reads_names.ensures c.if-not-reads_names.false) none_half (room.room c.if-has_room_for.true) (room.shallow c.if-has_room_for.true)
