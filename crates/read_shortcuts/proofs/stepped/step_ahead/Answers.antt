use Rattle.std.proofs.Common.{◌≡◌, [], sym, ◌∙◌}
use Rattle.read_shortcuts.proofs.RegistersPut.{none_open}
use Rattle.read_shortcuts.proofs.SteppedText.{found_ahead}
use Rattle.read_shortcuts.proofs.stepped.step_ahead.Goals as goal

pub returns-in-Text : goal.returns-in-Text
returns-in-Text g c =
    let none_half : c.args.unread.now.input.escapes ≡ [] = none_open c.args.unread.now.input.escapes (sym c.has_open_escape.ensures ∙ c.if-has_open_escape.false) in
    let room = c.has_room_to_step.ensures in
    found_ahead c.step_in_front.result c.front.result.now _ c.in-Text.field-0 c.args.reader.now.reading c.args.unread.now c.step_in_front.ensures
    c.front.ensures.bytes c.front.ensures.front (sym c.reading.ensures ∙ c.in-Text.is) none_half
    (room.room c.if-not-has_room_to_step.false) (room.shallow c.if-not-has_room_to_step.false) (room.bytes c.if-not-has_room_to_step.false)
