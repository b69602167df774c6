use Rattle.std.proofs.Common.{arith, reverse}
use Rattle.std.proofs.lemmas.List.{length-reverse}
use Rattle.input_ahead.proofs.Counts.{length-pushed_texts}
use Rattle.input_ahead.proofs.pushed_texts.PushedTexts.push_end.Goals as goal

pub put_end-requires-clause-room : goal.put_end-requires-clause-room
put_end-requires-clause-room g c =
    let inside = c.self.inside in
    let used = length-pushed_texts (reverse inside.pushed_texts.items) inside.bytes.items in
    let few = rw (← c.self.view_is) at c.requires in
    let counted = rw length-reverse at used in
    let room = c.self.invariant.room in
    omega (arith, inside.pushed_texts.ok.0, counted, few, room.events, room.frees, c.self.invariant.pushed_texts)
