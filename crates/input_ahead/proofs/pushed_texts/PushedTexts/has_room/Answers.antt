use Rattle.std.proofs.Common.{arith, reverse, ltb-true, ltb-false}
use Rattle.std.proofs.lemmas.List.{length-reverse}
use Rattle.input_ahead.proofs.Counts.{events_ahead-standing, length-pushed_texts}
use Rattle.input_ahead.proofs.pushed_texts.PushedTexts.has_room.Goals as goal

pub returns-clause-room : goal.returns-clause-room
returns-clause-room g c = λ less.
    let inside = c.self.inside in
    let few = events_ahead-standing (reverse inside.pushed_texts.items) inside.bytes.items in
    let counted = rw length-reverse at few in
    let below = ltb-true _ _ less in
    rw (← c.self.view_is) (omega (arith, counted, below, c.len.ensures, inside.pushed_texts.ok.0))

pub returns-clause-full : goal.returns-clause-full
returns-clause-full g c = λ more.
    let inside = c.self.inside in
    let used = length-pushed_texts (reverse inside.pushed_texts.items) inside.bytes.items in
    let counted = rw length-reverse at used in
    let above = ltb-false _ _ more in
    rw (← c.self.view_is) (omega (arith, counted, above, c.len.ensures, inside.pushed_texts.ok.0))
