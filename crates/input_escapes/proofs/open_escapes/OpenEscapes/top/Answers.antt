use Rattle.input_escapes.proofs.EscapeTexts.{on_top-last}
use Rattle.input_escapes.proofs.open_escapes.OpenEscapes.top.Goals as goal

pub returns-clause-top : goal.returns-clause-top
returns-clause-top c =
    let inside = c.self.inside in
    let last = rw c.as_slice.ensures.value at c.last.ensures.value in
    rw (c.copied.ensures, last, ← c.self.view_is) (on_top-last inside.items.items inside.texts.items c.self.invariant.joined)
