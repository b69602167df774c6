use Rattle.input_escapes.proofs.EscapeTexts.{below-last, below-one}
use Rattle.input_escapes.proofs.open_escapes.OpenEscapes.below.Goals as goal

pub returns-then-items-lt2 : goal.returns-then-items-lt2
returns-then-items-lt2 c =
    let inside = c.self.inside in
    let few = rw c.as_slice-items.ensures.value at c.if-items-lt2.true in
    rw (← c.self.view_is) (below-one inside.items.items inside.texts.items few)

pub returns : goal.returns
returns c =
    let inside = c.self.inside in
    let two = rw c.as_slice-items.ensures.value at c.if-items-lt2.false in
    rw (c.as_slice-items.ensures.value, ← c.self.view_is) (below-last inside.items.items inside.texts.items _ c.self.invariant.joined two)
