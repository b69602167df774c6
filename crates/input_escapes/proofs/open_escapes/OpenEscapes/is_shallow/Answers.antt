use Rattle.std.proofs.Common.{◌∙◌, reverse, arith, leb-true}
use Rattle.std.proofs.lemmas.List.{length-reverse}
use Rattle.input_escapes.proofs.EscapeTexts.{length-joined}
use Rattle.input_escapes.proofs.open_escapes.OpenEscapes.is_shallow.Goals as goal

pub returns : goal.returns
returns c = λ few.
    let inside = c.self.inside in
    let same = length-joined (reverse inside.items.items) inside.texts.items ∙ length-reverse inside.items.items in
    rw (← c.self.view_is) (omega (arith, same, leb-true c.len.result 8 few, c.len.ensures.value))
