use Rattle.std.proofs.Common.{◌∙◌, reverse, sym, ap, ◌==◌}
use Rattle.std.proofs.lemmas.List.{length-reverse}
use Rattle.input_escapes.proofs.EscapeTexts.{length-joined}
use Rattle.input_escapes.proofs.open_escapes.OpenEscapes.is_empty.Goals as goal

pub returns : goal.returns
returns c =
    let inside = c.self.inside in
    rw (c.is_empty.ensures, ← c.self.view_is)
    (ap (λ n. n == 0) (sym (length-joined (reverse inside.items.items) inside.texts.items ∙ length-reverse inside.items.items)))
