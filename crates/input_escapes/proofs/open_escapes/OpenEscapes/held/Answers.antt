use Rattle.std.proofs.Common.{reverse, arith}
use Rattle.input_escapes.proofs.EscapeTexts.{held-joined}
use Rattle.input_escapes.proofs.open_escapes.OpenEscapes.held.Goals as goal

pub returns : goal.returns
returns c =
    let inside = c.self.inside in
    rw (c.len.ensures, ← c.self.view_is) (omega (arith, inside.texts.ok.0, held-joined (reverse inside.items.items) inside.texts.items c.self.invariant.joined))
