use Rattle.std.proofs.Common.{sym}
use Rattle.input_escapes.proofs.EscapeCounts.{widths_in-joined}
use Rattle.input_escapes.proofs.open_escapes.OpenEscapes.widths.Goals as goal

pub returns : goal.returns
returns c =
    let inside = c.self.inside in
    rw (c.widths_among.ensures, c.as_slice.ensures.value, ← c.self.view_is) (sym (widths_in-joined inside.items.items inside.texts.items))
