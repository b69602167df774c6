use Rattle.std.proofs.Common.{sym}
use Rattle.input_escapes.proofs.EscapeCounts.{names_in-joined}
use Rattle.input_escapes.proofs.open_escapes.OpenEscapes.names.Goals as goal

pub returns : goal.returns
returns c =
    let inside = c.self.inside in
    rw (c.names_among.ensures, c.as_slice.ensures.value, ← c.self.view_is) (sym (names_in-joined inside.items.items inside.texts.items))
