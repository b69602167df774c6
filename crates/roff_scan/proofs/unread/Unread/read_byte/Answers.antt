use Rattle.input_escapes.proofs.TextsHeld.{texts_held-byte_read}
use Rattle.roff_scan.proofs.Sound.{fewer-left, sound-escapes}
use Rattle.roff_scan.proofs.unread.Unread.read_byte.Goals as goal

pub invariant_of-self : goal.invariant_of-self
invariant_of-self g c =
    sound-escapes c.self.inside c.self.invariant _
    (fewer-left _ _ _ _ c.read_byte.ensures (texts_held-byte_read c.args.base c.args.byte c.self.inside.escapes.escapes))
