use Rattle.input_escapes.proofs.TextsHeld.{texts_held-reading_ended}
use Rattle.roff_scan.proofs.Sound.{fewer-left, sound-escapes}
use Rattle.roff_scan.proofs.unread.Unread.end_reading.Goals as goal

pub invariant_of-self : goal.invariant_of-self
invariant_of-self g c =
    sound-escapes c.self.inside c.self.invariant _
    (fewer-left _ _ _ _ c.end_reading.ensures (texts_held-reading_ended c.args.base c.self.inside.escapes.escapes))
