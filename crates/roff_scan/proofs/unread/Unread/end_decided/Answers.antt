use Rattle.std.proofs.Common.{◌≡◌, Bool, Option, Some, None, IfSome, refl}
use Rattle.input_escapes.specs.EscapeTexts.{KeptEscapes, leaving}
use Rattle.input_escapes.specs.OpenEscapes.{reading_ended}
use Rattle.input_escapes.specs.declared.open_escape.Decision.TheVariants.{Is}
use Rattle.input_escapes.specs.declared.open_escape.Found.TheVariants.{Decides}
use Rattle.input_escapes.specs.declared.open_escape.Surroundings.{Surroundings}
use Rattle.input_escapes.specs.declared.open_escape.Surroundings.TheVariants.{Arguments as AboveArguments}
use Rattle.input_escapes.proofs.TextsHeld.{texts_held-reading_ended}
use Rattle.roff_scan.proofs.Sound.{HoldsFewer, fewer-left, fewer-same, sound-escapes}
use Rattle.roff_scan.proofs.unread.Unread.end_decided.Goals as goal

is_fewer : (answer : Option Bool) (old new : KeptEscapes)
    → IfSome answer (λ so. (base : Surroundings) → (Decides (Is so) None, new) ≡ leaving (reading_ended base old.escapes) old)
    → (answer ≡ None → new ≡ old) → HoldsFewer old new
is_fewer (Some so) old new ended kept = fewer-left _ _ old new (ended AboveArguments) (texts_held-reading_ended AboveArguments old.escapes)
is_fewer None old new ended kept = fewer-same old new (kept refl)

pub invariant_of-self : goal.invariant_of-self
invariant_of-self g c =
    let done = c.end_decided in
    sound-escapes c.self.inside c.self.invariant _ (is_fewer done.result _ _ done.ensures.ended done.ensures.kept)
