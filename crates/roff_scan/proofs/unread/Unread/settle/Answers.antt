use Rattle.input_model.specs.Arguments.{settled}
use Rattle.roff_scan.specs.Unread.Kept.{kept_by}
use Rattle.roff_scan.proofs.Changing.{IsWithin-same_held}
use Rattle.input_model.proofs.KeptArguments.{held-settled}
use Rattle.roff_scan.proofs.LineCalls.{NoneBegun-settled}
use Rattle.roff_scan.proofs.Sound.{sound-arguments}
use Rattle.roff_scan.proofs.unread.Unread.settle.Goals as goal

pub invariant_of-self : goal.invariant_of-self
invariant_of-self g c =
    let old = c.self.inside.arguments.arguments in
    sound-arguments c.self.inside c.self.invariant _ _ c.settle.ensures.value (NoneBegun-settled old c.self.invariant.begun)
    (IsWithin-same_held (kept_by c.self.inside) (settled old) c.self.invariant.within (held-settled old))
