use Rattle.std.proofs.Common.{arith}
use Rattle.input_model.specs.Arguments.{settled}
use Rattle.input_model.proofs.KeptArguments.{held-only_kept, held-settled, held-with_kept}
use Rattle.input_arguments.proofs.arguments.ArgumentTexts.take_kept.Goals as goal

pub push-requires : goal.push-requires
push-requires c =
    let old = c.args.self.now.arguments in
    rw c.settle.ensures.value (omega (arith, held-only_kept (settled old), held-settled old, held-with_kept old c.args.byte))

pub push-requires-2 : goal.push-requires-2
push-requires-2 c =
    let old = c.args.self.now.arguments in
    rw (c.push.ensures, c.settle.ensures.value) (omega (arith, held-only_kept (settled old), held-settled old, held-with_kept old c.args.byte))
