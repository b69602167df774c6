use Rattle.std.proofs.Common.{◌∙◌, ap, sym, arith}
use Rattle.input_arguments.specs.ArgumentTexts.Kept.{KeptArguments}
use Rattle.input_model.proofs.KeptArguments.{held-behind_whole}
use Rattle.input_arguments.proofs.arguments.ArgumentTexts.take_byte.Goals as goal

pub push-requires : goal.push-requires
push-requires c =
    let old = c.args.self.now.arguments in
    let behind = sym (ap (λ (k : KeptArguments). k.arguments.place) c.self.view_is) ∙ c.in-BehindQuote-default.is-0 in
    rw c.end_argument.ensures (omega (arith, held-behind_whole old c.args.byte behind c.in-BehindQuote-default.is-1.0.1))
