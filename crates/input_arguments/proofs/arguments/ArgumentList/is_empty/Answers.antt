use Rattle.std.proofs.Common.{◌∙◌, ap, sym, ◌==◌}
use Rattle.input_arguments.proofs.Ends.{length-parts_ending}
use Rattle.input_arguments.proofs.arguments.ArgumentList.is_empty.Goals as goal

pub returns : goal.returns
returns c = c.is_empty.ensures ∙ ap (λ n. n == 0) (sym (length-parts_ending c.args.self.now.bytes.now 0 c.args.self.now.ends.now))
