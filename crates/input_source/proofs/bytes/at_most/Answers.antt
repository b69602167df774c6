use Rattle.std.proofs.Common.{take, ap, ◌∙◌}
use Rattle.std.proofs.lemmas.List.{take_min}
use Rattle.input_source.proofs.bytes.at_most.Goals as goal

pub returns : goal.returns
returns c = c.split_at.ensures.front ∙ ap (λ n. take n c.args.bytes.now) c.min.ensures ∙ take_min c.args.most c.args.bytes.now
