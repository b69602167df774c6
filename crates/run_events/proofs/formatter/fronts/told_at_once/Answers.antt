use Rattle.std.proofs.Common.{take, ap, ◌∙◌}
use Rattle.std.proofs.lemmas.List.{take_min}
use Rattle.run_events.proofs.formatter.fronts.told_at_once.Goals as goal

pub returns : goal.returns
returns c = c.split_at.ensures.front ∙ ap (λ n. take n c.args.bytes.now) c.min.ensures ∙ take_min 128 c.args.bytes.now
