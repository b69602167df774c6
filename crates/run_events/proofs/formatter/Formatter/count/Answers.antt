use Rattle.std.proofs.Common.{rules}
use Rattle.run_model.specs.Environments.{environments}
use Rattle.run_events.proofs.Springing.{counts_only}
use Rattle.run_events.proofs.formatter.Formatter.count.Goals as goal

pub returns : goal.returns
returns c = λ told. rw c.by.ensures.sprung (counts_only _ _ told c.count-name.result (λ l h stood. c.count-name.ensures.counted.becomes l (environments h) stood.environments) (search rules)
    (search rules) (λ l h stood. c.count-name.ensures.reached l h stood.environments))
