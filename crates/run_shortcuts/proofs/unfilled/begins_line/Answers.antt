use Rattle.std.proofs.Common.{sym, ◌∙◌}
use Rattle.run_shortcuts.proofs.unfilled.begins_line.Goals as goal

pub returns-in-None : goal.returns-in-None
returns-in-None c = λ so l h stood. sym (c.interrupted_line.ensures l h stood.environments) ∙ c.in-None.is
