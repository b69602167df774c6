use Rattle.std.proofs.Common.{ap, ◌∙◌}
use Rattle.roff_lines.specs.Env.Kept.{Kept}
use Rattle.roff_lines.proofs.Standing.{settings-stands}
use Rattle.roff_lines.proofs.env.Env.settings.Goals as goal

pub returns-clause-in_force : goal.returns-clause-in_force
returns-clause-in_force c line_cap h s = ap (λ (k : Kept). k.settings) c.self.view_is ∙ settings-stands line_cap h c.args.self.now s
