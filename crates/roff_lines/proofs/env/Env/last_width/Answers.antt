use Rattle.std.proofs.Common.{ap, ◌∙◌}
use Rattle.roff_lines.specs.Env.Kept.{Kept}
use Rattle.roff_lines.proofs.Standing.{last_width-stands}
use Rattle.roff_lines.proofs.env.Env.last_width.Goals as goal

pub returns-clause-counted : goal.returns-clause-counted
returns-clause-counted c line_cap h s = ap (λ (k : Kept). k.last_width) c.self.view_is ∙ last_width-stands line_cap h c.args.self.now s
