use Rattle.std.proofs.Common.{ap, ◌∙◌}
use Rattle.roff_lines.specs.Env.Kept.{Kept}
use Rattle.roff_lines.proofs.Standing.{is_interrupted-stands}
use Rattle.roff_lines.proofs.env.Env.is_interrupted.Goals as goal

pub returns-clause-interrupted : goal.returns-clause-interrupted
returns-clause-interrupted c line_cap h s = ap (λ (k : Kept). k.is_interrupted) c.self.view_is ∙ is_interrupted-stands line_cap h c.args.self.now s
