use Rattle.std.proofs.Common.{ap, ◌∙◌}
use Rattle.roff_lines.specs.Env.Kept.{Kept}
use Rattle.roff_lines.proofs.Standing.{finished-stands}
use Rattle.roff_lines.proofs.env.Env.finished_text.Goals as goal

pub returns-clause-text : goal.returns-clause-text
returns-clause-text c line_cap h s =
    c.as_slice.ensures ∙ ap (λ (k : Kept). k.finished) c.self.view_is ∙ finished-stands line_cap h c.args.self.now s
