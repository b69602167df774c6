use Rattle.law_lines.proofs.Filling.{fills_lines}
use Rattle.law_lines.proofs.laws.longest_fronts.Goals as goal

pub returns : goal.returns
returns c = fills_lines
