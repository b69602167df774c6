use Rattle.law_lines.proofs.FieldWidths.{EndsAtWidth-behind}
use Rattle.law_lines.proofs.laws.widths.Goals as goal

pub returns : goal.returns
returns c = EndsAtWidth-behind
