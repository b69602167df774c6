use Rattle.std.proofs.Common.{rules, sym}
use Rattle.read_lines.proofs.LinesTaken.{first_escape-newline}
use Rattle.read_lines.proofs.reader.text_lines.behind_newline.Goals as goal

pub returns-in_default : goal.returns-in_default
returns-in_default c = λ k i. sym (first_escape-newline k i c.args.at (λ is. absurd (search rules)))
