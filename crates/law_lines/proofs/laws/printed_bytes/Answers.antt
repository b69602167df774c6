use Rattle.law_lines.proofs.Printing.{written-above}
use Rattle.law_lines.proofs.laws.printed_bytes.Goals as goal

pub returns-clause-word : goal.returns-clause-word
returns-clause-word c = written-above
