use Rattle.roff_lines.proofs.FirstLine.{first_line_count-front}
use Rattle.law_lines.proofs.FirstLineOf.{takes_first_line}
use Rattle.law_lines.proofs.laws.first_lines.Goals as goal

pub returns-clause-words : goal.returns-clause-words
returns-clause-words c = takes_first_line

pub returns-clause-front : goal.returns-clause-front
returns-clause-front c = first_line_count-front
