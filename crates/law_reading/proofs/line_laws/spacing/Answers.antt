use Rattle.law_reading.proofs.LineLaws.{lines_are_spaced}
use Rattle.law_reading.proofs.line_laws.spacing.Goals as goal

pub returns-clause-lines : goal.returns-clause-lines
returns-clause-lines c = lines_are_spaced
