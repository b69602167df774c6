use Rattle.law_reading_again.proofs.Again.{diversions_begin, reads_again}
use Rattle.law_reading_again.proofs.laws.reading_again.Goals as goal

pub returns-clause-boxes : goal.returns-clause-boxes
returns-clause-boxes c = reads_again

pub returns-clause-start : goal.returns-clause-start
returns-clause-start c = diversions_begin
