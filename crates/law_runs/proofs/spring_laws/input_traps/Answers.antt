use Rattle.law_runs.proofs.SpringLaws.{each_line_counts, others_keep_their_traps, the_last_line_springs}
use Rattle.law_runs.proofs.spring_laws.input_traps.Goals as goal

pub returns-clause-last : goal.returns-clause-last
returns-clause-last c = the_last_line_springs

pub returns-clause-each : goal.returns-clause-each
returns-clause-each c = each_line_counts

pub returns-clause-others : goal.returns-clause-others
returns-clause-others c = others_keep_their_traps
