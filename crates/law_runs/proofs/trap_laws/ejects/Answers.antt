use Rattle.law_runs.proofs.EjectLaws.{ejects_end_their_page}
use Rattle.law_runs.proofs.TrapLaws.{ejects_of_other_pages_do_nothing}
use Rattle.law_runs.proofs.trap_laws.ejects.Goals as goal

pub returns-clause-ends : goal.returns-clause-ends
returns-clause-ends c = ejects_end_their_page

pub returns-clause-others : goal.returns-clause-others
returns-clause-others c = ejects_of_other_pages_do_nothing
