use Rattle.law_runs.proofs.SpringLaws.{lines_go_on_as_they_were}
use Rattle.law_runs.proofs.spring_laws.interrupted_lines.Goals as goal

pub returns : goal.returns
returns c = lines_go_on_as_they_were
