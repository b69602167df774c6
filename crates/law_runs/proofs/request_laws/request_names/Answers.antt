use Rattle.law_runs.proofs.RequestNames.{each_named, each_listed_once}
use Rattle.law_runs.proofs.request_laws.request_names.Goals as goal

pub returns-clause-named : goal.returns-clause-named
returns-clause-named c = each_named

pub returns-clause-listed_once : goal.returns-clause-listed_once
returns-clause-listed_once c = each_listed_once
