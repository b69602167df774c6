use Rattle.law_escapes.proofs.CopiedNames.{names_are_their_first_two_bytes, names_of_the_source_are_their_first_two_bytes}
use Rattle.law_escapes.proofs.name_laws.names.Goals as goal

pub returns-clause-ahead : goal.returns-clause-ahead
returns-clause-ahead c = names_are_their_first_two_bytes

pub returns-clause-source : goal.returns-clause-source
returns-clause-source c = names_of_the_source_are_their_first_two_bytes
