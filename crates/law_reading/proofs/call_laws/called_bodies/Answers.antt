use Rattle.law_reading.proofs.call_laws.called_bodies.Goals as goal
use Rattle.law_reading.proofs.CallLaws.{bodies_are_called, bodies_are_called_from_the_source}

pub returns-clause-ahead : goal.returns-clause-ahead
returns-clause-ahead c = bodies_are_called

pub returns-clause-source : goal.returns-clause-source
returns-clause-source c = bodies_are_called_from_the_source
