use Rattle.law_reading.proofs.interpolation_laws.bytes_in_front.Goals as goal
use Rattle.run_model.proofs.ItemsTaken.{bytes_ahead_are_taken, bytes_of_the_source_are_taken}

pub returns-clause-ahead : goal.returns-clause-ahead
returns-clause-ahead c = bytes_ahead_are_taken

pub returns-clause-source : goal.returns-clause-source
returns-clause-source c = bytes_of_the_source_are_taken
