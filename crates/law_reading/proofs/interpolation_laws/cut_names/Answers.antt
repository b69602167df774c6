use Rattle.law_reading.proofs.CutNames.{cut_names_are_their_first_byte, cut_names_of_the_source_are_their_first_byte}
use Rattle.law_reading.proofs.interpolation_laws.cut_names.Goals as goal

pub returns-clause-ahead : goal.returns-clause-ahead
returns-clause-ahead c = cut_names_are_their_first_byte

pub returns-clause-source : goal.returns-clause-source
returns-clause-source c = cut_names_of_the_source_are_their_first_byte
