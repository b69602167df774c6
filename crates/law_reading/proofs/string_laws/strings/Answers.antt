use Rattle.law_reading.proofs.string_laws.strings.Goals as goal
use Rattle.law_reading.proofs.StringLaws.{strings_are_the_rests_of_their_lines, strings_of_the_source_are_the_rests_of_their_lines}

pub returns-clause-ahead : goal.returns-clause-ahead
returns-clause-ahead c = strings_are_the_rests_of_their_lines

pub returns-clause-source : goal.returns-clause-source
returns-clause-source c = strings_of_the_source_are_the_rests_of_their_lines
