use Rattle.law_reading.proofs.text_laws.blank_lines.Goals as goal
use Rattle.law_reading.proofs.TextLaws.{blank_lines_space, blank_lines_of_the_source_space}

pub returns-clause-ahead : goal.returns-clause-ahead
returns-clause-ahead c = blank_lines_space

pub returns-clause-source : goal.returns-clause-source
returns-clause-source c = blank_lines_of_the_source_space
