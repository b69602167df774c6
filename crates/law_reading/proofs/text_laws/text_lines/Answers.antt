use Rattle.law_reading.proofs.text_laws.text_lines.Goals as goal
use Rattle.law_reading.proofs.TextLaws.{text_lines_tell_their_words, text_lines_of_the_source_tell_their_words}

pub returns-clause-ahead : goal.returns-clause-ahead
returns-clause-ahead c = text_lines_tell_their_words

pub returns-clause-source : goal.returns-clause-source
returns-clause-source c = text_lines_of_the_source_tell_their_words
