use Rattle.law_reading.proofs.interpolation_laws.escapes.Goals as goal
use Rattle.law_reading.proofs.InterpolatedNames.{escapes_read_as_texts, escapes_of_the_source_read_as_texts, escapes_of_text_read_as_texts}

pub returns-clause-ahead : goal.returns-clause-ahead
returns-clause-ahead c = escapes_read_as_texts

pub returns-clause-source : goal.returns-clause-source
returns-clause-source c = escapes_of_the_source_read_as_texts

pub returns-clause-of_text : goal.returns-clause-of_text
returns-clause-of_text c = escapes_of_text_read_as_texts
