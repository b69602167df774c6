use Rattle.law_reading.proofs.interpolation_laws.widths.Goals as goal
use Rattle.law_reading.proofs.WidthLaws.{widths_read_as_digits, widths_of_the_source_read_as_digits, widths_end_with_their_line, measured_texts_read_as_digits, measured_texts_of_the_source_read_as_digits}

pub returns-clause-delimiter : goal.returns-clause-delimiter
returns-clause-delimiter c = widths_read_as_digits

pub returns-clause-delimiter_of_the_source : goal.returns-clause-delimiter_of_the_source
returns-clause-delimiter_of_the_source c = widths_of_the_source_read_as_digits

pub returns-clause-text : goal.returns-clause-text
returns-clause-text c = measured_texts_read_as_digits

pub returns-clause-text_of_the_source : goal.returns-clause-text_of_the_source
returns-clause-text_of_the_source c = measured_texts_of_the_source_read_as_digits

pub returns-clause-line : goal.returns-clause-line
returns-clause-line c = widths_end_with_their_line
