use Rattle.law_reading.proofs.LineLaws.{closers_apart_end_no_sentence, no_other_glyph_ends_a_sentence, sentences_are_two_blanks_apart, sentences_end_at_their_marks}
use Rattle.law_reading.proofs.line_laws.sentences.Goals as goal

pub returns-clause-gap : goal.returns-clause-gap
returns-clause-gap c = sentences_are_two_blanks_apart

pub returns-clause-marks : goal.returns-clause-marks
returns-clause-marks c = sentences_end_at_their_marks

pub returns-clause-apart : goal.returns-clause-apart
returns-clause-apart c = closers_apart_end_no_sentence

pub returns-clause-others : goal.returns-clause-others
returns-clause-others c = no_other_glyph_ends_a_sentence
