use Rattle.law_escapes.proofs.OwnWords.{lines_are_of_ended_words}
use Rattle.law_escapes.proofs.WordsApart.{ends_leave_no_word_open, fields_leave_a_word_open, line_ends_leave_no_word_open, only_glyphs_open_words, open_words_go_on, words_begin_where_none_is_open, words_stand_apart}
use Rattle.law_escapes.proofs.footer_laws.words.Goals as goal

pub returns-clause-begun : goal.returns-clause-begun
returns-clause-begun c = words_begin_where_none_is_open

pub returns-clause-apart : goal.returns-clause-apart
returns-clause-apart c = words_stand_apart

pub returns-clause-left_open : goal.returns-clause-left_open
returns-clause-left_open c = open_words_go_on

pub returns-clause-of_lines : goal.returns-clause-of_lines
returns-clause-of_lines c = lines_are_of_ended_words

pub returns-clause-ended : goal.returns-clause-ended
returns-clause-ended c = ends_leave_no_word_open

pub returns-clause-only_glyphs : goal.returns-clause-only_glyphs
returns-clause-only_glyphs c = only_glyphs_open_words

pub returns-clause-line_ended : goal.returns-clause-line_ended
returns-clause-line_ended c = line_ends_leave_no_word_open

pub returns-clause-field_ended : goal.returns-clause-field_ended
returns-clause-field_ended c = fields_leave_a_word_open
