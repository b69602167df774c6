use Rattle.law_reading.proofs.interpolation_laws.word_arguments.Goals as goal
use Rattle.law_reading.proofs.WordArguments.{requests_get_words, requests_get_words_at_the_lines_end, words_at_the_lines_end_read_back, words_read_back}

pub returns-clause-read_back : goal.returns-clause-read_back
returns-clause-read_back c = words_read_back

pub returns-clause-read_back_at_the_end : goal.returns-clause-read_back_at_the_end
returns-clause-read_back_at_the_end c = words_at_the_lines_end_read_back

pub returns-clause-given : goal.returns-clause-given
returns-clause-given c = requests_get_words

pub returns-clause-given_at_the_end : goal.returns-clause-given_at_the_end
returns-clause-given_at_the_end c = requests_get_words_at_the_lines_end
