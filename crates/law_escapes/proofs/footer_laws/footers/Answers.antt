use Rattle.law_escapes.proofs.GapsPutBack.{word_ends_put_back_a_gap, word_ends_stay_followed}
use Rattle.law_escapes.proofs.LinesGoOn.{lines_go_on_with_another_word}
use Rattle.law_escapes.proofs.WordEnds.{text_lines_end_words_so}
use Rattle.law_escapes.proofs.WordsApart.{footers_begin_words, footers_behind_tabs}
use Rattle.law_escapes.proofs.footer_laws.footers.Goals as goal

pub returns-clause-front : goal.returns-clause-front
returns-clause-front c = footers_begin_words

pub returns-clause-behind : goal.returns-clause-behind
returns-clause-behind c = lines_go_on_with_another_word

pub returns-clause-ends : goal.returns-clause-ends
returns-clause-ends c = text_lines_end_words_so

pub returns-clause-put_back : goal.returns-clause-put_back
returns-clause-put_back c = word_ends_put_back_a_gap

pub returns-clause-stay : goal.returns-clause-stay
returns-clause-stay c = word_ends_stay_followed

pub returns-clause-tabs : goal.returns-clause-tabs
returns-clause-tabs c = footers_behind_tabs
