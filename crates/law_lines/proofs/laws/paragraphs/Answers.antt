use Rattle.law_lines.proofs.TextParagraphs.{finished_lines-since_break, finished_lines-behind_break, finished_lines-behind_line, finished_lines-behind_text, finished_lines-behind_words}
use Rattle.law_lines.proofs.laws.paragraphs.Goals as goal

pub returns-clause-pending : goal.returns-clause-pending
returns-clause-pending c = finished_lines-since_break

pub returns-clause-broken : goal.returns-clause-broken
returns-clause-broken c = finished_lines-behind_break

pub returns-clause-unfilled : goal.returns-clause-unfilled
returns-clause-unfilled c = finished_lines-behind_line

pub returns-clause-text : goal.returns-clause-text
returns-clause-text c = finished_lines-behind_text

pub returns-clause-told : goal.returns-clause-told
returns-clause-told c = finished_lines-behind_words
