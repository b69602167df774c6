use Rattle.law_reading.proofs.EndedLines.{unended_branches_do_nothing, unended_definitions_enter_nothing, unfinished_text_lines_tell_their_words}
use Rattle.law_reading.proofs.end_laws.ended_lines.Goals as goal

pub returns-clause-text : goal.returns-clause-text
returns-clause-text c = unfinished_text_lines_tell_their_words

pub returns-clause-definition : goal.returns-clause-definition
returns-clause-definition c = unended_definitions_enter_nothing

pub returns-clause-branch : goal.returns-clause-branch
returns-clause-branch c = unended_branches_do_nothing
