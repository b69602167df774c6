use Rattle.law_diversions.proofs.diversion_laws.texts_in_the_making.Goals as goal
use Rattle.law_diversions.proofs.DivertedRuns.{names_leave_texts, texts_are_diverted_lines, texts_become_diverted_lines}

pub returns-clause-are : goal.returns-clause-are
returns-clause-are c = texts_are_diverted_lines

pub returns-clause-behind : goal.returns-clause-behind
returns-clause-behind c = texts_become_diverted_lines

pub returns-clause-names : goal.returns-clause-names
returns-clause-names c = names_leave_texts
