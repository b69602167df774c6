use Rattle.law_diversions.proofs.diversion_laws.diverted_lines.Goals as goal
use Rattle.law_diversions.proofs.Belonging.{lines_go_where_they_are_finished, open_diversions_take_all, performed_events_happen, the_page_takes_the_rest}

pub returns-clause-diverted : goal.returns-clause-diverted
returns-clause-diverted c = open_diversions_take_all

pub returns-clause-on_the_page : goal.returns-clause-on_the_page
returns-clause-on_the_page c = the_page_takes_the_rest

pub returns-clause-lines : goal.returns-clause-lines
returns-clause-lines c = lines_go_where_they_are_finished

pub returns-clause-performed : goal.returns-clause-performed
returns-clause-performed c = performed_events_happen
