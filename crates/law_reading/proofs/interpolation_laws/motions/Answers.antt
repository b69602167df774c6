use Rattle.law_reading.proofs.interpolation_laws.motions.Goals as goal
use Rattle.law_reading.proofs.MotionLaws.{fields_begin_in_the_line, fields_begin_without_columns, motions_are_as_long_as_their_columns, motions_count_in_the_line, tabs_are_as_long_as_their_columns, tabs_count_in_the_line}

pub returns-clause-length : goal.returns-clause-length
returns-clause-length c = motions_are_as_long_as_their_columns

pub returns-clause-limit : goal.returns-clause-limit
returns-clause-limit c = motions_count_in_the_line

pub returns-clause-length_of_a_tab : goal.returns-clause-length_of_a_tab
returns-clause-length_of_a_tab c = tabs_are_as_long_as_their_columns

pub returns-clause-limit_of_a_tab : goal.returns-clause-limit_of_a_tab
returns-clause-limit_of_a_tab c = tabs_count_in_the_line

pub returns-clause-length_of_an_opening_tab : goal.returns-clause-length_of_an_opening_tab
returns-clause-length_of_an_opening_tab c = fields_begin_without_columns

pub returns-clause-limit_of_an_opening_tab : goal.returns-clause-limit_of_an_opening_tab
returns-clause-limit_of_an_opening_tab c = fields_begin_in_the_line
