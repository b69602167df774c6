use Rattle.law_reading.proofs.LineLaws.{other_lines_have_the_indent_in_force, temporary_indents_are_for_one_line}
use Rattle.law_reading.proofs.line_laws.temporary_indents.Goals as goal

pub returns-clause-one_line : goal.returns-clause-one_line
returns-clause-one_line c = temporary_indents_are_for_one_line

pub returns-clause-others : goal.returns-clause-others
returns-clause-others c = other_lines_have_the_indent_in_force
