use Rattle.law_reading.proofs.LineLaws.{centred_lines_stand_in_the_middle, so_many_lines_are_centred}
use Rattle.law_reading.proofs.line_laws.centred_lines.Goals as goal

pub returns-clause-middle : goal.returns-clause-middle
returns-clause-middle c = centred_lines_stand_in_the_middle

pub returns-clause-count : goal.returns-clause-count
returns-clause-count c = so_many_lines_are_centred
