use Rattle.law_reading_again.proofs.ShownBoxes.{diversions_print}
use Rattle.law_reading_again.proofs.ShownFields.{lines_print}
use Rattle.law_reading_again.proofs.laws.printable_lines.Goals as goal

pub returns-clause-lines : goal.returns-clause-lines
returns-clause-lines c = lines_print

pub returns-clause-diversions : goal.returns-clause-diversions
returns-clause-diversions c = diversions_print
