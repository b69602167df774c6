use Rattle.law_escapes.proofs.MacroEnds.{macros_are_read_to_their_end, macros_begin_a_line}
use Rattle.law_escapes.proofs.footer_laws.macro_ends.Goals as goal

pub returns-clause-begins : goal.returns-clause-begins
returns-clause-begins c = macros_begin_a_line

pub returns-clause-ends : goal.returns-clause-ends
returns-clause-ends c = macros_are_read_to_their_end
