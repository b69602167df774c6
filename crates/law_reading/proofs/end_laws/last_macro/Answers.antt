use Rattle.law_reading.proofs.EndLaws.{the_last_macro_is_read, then_the_line_is_placed, then_the_run_is_done, without_one_nothing_is_read}
use Rattle.law_reading.proofs.end_laws.last_macro.Goals as goal

pub returns-clause-read : goal.returns-clause-read
returns-clause-read c = the_last_macro_is_read

pub returns-clause-without : goal.returns-clause-without
returns-clause-without c = without_one_nothing_is_read

pub returns-clause-placed : goal.returns-clause-placed
returns-clause-placed c = then_the_line_is_placed

pub returns-clause-done : goal.returns-clause-done
returns-clause-done c = then_the_run_is_done
