use Rattle.std.proofs.Common.{sym, subst}
use Rattle.input_source.proofs.PlainBytes.{take_while-plain}
use Rattle.tbl_core.specs.Passing.{IsWithinLine, is_of_line}
use Rattle.tbl_core.proofs.tables.Tables.passing.Goals as goal

pub before_table-requires : goal.before_table-requires
before_table-requires c = subst IsWithinLine (sym c.line_front.ensures) (take_while-plain is_of_line c.at_most.result.now)
