use Rattle.std.proofs.Common.{rules, ◌≡◌, ◌-◌, length, slice_get, Some}
use Rattle.tbl_kept.proofs.TextBlocks.{goes_on-get}
use Rattle.tbl_table.proofs.table_steps.goes_on.Goals as goal

pub returns-in-Some : goal.returns-in-Some
returns-in-Some c =
    let line = c.args.line.now in
    let is : slice_get line (length line - 1) ≡ Some c.in-Some.byte.now = search rules in
    goes_on-get line c.in-Some.byte.now is
