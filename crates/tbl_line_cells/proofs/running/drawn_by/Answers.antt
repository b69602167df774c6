use Rattle.std.proofs.Common.{◌≤◌, arith}
use Rattle.tbl_line_cells.proofs.RunningFits.{rule-within}
use Rattle.tbl_line_cells.proofs.running.drawn_by.Goals as goal

pub overflow_add-result : goal.overflow_add-result
overflow_add-result c =
    let within = rule-within c.args.cell.column c.args.cell.key c.place_of_rule.result c.place_of_rule.ensures in
    omega (arith, within, c.requires.end)
