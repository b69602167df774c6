use Rattle.std.proofs.Common.{◌≡◌, Bool, Some, ap, sym, subst}
use Rattle.tbl_layout.specs.Entries.{is_number}
use Rattle.tbl_line_cells.proofs.RunningLaid.{run-laid, with-number}
use Rattle.tbl_line_cells.proofs.laid_cells.running.Goals as goal

pub returns : goal.returns
returns c = λ bytes l end is runs.
    with-number bytes c.args.cell c.args.column end is.laid l c.is_number.result c.is_number.ensures
    (run-laid bytes c.args.cell c.args.column end is.laid l is c.requires.here c.requires.narrow runs)
