use Rattle.tbl_line_cells.proofs.LaidShown.{ends-itself, laid-shown}
use Rattle.tbl_line_cells.proofs.laid_cells.laid_within.Goals as goal

pub returns-clause-shown : goal.returns-clause-shown
returns-clause-shown c = λ bytes l end is stays.
    let cell = c.args.cell in
    laid-shown bytes cell c.args.column end is.laid l c.text_at.result is c.requires.here
    (ends-itself cell.entry.kind c.requires.other) c.requires.narrow stays (c.text_at.ensures bytes l end is stays)
