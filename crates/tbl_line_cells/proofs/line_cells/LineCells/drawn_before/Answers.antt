use Rattle.std.proofs.Common.{Bool, ◌&&◌, get_or, sym, ap, ◌∙◌, if◌then◌else◌}
use Rattle.tbl_lines.specs.LinesLeft.{is_there}
use Rattle.tbl_lines.specs.RowsLeft.{cell_of_front, first_of}
use Rattle.tbl_lines.specs.declared.fronts.Front.{Front}
use Rattle.tbl_line_cells.specs.LaidCells.{on_line}
use Rattle.tbl_line_cells.proofs.LineCut.{front-get}
use Rattle.tbl_line_cells.proofs.line_cells.LineCells.drawn_before.Goals as goal

pub returns-then-has_fronts : goal.returns-then-has_fronts
returns-then-has_fronts c = λ fronts d front.
    let f = get_or fronts c.args.at d in
    c.drawn_in_front.ensures f
    (ap (λ (g : Front). on_line (cell_of_front g)) c.index.ensures
    ∙ front-get c.args.self.now.fronts.items fronts c.args.at c.index.result.now d front.in_front c.requires.at)
    ∙ ap (λ (b : Bool). if b && is_there (first_of f) then f.at else c.args.next) (sym c.if-has_fronts.true)
