use Rattle.std.proofs.Common.{rules, ◌≡◌, get_or, sym, subst, ◌∙◌}
use Rattle.tbl_line_cells.specs.LaidCells.{IsShown}
use Rattle.tbl_line_cells.specs.declared.laid_cells.LaidCell.{LaidCell}
use Rattle.tbl_line_cells.proofs.CellCut.{cut-drawn, runs-own}
use Rattle.tbl_line_cells.proofs.ColumnsAt.{any-default}
use Rattle.tbl_line_cells.proofs.line_cells.LineCells.cut_cell.Goals as goal

pub returns-in-Some-cut_to-clause-cell : goal.returns-in-Some-cut_to-clause-cell
returns-in-Some-cut_to-clause-cell c = λ s d is.
    let bytes = c.args.bytes.now in
    let fits = c.in-Some-cut_to.fits in
    let cell = c.index-cell.result.now in
    let same : get_or c.args.self.now.cells.items c.args.at d ≡ cell
    = any-default c.args.self.now.cells.items c.args.at d _ c.requires.at ∙ sym c.index-cell.ensures in
    let here : IsShown bytes cell s = subst (λ (e : LaidCell). IsShown bytes e s) same is in
    let run = runs-own bytes cell s c.in-Some.running here c.in-Some.is in
    let there : get_or c.note_cut.new.self.cells.items c.args.at d ≡ fits = search rules in
    cut-drawn bytes _ fits s c.args.room run.own s.runs_on run.shown there
    (c.in-Some-cut_to.ensures.cut s run.own here c.in-Some.is run.shown)
