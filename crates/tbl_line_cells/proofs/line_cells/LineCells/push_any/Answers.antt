use Rattle.std.proofs.Common.{rules, ◌≡◌, ◌||◌, refl, is_some}
use Rattle.tbl_lines.specs.LinesLeft.{shown}
use Rattle.tbl_line_cells.specs.LinesDrawn.{kept_line}
use Rattle.tbl_line_cells.proofs.LineLaid.{cell-so-far}
use Rattle.tbl_line_cells.proofs.line_cells.LineCells.push_any.Goals.{else-self, then-self}
use Rattle.tbl_line_cells.proofs.line_cells.LineCells.push_any.Goals as goal

pub returns-clause-so_far : goal.returns-clause-so_far
returns-clause-so_far c = λ bytes l done fronts is so_far.
    let laid = c.laid-laid.result in
    let running : c.if-self.self ≡ (c.args.self.now.has_running || is_some laid.runs_on)
    = elim c.if-self.branch [ then-self w ↦ search rules | else-self w ↦ search rules ] in
    cell-so-far bytes (kept_line c.args.self.now) _ laid (shown l c.args.column c.args.end) done fronts (c.laid-laid.ensures bytes l is) so_far
    c.push_reserved.ensures.items running refl
