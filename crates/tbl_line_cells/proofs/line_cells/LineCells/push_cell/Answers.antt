use Rattle.std.proofs.Common.{◌||◌, sym, ap, ◌∙◌, refl, is_some}
use Rattle.tbl_lines.specs.LinesLeft.{shown}
use Rattle.tbl_line_cells.specs.LinesDrawn.{kept_line}
use Rattle.tbl_line_cells.proofs.LineLaid.{cell-so-far, or-false}
use Rattle.tbl_line_cells.proofs.line_cells.LineCells.push_cell.Goals as goal

pub laid_within-requires-clause-other : goal.laid_within-requires-clause-other
laid_within-requires-clause-other c = c.in_default.not-Ruled

pub returns-then-not-runs_on-clause-so_far : goal.returns-then-not-runs_on-clause-so_far
returns-then-not-runs_on-clause-so_far c = λ bytes l done fronts is so_far.
    let stays = sym (c.runs_on.ensures bytes l is) ∙ c.if-not-runs_on.true in
    cell-so-far bytes (kept_line c.args.self.now) _ c.laid_within.result (shown l c.args.column c.args.end) done fronts
    (c.laid_within.ensures.shown bytes l c.args.end is stays) so_far c.push_reserved.ensures.items
    (sym (or-false c.args.self.now.has_running) ∙ ap (λ o. c.args.self.now.has_running || is_some o) (sym c.laid_within.ensures.stays)) refl
