use Rattle.std.proofs.Common.{◌<◌, sym, ◌∙◌, arith}
use Rattle.tbl_line_cells.proofs.LaidShown.{lead-stays, nothing-shown}
use Rattle.tbl_line_cells.proofs.laid_cells.laid.Goals as goal

pub returns-else-runs_on : goal.returns-else-runs_on
returns-else-runs_on c = λ bytes l is.
    c.laid_within.ensures.shown bytes l c.args.end is (sym (c.runs_on.ensures bytes l is) ∙ c.if-runs_on.false)

pub laid_within-requires-clause-other : goal.laid_within-requires-clause-other
laid_within-requires-clause-other c = c.in_default.not-Ruled

pub returns-then-runs_on : goal.returns-then-runs_on
returns-then-runs_on c = λ bytes l is.
    c.running.ensures bytes l c.args.end is (sym (c.runs_on.ensures bytes l is) ∙ c.if-runs_on.true)

pub returns-then-cell-gt0 : goal.returns-then-cell-gt0
returns-then-cell-gt0 c = λ bytes l is.
    let more : 0 < l.lead = omega (arith, c.if-cell-gt0.true, is.lead) in
    nothing-shown bytes l c.args.column c.args.cell.key.key c.args.end c.text_at.result more c.requires.narrow
    (c.text_at.ensures bytes l c.args.end is (lead-stays l c.args.column more))
