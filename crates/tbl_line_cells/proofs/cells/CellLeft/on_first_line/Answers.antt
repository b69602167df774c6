use Rattle.std.proofs.Common.{sym, subst, ◌∙◌}
use Rattle.tbl_line_cells.proofs.FirstLines.{gone-shown, nearer-shown, stays-shown}
use Rattle.tbl_line_cells.proofs.cells.CellLeft.on_first_line.Goals as goal
use Rattle.tbl_line_cells.specs.KeptCells.{ShowsRule, behind_rules}
use Rattle.tbl_line_cells.specs.declared.cells.CellLeft.{CellLeft}

pub returns-then-not-goes_on : goal.returns-then-not-goes_on
returns-then-not-goes_on c = λ bytes l is.
    stays-shown bytes c.args.self c.args.rules l is (sym c.goes_on.ensures ∙ c.if-not-goes_on.true)

pub returns-then-self-rules : goal.returns-then-self-rules
returns-then-self-rules c = λ bytes l is.
    subst (λ (k : CellLeft). ShowsRule bytes k (behind_rules c.args.rules l)) (sym c.with.ensures)
    (gone-shown bytes c.args.self c.args.rules l is (sym c.goes_on.ensures ∙ c.if-not-goes_on.false) c.if-self-rules.true)

pub returns : goal.returns
returns c = λ bytes l is.
    subst (λ (k : CellLeft). ShowsRule bytes k (behind_rules c.args.rules l)) (sym c.with-2.ensures)
    (nearer-shown bytes c.args.self c.args.rules l is (sym c.goes_on.ensures ∙ c.if-not-goes_on.false) c.if-self-rules.false)
