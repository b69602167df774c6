use Rattle.std.proofs.Common.{◌≡◌, ℕ, suc, ◌-◌, ap, ◌∙◌, arith}
use Rattle.tbl_line_cells.specs.LinesDrawn.{keys_in}
use Rattle.tbl_line_cells.specs.RulesDrawn.{begin_from}
use Rattle.tbl_line_cells.proofs.CellsOver.{begin-of}
use Rattle.tbl_line_cells.proofs.rule_cells.begin_of.Goals as goal

pub returns-else-cell-eq0 : goal.returns-else-cell-eq0
returns-else-cell-eq0 c =
    let next : suc (c.args.cell - 1) ≡ c.args.cell = omega (arith, c.if-cell-eq0.false) in
    begin-of 0 c.args.cells.now (c.args.cell - 1) _ (omega (arith, c.if-cell-eq0.false, c.requires))
    ∙ ap (λ (n : ℕ). begin_from 0 n (keys_in c.args.cells.now)) next
