use Rattle.std.proofs.Common.{◌≡◌, ℕ, suc, ◌+◌, sym, ap, subst, ◌∙◌, arith}
use Rattle.tbl_line_cells.specs.LinesDrawn.{keys_in}
use Rattle.tbl_line_cells.specs.RulesDrawn.{HasColumn, begin_from}
use Rattle.tbl_line_cells.proofs.CellsOver.{column-behind, column-within}
use Rattle.tbl_line_cells.proofs.rule_cells.cell_behind.Goals as goal

pub returns-then-at-begin_of : goal.returns-then-at-begin_of
returns-then-at-begin_of c = λ count cover more.
    let keys = keys_in c.args.cells.now in
    let next : suc c.args.cell ≡ c.args.cell + 1 = omega arith in
    subst (λ (n : ℕ). HasColumn keys n (c.args.at + 1)) next
    (column-behind count c.args.cell c.args.at keys cover c.requires.column more
    (c.if-at-begin_of.true ∙ c.begin_of.ensures ∙ ap (λ (n : ℕ). begin_from 0 n keys) (sym next)))

pub returns-else-at-begin_of : goal.returns-else-at-begin_of
returns-else-at-begin_of c = λ count cover more.
    let keys = keys_in c.args.cells.now in
    let next : suc c.args.cell ≡ c.args.cell + 1 = omega arith in
    column-within c.args.cell c.args.at keys c.requires.column
    (λ is. c.if-at-begin_of.false (is ∙ ap (λ (n : ℕ). begin_from 0 n keys) next ∙ sym c.begin_of.ensures))
