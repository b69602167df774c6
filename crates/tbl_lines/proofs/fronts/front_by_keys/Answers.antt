use Rattle.std.proofs.Common.{◌≡◌, ℕ, suc, ◌-◌, Option, ◌∷◌, drop, get_or, sym, ap, subst, ◌∙◌, arith}
use Rattle.tbl_layout.specs.declared.columns.Column.{Column}
use Rattle.tbl_layout.specs.declared.data_lines.RuleSign.{RuleSign}
use Rattle.tbl_lines.specs.PictureLines.{Cell, bars_at, bars_at_edge, bars_between, bars_by}
use Rattle.tbl_lines.specs.RowsLeft.{fronts_by, joined_first}
use Rattle.tbl_lines.specs.RowsLent.{lent_columns, lent_entries, lent_format}
use Rattle.tbl_lines.proofs.FrontCells.{any-some, front-between, front-count, front-edge}
use Rattle.tbl_lines.proofs.RowCells.{get-at}
use Rattle.tbl_lines.proofs.fronts.front_by_keys.Goals as goal

pub returns-then-at-cells-clause-at : goal.returns-then-at-cells-clause-at
returns-then-at-cells-clause-at c =
    let row = c.args.row.now in
    let format = lent_format row in
    let columns = lent_columns row in
    let at = c.args.at in
    let all = fronts_by row.bars row.width format columns (lent_entries row) in
    let any = any-some row.bars row.width format columns (lent_entries row) at c.requires.within in
    let found = c.edge_front-then-at-cells.ensures.cell
    ∙ ap (λ (n : ℕ). bars_at n c.edge_bars-bars.result) c.saturating_sub.ensures
    ∙ ap (λ (b : ℕ). bars_at (row.width - b) b) (c.edge_bars-bars.ensures ∙ ap (bars_at_edge row.bars.boxing format) c.cells-cells.ensures) in
    front-edge row.bars row.width format columns (lent_entries row) any at c.if-at-eq0.false (omega (arith, c.if-at-cells.true, c.cells-cells.ensures))
    (omega (arith, c.requires.within, front-count row.bars row.width format columns (lent_entries row) any))
    ∙ ap (λ (x : Cell). x ∷ drop (suc at) all) (sym found)

pub returns-clause-at : goal.returns-clause-at
returns-clause-at c =
    let row = c.args.row.now in
    let format = lent_format row in
    let columns = lent_columns row in
    let at = c.args.at in
    let n = at - 1 in
    let all = fronts_by row.bars row.width format columns (lent_entries row) in
    let any = any-some row.bars row.width format columns (lent_entries row) at c.requires.within in
    let same : suc n ≡ at = omega (arith, c.if-at-eq0.false) in
    let joined = joined_first (drop n (lent_entries row)) in
    let before = c.cell.result in
    let behind = c.cell-2.result in
    let one : Option RuleSign → ℕ → Column → Column → Cell = λ j b x y. bars_by j b x y in
    let found = c.between.ensures.cell
    ∙ ap (λ (j : Option RuleSign). one j c.bars_between.result before behind) (c.joined_at.ensures row.last_bars)
    ∙ ap (λ (b : ℕ). one joined b before behind) c.bars_between.ensures in
    subst (λ (k : ℕ). drop k all ≡ one joined (bars_between row.bars.boxing format k) (get_or columns n before) (get_or columns k before) ∷ drop (suc k) all) same
    (front-between row.bars row.width format columns (lent_entries row) any n before (omega (arith, same, c.if-at-cells.false, c.cells-cells.ensures)))
    ∙ ap (λ (x : Column). one joined (bars_between row.bars.boxing format at) x (get_or columns at before) ∷ drop (suc at) all)
    (get-at n columns before (drop (suc n) columns) before c.cell.ensures.at)
    ∙ ap (λ (x : Column). one joined (bars_between row.bars.boxing format at) before x ∷ drop (suc at) all)
    (get-at at columns behind (drop (suc at) columns) before c.cell-2.ensures.at)
    ∙ ap (λ (x : Cell). x ∷ drop (suc at) all) (sym found)
