use Rattle.std.proofs.Common.{◌≡◌, sym, ap, subst, ◌∙◌}
use Rattle.tbl_giving.specs.LinesWalked.{KeptLineByLine, LineUnderWay, kept_by, bars_by, row_laid}
use Rattle.tbl_layout.specs.declared.bars.Bars.{Bars}
use Rattle.tbl_picture.specs.Walks.{IsUnderWay, RowEndsOrGoesOn, WalkedRow, lent_row}
use Rattle.tbl_line_cells.specs.LinesDrawn.{Draws, laid_row}
use Rattle.tbl_giving.proofs.line_by_line.LineByLine.step_on_line.Goals as goal
use Rattle.tbl_giving.proofs.line_by_line.LineByLine.step_on_line.Goals.{After-bars_on_line, After-lent-row}

under : (c : After-bars_on_line) → LineUnderWay c.args.bytes.now (kept_by c.self.inside) c.args.walk.now
under c = subst (λ (k : KeptLineByLine). LineUnderWay c.args.bytes.now k c.args.walk.now) (sym c.self.view_is) c.requires.under

bars : (c : After-bars_on_line) → c.bars_on_line.result ≡ bars_by c.self.inside.place c.self.inside.bars
bars c = c.bars_on_line.ensures ∙ ap (λ (k : KeptLineByLine). bars_by k.place k.bars) (sym c.self.view_is)

draws : (c : After-bars_on_line) → let g = c.self.inside in Draws c.args.bytes.now c.bars_on_line.result g.width g.tall.line (under c).text
draws c = let g = c.self.inside in
    subst (λ (b : Bars). Draws c.args.bytes.now b g.width g.tall.line (under c).text) (sym (bars c)) (under c).draws

row : (c : After-lent-row) → lent_row c.lent-row.result ≡ row_laid c.args.bytes.now (kept_by c.self.inside)
row c =
    let at = (goal.at.After-lent-row c).After-bars_on_line in
    let g = c.self.inside in
    c.lent-row.ensures.row (under at).text (draws at) ∙ ap (λ (b : Bars). laid_row c.args.bytes.now b g.width g.tall.line) (bars at)

pub returns-clause-steps : goal.returns-clause-steps
returns-clause-steps c = λ frame.
    let w = c.args.walk.now in
    let stepped = c.steps_in_row in
    subst (λ (k : KeptLineByLine). RowEndsOrGoesOn stepped.result frame (row_laid c.args.bytes.now k) w stepped.new.self c.args.pieces.now stepped.new.pieces) c.self.view_is
    (subst (λ (r : WalkedRow). RowEndsOrGoesOn stepped.result frame r w stepped.new.self c.args.pieces.now stepped.new.pieces)
    (row (goal.at.returns-clause-steps c).After-lent-row) (stepped.ensures.steps frame))

pub steps_in_row-requires-clause-lies : goal.steps_in_row-requires-clause-lies
steps_in_row-requires-clause-lies c =
    let at = (goal.at.steps_in_row-requires-clause-lies c).After-bars_on_line in
    c.lent-row.ensures.lies (under at).text (draws at)

pub steps_in_row-requires-clause-can : goal.steps_in_row-requires-clause-can
steps_in_row-requires-clause-can c =
    let at = goal.at.steps_in_row-requires-clause-can c in
    let w = c.args.walk.now in
    subst (λ (r : WalkedRow). IsUnderWay w.next r w) (sym (row at.After-lent-row)) (under at.After-bars_on_line).under
