use Rattle.std.proofs.Common.{◌+◌, None, refl, sym, ap, ◌∙◌, nat_lt}
use Rattle.tbl_format.specs.RowsServed.{all_rows}
use Rattle.tbl_giving.specs.LinesWalked.{KeptLineByLine}
use Rattle.tbl_giving.specs.declared.line_by_line.Place.TheVariants.{AtElement, OnRow}
use Rattle.tbl_giving.specs.declared.line_by_line.RuleAt.TheVariants.{InFront}
use Rattle.tbl_giving.proofs.LinesLaid.{StillCome}
use Rattle.tbl_giving.proofs.PartsNext.{RuleNext}
use Rattle.tbl_giving.proofs.StepsOffLines.{keys-at, line-at, row-step, rule-step}
use Rattle.tbl_giving.proofs.line_by_line.LineByLine.step_at_keys.Goals as goal
use Rattle.tbl_giving.proofs.line_by_line.LineByLine.step_at_keys.Goals.{Then-has_rule, Else-has_rule}

next : (c : Then-has_rule) → RuleNext c.args.bytes.now (all_rows c.args.format.now.format) c.args.rows.now c.args.self.now AtElement InFront None c.args.walk.now.room
next c = keys-at c.requires.place c.requires.can c.requires.row c.requires.none
    (ap (λ (k : KeptLineByLine). nat_lt k.tall.band.at (k.tall.band.wholes + k.tall.band.count)) (sym c.self.view_is) ∙ sym c.if-has_rule.ensures)

still : (c : Else-has_rule) → let g = c.args.self.now in
    StillCome c.args.bytes.now (all_rows c.args.format.now.format) c.args.rows.now (record g { place = AtElement }) (record g { place = OnRow }) c.args.walk.now.room
still c = line-at c.requires.place c.requires.can c.requires.row c.requires.none
    (ap (λ (k : KeptLineByLine). nat_lt k.tall.band.at (k.tall.band.wholes + k.tall.band.count)) (sym c.self.view_is) ∙ sym c.if-has_rule.ensures)

pub begin_rule-requires : goal.begin_rule-requires
begin_rule-requires c =
    let rule = next (goal.at.begin_rule-requires c).Then-has_rule in
    record { come = rule.still.come; sign = rule.told }

pub begin_row_line-requires : goal.begin_row_line-requires
begin_row_line-requires c = record { come = (still (goal.at.begin_row_line-requires c).Else-has_rule).come }

pub returns-then-has_rule-clause-step : goal.returns-then-has_rule-clause-step
returns-then-has_rule-clause-step c = λ frame pieces.
    rule-step c.requires.place refl (next (goal.at.returns-then-has_rule-clause-step c).Then-has_rule) c.begin_rule.ensures.begins

pub returns-clause-step : goal.returns-clause-step
returns-clause-step c = λ frame pieces.
    row-step c.requires.place (still (goal.at.returns-clause-step c).Else-has_rule) c.begin_row_line.ensures.begins
