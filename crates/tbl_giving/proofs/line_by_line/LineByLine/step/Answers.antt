use Rattle.std.proofs.Common.{◌≡◌, Some, refl, sym, ap, ◌∙◌}
use Rattle.tbl_format.specs.RowsServed.{all_rows}
use Rattle.tbl_giving.specs.LinesWalked.{KeptLineByLine}
use Rattle.tbl_giving.specs.declared.line_by_line.Place.TheVariants.{AtTop}
use Rattle.tbl_giving.specs.declared.line_by_line.RuleAt.TheVariants.{Top as OfTop}
use Rattle.tbl_lines.specs.PictureLines.{frame_sign}
use Rattle.tbl_giving.proofs.PartsNext.{RuleNext}
use Rattle.tbl_giving.proofs.StepsOffLines.{ended-at, rule-step, top-at}
use Rattle.tbl_giving.proofs.line_by_line.LineByLine.step.Goals as goal
use Rattle.tbl_giving.proofs.line_by_line.LineByLine.step.Goals.{In-AtTop, After-frame_sign-sign}

at_top : (c : In-AtTop) → c.args.self.now.place ≡ AtTop
at_top c = ap (λ (k : KeptLineByLine). k.place) (sym c.self.view_is) ∙ c.in-AtTop.is

next : (c : After-frame_sign-sign) → RuleNext c.args.bytes.now (all_rows c.args.format.now.format) c.args.rows.now c.args.self.now AtTop OfTop (Some c.frame_sign-sign.result) c.args.walk.now.room
next c =
    top-at (c.frame_sign-sign.ensures ∙ ap (λ (k : KeptLineByLine). frame_sign k.bars.boxing.bars) c.self.view_is)
    (at_top (goal.at.After-frame_sign-sign c).In-AtTop) c.requires.can

pub begin_rule-requires : goal.begin_rule-requires
begin_rule-requires c =
    let rule = next (goal.at.begin_rule-requires c).After-frame_sign-sign in
    record { come = rule.still.come; sign = rule.told }

pub returns-in-AtTop-clause-step : goal.returns-in-AtTop-clause-step
returns-in-AtTop-clause-step c = λ frame.
    let at = goal.at.returns-in-AtTop-clause-step c in
    rule-step (at_top at.In-AtTop) refl (next at.After-frame_sign-sign) c.begin_rule.ensures.begins

pub returns-in-AtEnd-clause-step : goal.returns-in-AtEnd-clause-step
returns-in-AtEnd-clause-step c = λ frame. record {
  none = ended-at (ap (λ (k : KeptLineByLine). k.place) (sym c.self.view_is) ∙ c.in-AtEnd.is) c.requires.can;
  same = refl;
  walk = refl;
  pieces_same = refl;
}
