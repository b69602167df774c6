use Rattle.std.proofs.Common.{refl, ap}
use Rattle.tbl_giving.specs.LinesWalked.{is_on_line}
use Rattle.tbl_giving.specs.declared.line_by_line.Place.{Place}
use Rattle.tbl_giving.proofs.LineStepsMade.{goes-step}
use Rattle.tbl_giving.proofs.StepsOnLines.{come-after, on-rule-next, on-rule-stands, rule-ends, under-of}
use Rattle.tbl_giving.proofs.line_by_line.LineByLine.step_on_rule.Goals as goal

pub step_on_line-requires-clause-under : goal.step_on_line-requires-clause-under
step_on_line-requires-clause-under c = under-of (ap (λ (p : Place). is_on_line p) c.requires.place) c.requires.can

pub end_rule-requires-clause-next : goal.end_rule-requires-clause-next
end_rule-requires-clause-next c = on-rule-next c.requires.place c.requires.can.come

pub end_rule-requires-clause-stands : goal.end_rule-requires-clause-stands
end_rule-requires-clause-stands c = on-rule-stands c.requires.place c.requires.can.come

pub returns-then-step_on_line-clause-step : goal.returns-then-step_on_line-clause-step
returns-then-step_on_line-clause-step c = λ frame.
    let ends = c.if-step_on_line.ensures.steps frame in
    rule-ends (ap (λ (p : Place). is_on_line p) c.requires.place) c.requires.can ends
    (c.end_rule.ensures.gone c.step_on_line.new.walk.room (come-after ends.stays.room c.requires.can))

pub returns-else-step_on_line-clause-step : goal.returns-else-step_on_line-clause-step
returns-else-step_on_line-clause-step c = λ frame.
    goes-step (ap (λ (p : Place). is_on_line p) c.requires.place) c.requires.can (c.if-step_on_line.ensures.steps frame) (c.if-step_on_line.ensures.full refl)
