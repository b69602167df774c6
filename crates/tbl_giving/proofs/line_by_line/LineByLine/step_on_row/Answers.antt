use Rattle.std.proofs.Common.{[], refl, ap}
use Rattle.tbl_giving.specs.LinesWalked.{is_on_line}
use Rattle.tbl_giving.specs.declared.line_by_line.Place.{Place}
use Rattle.tbl_giving.proofs.LineStepsMade.{goes-step}
use Rattle.tbl_giving.proofs.StepsOnLines.{come-after, row-ends, under-of}
use Rattle.tbl_giving.proofs.line_by_line.LineByLine.step_on_row.Goals as goal

pub step_on_line-requires-clause-under : goal.step_on_line-requires-clause-under
step_on_line-requires-clause-under c = under-of (ap (λ (p : Place). is_on_line p) c.requires.place) c.requires.can

pub end_row_line-requires-clause-come : goal.end_row_line-requires-clause-come
end_row_line-requires-clause-come c = come-after (c.if-step_on_line.ensures.steps []).stays.room c.requires.can

pub returns-then-step_on_line-clause-step : goal.returns-then-step_on_line-clause-step
returns-then-step_on_line-clause-step c = λ frame.
    row-ends (ap (λ (p : Place). is_on_line p) c.requires.place) c.requires.can (c.if-step_on_line.ensures.steps frame) c.end_row_line.ensures.gone

pub returns-else-step_on_line-clause-step : goal.returns-else-step_on_line-clause-step
returns-else-step_on_line-clause-step c = λ frame.
    goes-step (ap (λ (p : Place). is_on_line p) c.requires.place) c.requires.can (c.if-step_on_line.ensures.steps frame) (c.if-step_on_line.ensures.full refl)
