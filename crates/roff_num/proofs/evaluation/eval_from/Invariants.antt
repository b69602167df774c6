use Rattle.std.proofs.Common.{◌≡◌}
use Rattle.roff_num.specs.Reading.Frames.{outcome_now, outcome_opened, unheld, work_left}
use Rattle.roff_num.proofs.evaluation.eval_from.Given as goal

abbrev pub invariant-loop-operand : goal.invariant-loop-operand
invariant-loop-operand l = outcome_now l.text l.scale l.place l.reading l.operand ≡ outcome_opened l.text l.scale l.place (unheld l.fn.at l.fn.pending)

abbrev pub decreases-loop-operand : goal.decreases-loop-operand
decreases-loop-operand l = work_left l.text l.reading
