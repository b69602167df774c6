use Rattle.std.proofs.Common.{◌≡◌, ◌-◌, length, drop}
use Rattle.roff_num.specs.Expressions.{expression_of, operand_within, past}
use Rattle.roff_num.specs.Reading.Frames.{outcome_opened, unheld}
use Rattle.roff_num.proofs.evaluation.eval.Given as goal

abbrev pub invariant-loop-operand : goal.invariant-loop-operand
invariant-loop-operand l =
    outcome_opened l.text l.scale l.place (unheld l.begin l.pending) ≡ past l.at (expression_of (operand_within l.scale l.place 33) (drop l.at l.text))

abbrev pub decreases-loop-operand : goal.decreases-loop-operand
decreases-loop-operand l = length l.text - l.begin
