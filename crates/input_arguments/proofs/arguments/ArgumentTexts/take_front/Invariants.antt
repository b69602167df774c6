use Rattle.std.proofs.Common.{◌-◌, length}
use Rattle.input_arguments.specs.ArgumentTexts.Kept.{HoldsFront}
use Rattle.input_arguments.proofs.arguments.ArgumentTexts.take_front.Given as goal

abbrev pub invariant-loop-count : goal.invariant-loop-count
invariant-loop-count l = HoldsFront l.most l.bytes l.count l.initial.self l.self

abbrev pub decreases-loop-count : goal.decreases-loop-count
decreases-loop-count l = length l.bytes - l.count
