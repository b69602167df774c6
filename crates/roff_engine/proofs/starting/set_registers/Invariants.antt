use Rattle.std.proofs.Common.{◌≡◌, [], length}
use Rattle.run_model.specs.Output.{PageHistory, written}
use Rattle.roff_engine.proofs.RegistersGiven.{SetSoFar}
use Rattle.roff_engine.proofs.starting.set_registers.Given as goal

abbrev pub invariant-loop-first : goal.invariant-loop-first
invariant-loop-first l = (first : PageHistory) → written first ≡ [] → SetSoFar first l.initial.running l.running l.fn.given l.rest

abbrev pub decreases-loop-first : goal.decreases-loop-first
decreases-loop-first l = length l.rest
