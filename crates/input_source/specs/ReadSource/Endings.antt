-- How a source over a reader has ended.
use Rattle.std.specs.Prelude.{ℕ, Bool, true, false, List, [], Option, Some, None}
use Rattle.input_source.specs.declared.source.Reach.{Reach}
use Rattle.input_source.specs.declared.source.Reach.TheVariants.{Open, Ended as AtEnd, Failed as AtFault}
use Rattle.input_source.specs.Tape.{Ending, Ended, Failed, Stopped}

-- how it has, by what its reader answered
abbrev pub reach_ending : Reach → Option Ending
reach_ending Open = None
reach_ending AtEnd = Some Ended
reach_ending AtFault = Some Failed

-- by a fault
abbrev pub is_fault : Option Ending → Bool
is_fault None = false
is_fault (Some Ended) = false
is_fault (Some Failed) = true
is_fault (Some (Stopped limit)) = false

-- the bytes that were read and not taken stand ready until it has
abbrev pub ready_at : Reach → List ℕ → List ℕ
ready_at Open left = left
ready_at AtEnd left = []
ready_at AtFault left = []
