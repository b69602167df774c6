-- What a run passed over at once.
use Rattle.std.specs.Prelude.{Bool, true, false, Result, Ok, Err}
use Rattle.run_model.specs.declared.status.Status.{Status}
use Rattle.run_shortcuts.specs.declared.passed.Passed.{Passed}
use Rattle.run_shortcuts.specs.declared.passed.Passed.TheVariants.{Line, Not, On}

-- whether a line begins behind what was passed over
abbrev pub begins_behind : Passed → Bool
begins_behind Not = false
begins_behind On = false
begins_behind Line = true

-- the same of an answer, or how the run ended
abbrev pub line_begun : Result Passed Status → Result Bool Status
line_begun (Ok passed) = Ok (begins_behind passed)
line_begun (Err status) = Err status

-- a line begins where the run goes on
abbrev pub ended_behind : Result (Unit {0}) Status → Result Passed Status
ended_behind (Ok done) = Ok Line
ended_behind (Err status) = Err status
