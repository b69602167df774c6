-- What became of a message: it was told, or the run ended.
use Rattle.std.specs.Prelude.{ℕ, List, Result, Ok, Err}
use Rattle.roff_num.specs.declared.limits.Limits.{Limits}
use Rattle.run_events.specs.declared.halt.Halt.{Halt}
use Rattle.run_items.specs.Halting.{Halts, line_told}
use Rattle.run_items.specs.Outcome.{Beginning, OutcomeOf, Seen, seen}
use Rattle.run_items.specs.Reporting.{IsTold, Tells}
use Rattle.run_model.specs.declared.status.Status.{Status}
use Rattle.page_bytes.specs.Sinks.{Sunk}
use Rattle.input_source.specs.Tape.{Tape}

-- a piece wasn't told, which halted the run on this line, and that was told
pub record HaltsTelling (l : Limits) (line : ℕ) (piece : List ℕ) (old new : Sunk) (status : Status) : Type 0 where
  pub halt : Halt
  pub mid : Sunk
  pub tells : Tells old mid piece (Err halt)
  pub ends : (t : Beginning) (left : Tape) (start : Seen) (failures : ℕ) (out : Sunk)
      → Halts l t left (line_told halt line line) halt start (seen failures out mid)
      → OutcomeOf l t left status start (seen failures out new)

-- a piece was told, or the run ended so
abbrev pub TellsOrHalts : Limits → ℕ → List ℕ → Sunk → Sunk → Result (Unit {0}) Status → Type 0
TellsOrHalts l line piece old new (Ok done) = IsTold old new piece
TellsOrHalts l line piece old new (Err status) = HaltsTelling l line piece old new status
