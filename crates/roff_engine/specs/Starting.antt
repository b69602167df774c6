-- What is given to a run before anything is read.
use Rattle.std.specs.Prelude.{◌≡◌, ℕ, List, [], Result, Ok, Err}
use Rattle.roff_num.specs.declared.limit.Limit.{Limit}
use Rattle.roff_num.specs.declared.limits.Limits.{Limits}
use Rattle.roff_num.specs.declared.num.Num.{Num}
use Rattle.run_turns.specs.declared.running.Running.{Running as Coded}
use Rattle.run_items.specs.Room.{FewFor}
use Rattle.run_turns.specs.Running.Turning.{state_at}
use Rattle.read_lines.specs.Reader.Taken.{IsReady}
use Rattle.run_state.specs.Composer.Standing.{StandFor}
use Rattle.run_model.specs.Output.{PageHistory, written}
use Rattle.run_model.specs.Run.{stopped_by, with_registers}
use Rattle.input_source.specs.Tape.{Tape}

-- no count of what is read is above its limit, the unread input has the run's limits, and few events stand in front
pub record HasRoom (run : Coded) : Type 0 where
  pub ready : IsReady run.interpreter.reader.registers run.unread
  pub limits : run.unread.limits ≡ run.limits
  pub few : FewFor [] run.interpreter.reader.reading run.unread.input.escapes run.unread.input.ahead

-- registers were set, and the page got numbers, behind which the history is this: nothing else changed, and nothing is written
pub record SetsSome (old new : Coded) (history : PageHistory) : Type 0 where
  pub sets : new ≡ record old { interpreter = new.interpreter }
  pub reader : new.interpreter.reader ≡ record old.interpreter.reader { registers = new.interpreter.reader.registers }
  pub room : HasRoom old → HasRoom new
  pub quiet : written history ≡ []

-- those that are given were set, one after another, behind this history: the run stands where they leave the definition's
pub record Begins (first : PageHistory) (old new : Coded) (given : List (ℕ × Num)) : Type 0 where
  pub history : PageHistory
  pub some : SetsSome old new history
  pub goes_on : HasRoom old → (tape : Tape) → with_registers old.limits given (state_at tape old first []) ≡ state_at tape new history []
  pub stands : (l : Limits) → StandFor l first old.interpreter.formatter.composer → StandFor l history new.interpreter.formatter.composer

-- a limit refused one of them
pub record IsRefused (first : PageHistory) (old new : Coded) (given : List (ℕ × Num)) (limit : Limit) : Type 0 where
  pub history : PageHistory
  pub some : SetsSome old new history
  pub stops : HasRoom old → (tape : Tape) → with_registers old.limits given (state_at tape old first []) ≡ stopped_by old.limits limit (state_at tape new history [])

-- they were set, or one was refused, behind any history of which nothing is written
abbrev pub SetsGiven : Coded → Coded → List (ℕ × Num) → Result (Unit {0}) Limit → Type 0
SetsGiven old new given (Ok done) = (first : PageHistory) → written first ≡ [] → Begins first old new given
SetsGiven old new given (Err limit) = (first : PageHistory) → written first ≡ [] → IsRefused first old new given limit
