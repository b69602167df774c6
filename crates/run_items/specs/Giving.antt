-- What is given to a run.
use Rattle.std.specs.Prelude.{◌≡◌, ℕ, Result}
use Rattle.roff_num.specs.declared.limit.Limit.{Limit}
use Rattle.roff_num.specs.declared.num.Num.{Num}
use Rattle.run_state.specs.Composer.Standing.{StandFor}
use Rattle.run_model.specs.Environments.{PageHistory}
use Rattle.run_model.specs.Registers.Capped.{change_admitted, after_change}
use Rattle.run_model.specs.Starts.{given_change, history_given}
use Rattle.roff_num.specs.declared.limits.Limits.{Limits}
use Rattle.run_items.specs.declared.interpreter.Interpreter.{Interpreter}

-- A register was given to a run, or the limit on names refused it: where it is the page number, the page has its value.
pub record Gives (name : ℕ) (value : Num) (old new : Interpreter) (result : Result (Unit {0}) Limit) : Type 0 where
  pub answer : result ≡ change_admitted (given_change name value) old.reader.registers
  pub reader : new.reader ≡ record old.reader { registers = after_change (given_change name value) old.reader.registers }
  pub stands : (l : Limits) (h : PageHistory) → StandFor l h old.formatter.composer → StandFor l (history_given (name, value) h) new.formatter.composer
