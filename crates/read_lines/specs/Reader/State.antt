-- What a reader has.
use Rattle.std.specs.Prelude.{ℕ}
use Rattle.read_meaning.specs.Meaning.{MeaningKept, nothing_kept}
use Rattle.run_model.specs.Registers.{no_registers}
use Rattle.run_model.specs.Registers.Capped.{Capped}
use Rattle.run_model.specs.declared.line_state.LineState.{LineState}
use Rattle.run_model.specs.declared.line_state.LineState.TheVariants.{LineStart}

-- what is being read of a line, the registers, and the meaning that is kept for a step
pub record ReaderState : Type 0 where
  pub reading : LineState
  pub registers : Capped
  pub meaning : MeaningKept

-- before the first line, with room for so many registers, and for titles of so many bytes
abbrev pub fresh_reader : ℕ → ℕ → ReaderState
fresh_reader cap line = record {
  reading = LineStart;
  registers = record { all = no_registers; cap = cap; line = line };
  meaning = nothing_kept;
}
