-- What leaving the input changes: what stands ahead, what is read, and what going back to that means, and that nothing more is taken. As
-- a run closes it changes what is read alone.
use Rattle.std.proofs.Common.{◌≡◌, refl}
use Rattle.run_model.specs.Run.{State, left_in}
use Rattle.run_model.specs.declared.phase.Phase.{Phase}
use Rattle.run_model.specs.declared.phase.Phase.TheVariants.{Reading, LastMacro, Closing}

-- the others stay
pub record IsLeft (s t : State) : Type 0 where
  pub charge : t.input.charge ≡ s.input.charge
  pub newlines : t.input.newlines ≡ s.input.newlines
  pub line : t.input.line ≡ s.input.line
  pub tape : t.tape ≡ s.tape
  pub registers : t.registers ≡ s.registers
  pub history : t.history ≡ s.history
  pub phase : t.phase ≡ s.phase
  pub ended : t.ended ≡ s.ended
  pub last_message : t.last_message ≡ s.last_message

pub IsLeft-left_in : (phase : Phase) (s : State) → IsLeft s (left_in phase s)
IsLeft-left_in Reading s = record {
  charge = refl;
  newlines = refl;
  line = refl;
  tape = refl;
  registers = refl;
  history = refl;
  phase = refl;
  ended = refl;
  last_message = refl;
}
IsLeft-left_in LastMacro s = record {
  charge = refl;
  newlines = refl;
  line = refl;
  tape = refl;
  registers = refl;
  history = refl;
  phase = refl;
  ended = refl;
  last_message = refl;
}
IsLeft-left_in Closing s = record {
  charge = refl;
  newlines = refl;
  line = refl;
  tape = refl;
  registers = refl;
  history = refl;
  phase = refl;
  ended = refl;
  last_message = refl;
}
