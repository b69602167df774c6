-- Steps of registers that nothing is said of.
use Rattle.std.specs.Prelude.{◌≡◌, ℕ, List, [], Some, false}
use Rattle.roff_num.specs.declared.direction.Direction.{Direction}
use Rattle.run_model.specs.Registers.{Known, StepBy, is_page, step_messages}
use Rattle.run_model.specs.Registers.Capped.{Capped, with_change}

-- the register of this name was stepped, which isn't the page number's, and nothing is said of it
pub record StepsQuietly (direction : Direction) (name : List ℕ) (old new : Capped) : Type 0 where
  pub changed : new ≡ with_change (StepBy name direction) old
  pub quiet : (k : Known) → k.registers ≡ old.all → step_messages (Some direction) name k ≡ []
  pub unnumbered : is_page name ≡ false
