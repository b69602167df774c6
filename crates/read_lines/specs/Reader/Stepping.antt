-- A reader whose register was stepped.
use Rattle.std.specs.Prelude.{◌≡◌, ℕ, List}
use Rattle.roff_num.specs.declared.direction.Direction.{Direction}
use Rattle.read_lines.specs.Reader.State.{ReaderState}
use Rattle.read_registers.specs.Registers.Stepping.{StepsQuietly}

-- the register of this name was stepped, and nothing is said of it
pub record StepsReader (direction : Direction) (name : List ℕ) (old new : ReaderState) : Type 0 where
  pub registers : StepsQuietly direction name old.registers new.registers
  pub others : new ≡ record old { registers = new.registers }
