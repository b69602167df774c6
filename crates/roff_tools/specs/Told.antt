-- What is told on standard error where a run doesn't start, and what is shown in place of one.
use Rattle.std.specs.Prelude.{◌≡◌, ◌⊎◌, ◌<◌, ℕ, List, length}
use Rattle.page_bytes.specs.Sinks.{Fails, Sunk, Writes}
use Rattle.roff_tools.specs.StartFault.{fault_line}
use Rattle.roff_tools.specs.declared.exit.Exit.{Exit}
use Rattle.roff_tools.specs.declared.exit.Exit.TheVariants.{Done, DeviceFailed}
use Rattle.roff_tools.specs.declared.fault.StartFault.{StartFault}
use Rattle.roff_tools.specs.declared.fault.StartFault.TheVariants.{OutOfMemory}

-- a text was told, and nothing else: all of it was written, or a beginning of it, as the sink failed
abbrev pub Tells : Sunk → Sunk → List ℕ → Type 0
Tells old new text = Writes old new text ⊎ Fails old new text

-- the line of a fault that is like this was told
pub record TellsFault (is : StartFault → Type 0) (old new : Sunk) : Type 0 where
  pub fault : StartFault
  pub names : is fault
  pub told : Tells old new (fault_line fault)

-- that there is no memory was told
abbrev pub TellsNoMemory : Sunk → Sunk → Type 0
TellsNoMemory old new = Tells old new (fault_line OutOfMemory)

-- a text that isn't empty was told
pub record TellsSome (old new : Sunk) : Type 0 where
  pub text : List ℕ
  pub some : 0 < length text
  pub told : Tells old new text

-- a text that isn't empty was written, and the program ends by how that went
pub record Shows (exit : Exit) (old new : Sunk) : Type 0 where
  pub text : List ℕ
  pub some : 0 < length text
  pub ends : ((exit ≡ Done) × Writes old new text) ⊎ ((exit ≡ DeviceFailed) × Fails old new text)
