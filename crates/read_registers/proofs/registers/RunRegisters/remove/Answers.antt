use Rattle.roff_store.specs.Registers.{Remove}
use Rattle.read_registers.proofs.RegisterTables.{IsCounted-after}
use Rattle.read_registers.proofs.registers.RunRegisters.remove.Goals as goal

pub invariant_of-self : goal.invariant_of-self
invariant_of-self c = IsCounted-after (Remove c.args.name.now) c.self.inside.named _ c.remove.ensures c.self.invariant
