use Rattle.roff_store.specs.Registers.{Step}
use Rattle.read_registers.proofs.RegisterTables.{IsCounted-after}
use Rattle.read_registers.proofs.registers.RunRegisters.step.Goals as goal

pub invariant_of-self : goal.invariant_of-self
invariant_of-self c = IsCounted-after (Step c.args.name.now c.args.direction) c.self.inside.named _ c.step.ensures.table c.self.invariant
