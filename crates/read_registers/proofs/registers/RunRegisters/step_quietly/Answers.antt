use Rattle.roff_store.specs.Registers.{Step}
use Rattle.read_registers.proofs.RegisterTables.{IsCounted-after}
use Rattle.read_registers.proofs.registers.RunRegisters.step_quietly.Goals as goal

pub invariant_of-self-2 : goal.invariant_of-self-2
invariant_of-self-2 c = IsCounted-after (Step c.args.name.now c.args.direction) c.self.inside.named _ c.step.ensures.table c.self.invariant
