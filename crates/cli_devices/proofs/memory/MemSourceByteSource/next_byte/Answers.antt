use Rattle.std.proofs.Common.{refl}
use Rattle.input_source.specs.Tape.{Ended, Failed}
use Rattle.input_source.proofs.Giving.{told_byte, told_end}
use Rattle.cli_devices.proofs.memory.MemSourceByteSource.next_byte.Goals as goal

pub returns-in-Some-clause-gives : goal.returns-in-Some-clause-gives
returns-in-Some-clause-gives c = told_byte c.args.self.now.rest.now c.in-Some.rest.now _ c.in-Some.byte.now c.in-Some.ensures.cases.0

pub returns-in-None-clause-gives : goal.returns-in-None-clause-gives
returns-in-None-clause-gives c = told_end c.args.self.now.rest.now _ Failed c.in-None.ensures.cases (rw c.if-self.true refl)

pub returns-in-None-2-clause-gives : goal.returns-in-None-2-clause-gives
returns-in-None-2-clause-gives c = told_end c.args.self.now.rest.now _ Ended c.in-None.ensures.cases (rw c.if-self.false refl)
