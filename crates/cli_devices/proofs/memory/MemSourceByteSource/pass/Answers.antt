use Rattle.input_source.proofs.Giving.{stays_ready, told_bytes}
use Rattle.cli_devices.proofs.memory.MemSourceByteSource.pass.Goals as goal

pub returns-clause-gives : goal.returns-clause-gives
returns-clause-gives c = rw c.split_at.ensures.back (told_bytes c.args.self.now.rest.now _ c.args.count)

pub returns-clause-ready : goal.returns-clause-ready
returns-clause-ready c = rw c.split_at.ensures.back (stays_ready c.args.count c.args.self.now.rest.now)
