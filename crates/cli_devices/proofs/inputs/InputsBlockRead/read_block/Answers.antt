use Rattle.cli_devices.proofs.Joining.{first_failed}
use Rattle.cli_devices.proofs.inputs.InputsBlockRead.read_block.Goals as goal

pub returns-in-Error-clause-reads : goal.returns-in-Error-clause-reads
returns-in-Error-clause-reads g c =
    let failed = rw c.in-Error.is at c.read_block.ensures.reads in
    let first = c.in-Some.ensures in
    c.loop-part.invariant.0 _ (first_failed g.F.BlockRead.gives g.S.BlockRead.gives g.met.F.BlockRead.some g.met.S.BlockRead.some
    c.loop-part.self-inside.parts.items c.in-Some.part.now _ first.item.3.0 first.value failed)
