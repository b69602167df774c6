use Rattle.std.proofs.Common.{take}
use Rattle.input_source.proofs.Giving.{ready_behind, ready_taken}
use Rattle.input_source.proofs.source.ReadSourceByteSource.pass.Goals as goal

pub returns-clause-gives : goal.returns-clause-gives
returns-clause-gives g c =
    let now = c.args.self.now in
    ready_taken now.reach (take now.len now.block.items) now.next c.args.count (g.R.BlockRead.gives now.reader) (g.met.R.BlockRead.some now.reader) c.requires.some c.requires.within

pub returns-clause-ready : goal.returns-clause-ready
returns-clause-ready g c =
    let now = c.args.self.now in
    ready_behind now.reach (take now.len now.block.items) now.next c.args.count c.requires.some c.requires.within
